-- The classes of no pair stand for none, and each part of what is known is put where it is read.
use mathlib.Core.Path.{refl, ◌∙◌}
use native.Mathlib.Omega.{arith}
use lib.ListN.{length-set}
use Rattle.listing.proofs.CallingLaws.{left_bytes, right_bytes, begun}
use Rattle.listing.proofs.call.begin.Goals as goal

pub returns : goal.returns
returns c =
    let p = c.requires in
    let b = c.begin_shared-begun.ensures in
    begun p.listable b.begins_shared refl b.trailed (b.by_index.1 ∙ p.heads_len.2) b.counts b.opens_lt_max_nodes b.open_listed refl
    c.put_sides.ensures
