-- Each way through it is a law of `LeafLaws`, with the numbers that it reads from what is known.
use native.Mathlib.Omega.{arith}
use Rattle.walking.proofs.LeafLaws.{leaf_unpaired, leaf_paired, leaf_full, read_least, read_written}
use Rattle.walking.proofs.walk.write_leaf.Goals as goal

pub returns-then-k-paired : goal.returns-then-k-paired
returns-then-k-paired c =
    let g = c.requires in
    leaf_unpaired g _ _ c.at-k.ensures.0 c.at.ensures.0 c.if-k-paired.true

pub returns-then-out-at : goal.returns-then-out-at
returns-then-out-at c =
    let g = c.requires in
    leaf_full g (leaf_paired g _ _ c.at-k.ensures.0 c.at.ensures.0 c.if-k-paired.false)
    c.if-out-at.true

pub write_rights-requires-clause-nonzero : goal.write_rights-requires-clause-nonzero
write_rights-requires-clause-nonzero c =
    let g = c.requires in
    let d = c.at-k.ensures.0 in
    let w = leaf_paired g _ _ d c.at.ensures.0 c.if-k-paired.false in
    let p = c.put_words in
    let q = p.auto.entry in
    (omega (arith, g.wide, g.branching.size, q), read_least g w p.ensures q _ _ _ d c.at-n.ensures.0 c.at-2.ensures.0)

pub returns : goal.returns
returns c =
    let g = c.requires in
    let d = c.at-k.ensures.0 in
    let w = leaf_paired g _ _ d c.at.ensures.0 c.if-k-paired.false in
    let p = c.put_words in
    read_written g w p.ensures p.auto.entry _ _ _ d c.at-n.ensures.0
    c.at-2.ensures.0 c.write_rights.ensures
