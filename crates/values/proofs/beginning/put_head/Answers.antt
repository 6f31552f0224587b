-- A node that is its own head begins a circle, any other is put behind its head.
use native.Mathlib.Omega.{arith}
use lib.ListN.{length-set}
use Rattle.values.proofs.CirclesBeginLaws.{head_begins, head_grows}
use Rattle.values.proofs.beginning.put_head.Goals as goal

pub returns-then-h-i : goal.returns-then-h-i
returns-then-h-i c =
    head_begins _ _ _ _ c.requires.i_in_bounds.0 c.requires.i_in_bounds.1 c.requires.by_index.1 c.requires.by_index.0 c.if-h-i.true

pub bounds-next-h-2 : goal.bounds-next-h-2
bounds-next-h-2 c =
    simp length-set (omega (arith, c.requires.i_in_bounds.0, c.requires.i_in_bounds.1, c.requires.i_in_bounds.2, c.requires.by_index.1.size))

pub returns : goal.returns
returns c =
    head_grows _ _ _ _ c.requires.i_in_bounds.0 c.requires.i_in_bounds.1 c.requires.by_index.1 c.requires.i_in_bounds.2 c.requires.i_in_bounds.3
    c.if-h-i.false
