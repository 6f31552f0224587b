-- The classes stand for what every choice has, left term by left term.
use Rattle.branches.specs.Code.Walk.{Based}
use Rattle.forcing.proofs.forced.force_lefts.Given as goal

abbrev pub invariant-loop-i : goal.invariant-loop-i
invariant-loop-i l = Based l.nodes l.arguments l.known l.heads l.next
