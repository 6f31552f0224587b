-- The classes stand for what every choice has, right term by right term.
use Rattle.branches.specs.Code.Walk.{Based}
use Rattle.forcing.proofs.forced.force_rights.Given as goal

abbrev pub invariant-loop-j : goal.invariant-loop-j
invariant-loop-j l = Based l.nodes l.arguments l.known l.heads l.next
