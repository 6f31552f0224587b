-- After each round the rows, the bits and the classes are right.
use Rattle.forcing.specs.Code.Forced.{Settling}
use Rattle.forcing.proofs.settled.settle.Given as goal

abbrev pub invariant-loop-rounds : goal.invariant-loop-rounds
invariant-loop-rounds l = Settling l.nodes l.arguments l.initial.known l.known l.can l.heads l.next
