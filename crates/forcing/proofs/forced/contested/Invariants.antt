-- What more than one row before row i has is in the second set.
use Rattle.forcing.specs.Code.Forced.{TakenBefore}
use Rattle.forcing.proofs.forced.contested.Given as goal

abbrev pub invariant-loop-i : goal.invariant-loop-i
invariant-loop-i l = TakenBefore l.known l.i l.once l.twice
