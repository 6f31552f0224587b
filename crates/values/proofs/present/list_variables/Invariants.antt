-- The least nodes of the variables below x stand in the list.
use Rattle.values.proofs.LeastLaws.{PresentBefore}
use Rattle.values.proofs.present.list_variables.Given as goal

abbrev pub invariant-loop-x : goal.invariant-loop-x
invariant-loop-x l = PresentBefore l.least l.n l.initial.counts l.counts l.count l.x
