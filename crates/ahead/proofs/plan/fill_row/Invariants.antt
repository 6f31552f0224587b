-- The words before word x are filled from the row after it, which stays.
use Rattle.ahead.specs.Code.Plan.{FillsRow}
use Rattle.ahead.proofs.plan.fill_row.Given as goal

abbrev pub invariant-loop-x : goal.invariant-loop-x
invariant-loop-x l = FillsRow l.initial.can l.t l.x l.row l.stay l.can
