use mathlib.Core.Path.{refl}
use native.Mathlib.Omega.{arith}
use Rattle.ahead.proofs.PlanLaws.{fill_turn}
use Rattle.ahead.proofs.plan.fill_row.Goals as goal

pub loop-x-preserved : goal.loop-x-preserved
loop-x-preserved c = fill_turn c.loop-x.invariant (omega arith) (omega arith) c.sets_before-w.ensures refl
