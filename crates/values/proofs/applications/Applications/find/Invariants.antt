-- The places from the cursor on are on the way, and the others on it do not pass.
use Prim.Native.Nat.{ℕ}
use mathlib.Core.Bool.{false}
use mathlib.Core.Logic.{◌⊎◌}
use Rattle.values.specs.Code.Applications.{OnWay, Reached}
use Rattle.values.proofs.ReachedLaws.{height}
use Rattle.values.proofs.applications.Applications.find.Given as goal

abbrev pub invariant-loop-cursor : goal.invariant-loop-cursor
invariant-loop-cursor g l = record {
  ahead : (q : ℕ) → Reached l.self.earlier l.cursor q → OnWay l.self l.key q;
  passed : (q : ℕ) → OnWay l.self l.key q → Reached l.self.earlier l.cursor q ⊎ goal.F-post g l.passes q false;
}

abbrev pub decreases-loop-cursor : goal.decreases-loop-cursor
decreases-loop-cursor g l = height l.cursor
