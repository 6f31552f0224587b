-- Each row is filled from the row after it, whose bits are right.
use Prim.Native.Nat.{◌≤◌, ◌-◌, ◌*◌, ℕ, ◌<◌}
use mathlib.Core.Path.{◌≡◌}
use Rattle.table.specs.Layout.{word}
use Rattle.branches.specs.Code.Known.{left_count}
use Rattle.ahead.specs.Code.Plan.{CompletableFrom}
use Rattle.ahead.proofs.plan.fill_rows.Given as goal

abbrev pub invariant-loop-i : goal.invariant-loop-i
invariant-loop-i l = record {
  within : l.i < left_count l.known;
  completable : CompletableFrom l.known l.can l.i;
  last : (p : ℕ) → 4 * (left_count l.known - 1) ≤ p → word l.can p ≡ word l.initial.can p;
}
