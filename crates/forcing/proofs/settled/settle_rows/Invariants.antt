-- The rows before row i are tried, and `fewer` counts those that have fewer pairs.
use Prim.Native.Nat.{◌≤◌}
use mathlib.Core.Path.{◌≡◌}
use Rattle.branches.specs.Code.Known.{KeepsKnown}
use Rattle.branches.specs.Code.Walk.{Based}
use Rattle.forcing.proofs.settled.settle_rows.Given as goal

abbrev pub invariant-loop-i : goal.invariant-loop-i
invariant-loop-i l = record {
  few : l.fewer ≤ l.i;
  keeps : KeepsKnown l.initial.known l.known;
  based : Based l.nodes l.arguments l.known l.heads l.next;
  same : l.fewer ≡ 0 → l.known ≡ l.initial.known;
}
