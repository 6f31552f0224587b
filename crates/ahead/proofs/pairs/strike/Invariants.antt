-- The rows before row i lack only pairs that differ at once, and nothing else changes.
use Prim.Native.Nat.{◌≤◌, ◌*◌}
use Rattle.branches.specs.Code.Known.{KeepsKnown}
use Rattle.ahead.specs.Code.Struck.{RowsTo}
use Rattle.ahead.proofs.pairs.strike.Given as goal

abbrev pub invariant-loop-i : goal.invariant-loop-i
invariant-loop-i l = record {
  few : l.joins ≤ 8 * l.i;
  keeps : KeepsKnown l.initial.known l.known;
  rows : RowsTo l.nodes l.arguments l.known l.heads l.i;
}
