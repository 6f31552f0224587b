-- Every row stays right, and where none became smaller, what is known is as before.
use mathlib.Core.Path.{◌≡◌}
use mathlib.Core.Bool.{false}
use Rattle.branches.specs.Code.Known.{left_count, KeepsKnown}
use Rattle.ahead.specs.Code.Struck.{RowsTo}
use Rattle.ahead.proofs.pairs.try_pairs.Given as goal

abbrev pub invariant-loop-i : goal.invariant-loop-i
invariant-loop-i l = record {
  keeps : KeepsKnown l.initial.known l.known;
  rows : RowsTo l.nodes l.arguments l.known l.initial.heads (left_count l.initial.known);
  same : l.fewer ≡ false → l.known ≡ l.initial.known;
  heads_same : l.heads ≡ l.initial.heads;
  next_same : l.next ≡ l.initial.next;
}
