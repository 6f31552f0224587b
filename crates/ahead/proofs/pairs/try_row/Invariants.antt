-- Of the right terms so far the row lacks only those that were no partners, or failed.
use mathlib.Core.Path.{◌≡◌}
use Rattle.ahead.specs.Code.Struck.{RowTo}
use Rattle.ahead.proofs.pairs.try_row.Given as goal

abbrev pub invariant-loop-j : goal.invariant-loop-j
invariant-loop-j l = record {
  row : RowTo l.nodes l.arguments l.known l.initial.heads l.i l.j l.may;
  heads_same : l.heads ≡ l.initial.heads;
  next_same : l.next ≡ l.initial.next;
}
