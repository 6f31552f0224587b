-- Of the right terms so far the row lacks only those that differ at once.
use Prim.Native.Nat.{◌≤◌}
use Rattle.ahead.specs.Code.Struck.{RowTo}
use Rattle.ahead.proofs.pairs.strike_row.Given as goal

abbrev pub invariant-loop-j : goal.invariant-loop-j
invariant-loop-j l = record { row : RowTo l.nodes l.arguments l.known l.heads l.i l.j l.may; few : l.joins ≤ l.j }
