-- Of the nodes before i, the closed applications with arguments that are heads are listed, and stand in the table.
use Rattle.values.proofs.PreparedLaws.{ClosedBefore}
use Rattle.values.proofs.prepared.list_closed.Given as goal

abbrev pub invariant-loop-i : goal.invariant-loop-i
invariant-loop-i l = ClosedBefore l.nodes l.arguments l.counts l.heads l.order l.table l.count l.i
