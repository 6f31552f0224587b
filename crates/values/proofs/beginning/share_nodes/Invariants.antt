-- The nodes before i have their heads, are in circles and are counted.
use Rattle.nodes.specs.Code.Circle.{CirclesBefore}
use Rattle.values.specs.Code.Present.{LeastBefore}
use Rattle.values.specs.Code.Prepared.{OpenBefore}
use Rattle.values.specs.Code.Start.{Sharing}
use Rattle.values.proofs.beginning.share_nodes.Given as goal

abbrev pub invariant-loop-i : goal.invariant-loop-i
invariant-loop-i l =
    Sharing l.nodes l.arguments l.heads l.table l.i × LeastBefore l.nodes l.least l.i l.counted.end ×
    CirclesBefore l.heads l.next l.i × OpenBefore l.nodes l.arguments l.initial.counts l.counts l.counted.opens l.i
