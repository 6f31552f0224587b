-- The nodes before node i are noted, and their variables are below end.
use Rattle.values.specs.Code.Present.{LeastBefore}
use Rattle.values.proofs.present.note_variables.Given as goal

abbrev pub invariant-loop-i : goal.invariant-loop-i
invariant-loop-i l = LeastBefore l.nodes l.least l.i l.end
