-- The nodes before place p have their names.
use Rattle.values.specs.Code.Naming.{Naming}
use Rattle.values.proofs.names.name_all.Given as goal

abbrev pub invariant-loop-p : goal.invariant-loop-p
invariant-loop-p l = Naming l.nodes l.arguments l.heads l.order l.names l.table l.p
