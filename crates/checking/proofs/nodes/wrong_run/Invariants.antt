-- No argument of the node so far is wrong.
use mathlib.Core.Path.{◌≡◌}
use mathlib.Core.Bool.{false}
use Rattle.table.specs.Some.{some_below}
use Rattle.table.specs.Conditions.{argument_is_wrong}
use Rattle.checking.proofs.nodes.wrong_run.Given as goal

abbrev pub invariant-loop-argument : goal.invariant-loop-argument
invariant-loop-argument l = some_below l.argument-index (argument_is_wrong l.nodes l.arguments l.node.0) ≡ false
