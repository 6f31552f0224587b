-- No node so far has a wrong argument.
use mathlib.Core.Path.{◌≡◌}
use mathlib.Core.Bool.{false}
use Rattle.table.specs.Some.{some_below}
use Rattle.table.specs.Conditions.{run_is_wrong}
use Rattle.checking.proofs.nodes.wrong_arguments.Given as goal

abbrev pub invariant-loop-i : goal.invariant-loop-i
invariant-loop-i l = some_below l.i (run_is_wrong l.nodes l.arguments) ≡ false
