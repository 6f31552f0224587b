-- No label so far is wrong.
use mathlib.Core.Path.{◌≡◌}
use mathlib.Core.Bool.{false}
use mathlib.Core.List.{◌++◌}
use lib.ListN.{length}
use Rattle.table.specs.Some.{some_below}
use Rattle.table.specs.Conditions.{label_is_wrong}
use Rattle.checking.proofs.sides.wrong_labels.Given as goal

abbrev pub invariant-loop-i : goal.invariant-loop-i
invariant-loop-i l = (l.n ≡ length (l.left ++ l.right)) × (some_below l.i (label_is_wrong (l.left ++ l.right)) ≡ false)
