-- No label so far is equal to label i.
use mathlib.Core.Path.{◌≡◌}
use mathlib.Core.Bool.{false}
use mathlib.Core.List.{◌++◌}
use Rattle.table.specs.Some.{some_below}
use Rattle.table.specs.Conditions.{labels_are_equal}
use Rattle.checking.proofs.sides.repeated_label.Given as goal

abbrev pub invariant-loop-j : goal.invariant-loop-j
invariant-loop-j l = some_below l.j (labels_are_equal (l.left ++ l.right) l.i) ≡ false
