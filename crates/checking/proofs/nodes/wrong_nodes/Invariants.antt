-- `earlier` is the sum of the counts so far, and no node so far is wrong.
use Prim.Native.Nat.{◌≤◌, ◌*◌}
use mathlib.Core.Path.{◌≡◌}
use mathlib.Core.Bool.{false}
use Rattle.table.specs.Limits.{max_count}
use Rattle.table.specs.Some.{some_below}
use Rattle.table.specs.Layout.{counts_before}
use Rattle.table.specs.Conditions.{node_is_wrong}
use Rattle.checking.proofs.nodes.wrong_nodes.Given as goal

abbrev pub invariant-loop-i : goal.invariant-loop-i
invariant-loop-i l = (l.earlier ≡ counts_before l.nodes l.i) × (l.earlier ≤ max_count * l.i) ×
    (some_below l.i (node_is_wrong l.nodes) ≡ false)
