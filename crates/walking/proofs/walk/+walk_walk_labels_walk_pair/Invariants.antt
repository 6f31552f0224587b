-- Each way round hands the branch on with one left term less to go, so the measure falls. Each way through the code is a law of the
-- definition that mirrors it.
use Prim.Native.Nat.{◌≤◌, ◌+◌, ◌*◌, ◌-◌, max}
use mathlib.Core.Path.{◌≡◌}
use Rattle.table.specs.Layout.{word}
use Rattle.branches.specs.Code.Known.{right_count}
use Rattle.branches.specs.Code.Walk.{Turning}
use Rattle.walking.proofs.walk.+walk_walk_labels_walk_pair.Given as goal

abbrev pub decreases-walk : goal.decreases-walk
decreases-walk l = 2 * (word l.known.now 578 - l.position.term) + 1

abbrev pub decreases-walk_labels : goal.decreases-walk_labels
decreases-walk_labels l = 2 * (word l.known.now 578 - l.position.term)

abbrev pub decreases-walk_pair : goal.decreases-walk_pair
decreases-walk_pair l = 2 * (word l.known.now 578 - l.position.term)

abbrev pub invariant-walk-loop-d : goal.invariant-walk-loop-d
invariant-walk-loop-d l =
    (l.m ≡ right_count l.known) × (l.d ≤ max l.initial.d (l.m + 1)) × (l.heads ≡ l.initial.heads) × (l.next ≡ l.initial.next) ×
    Turning l.nodes l.arguments l.known l.initial.heads l.initial.entry l.initial.out l.i l.initial.d l.at l.d l.entry l.out l.used
