-- It comes back to the first node.
use Prim.Native.Nat.{ℕ, ◌<◌}
use lib.ListN.{length}
use Rattle.nodes.specs.Code.Circle.{Follows}
use Rattle.nodes.specs.Code.Uniting.{Circling}
use Rattle.nodes.proofs.CircleLaws.{distance}
use Rattle.classes.proofs.closure.is_shorter.Given as goal

abbrev pub invariant-loop-i : goal.invariant-loop-i
invariant-loop-i l = (n : ℕ) × Circling n l.next l.g × (l.i < n) × (l.j < n) × Follows l.next l.i l.g

abbrev pub decreases-loop-i : goal.decreases-loop-i
decreases-loop-i l = distance l.next l.g (length l.next) l.i
