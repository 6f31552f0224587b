-- The circle is gone around.
use lib.ListN.{length}
use Rattle.nodes.proofs.CircleLaws.{distance}
use Rattle.classes.proofs.RelabelLaws.{Passing}
use Rattle.classes.proofs.trail.relabel.Given as goal

abbrev pub invariant-loop-i : goal.invariant-loop-i
invariant-loop-i l = Passing l.next l.g l.to l.initial.heads l.i l.heads

abbrev pub decreases-loop-i : goal.decreases-loop-i
decreases-loop-i l = distance l.next l.g (length l.next) l.i
