-- The measure is the number of classes: two are joined before their heads' arguments are. Each way out is one of the ways in which two
-- classes are joined.
use Rattle.table.specs.Layout.{node_count}
use Rattle.unification.specs.Code.Heads.{roots}
use Rattle.classes.proofs.JoinLaws.{Advances, first_pairs}
use Rattle.classes.proofs.closure.+join.Given as goal

abbrev pub decreases-join : goal.decreases-join
decreases-join l = roots (node_count l.nodes.now) l.heads.now

abbrev pub invariant-loop-k : goal.invariant-loop-k
invariant-loop-k l =
    Advances l.nodes l.arguments l.counts l.initial.heads l.initial.next (first_pairs l.nodes l.arguments l.g l.h l.k) l.heads l.next
