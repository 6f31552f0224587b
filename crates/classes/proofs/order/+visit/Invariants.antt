-- The measure is the number of new nodes: a visit opens one before it visits others. A head that is not due is done already, or none of its
-- arguments is looked at.
use Rattle.table.specs.Layout.{word, node_count}
use Rattle.unification.specs.Code.Heads.{count_below}
use Rattle.classes.specs.Code.Ordering.{is_new, Turn}
use Rattle.classes.proofs.order.+visit.Given as goal

abbrev pub decreases-visit : goal.decreases-visit
decreases-visit l = count_below (node_count l.nodes.now) (is_new l.marks.now)

abbrev pub invariant-loop-j : goal.invariant-loop-j
invariant-loop-j l = Turn l.nodes l.arguments (word l.counts) l.heads l.initial.marks l.h.0 l.marks l.order l.count l.j
