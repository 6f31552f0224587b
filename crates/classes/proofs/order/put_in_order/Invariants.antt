-- The heads of the nodes of the list so far are done, if arguments of theirs are looked at, and no node is open. As there is an order, no
-- class leads to itself.
use Rattle.table.specs.Layout.{word}
use Rattle.classes.specs.Code.Ordering.{Sweep}
use Rattle.classes.proofs.order.put_in_order.Given as goal

abbrev pub invariant-loop-g : goal.invariant-loop-g
invariant-loop-g l = Sweep l.nodes l.arguments (word l.counts) l.heads l.opens l.marks l.order l.count l.g-index
