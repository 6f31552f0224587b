-- A head with no arguments that are looked at is ordered by itself. From another the only argument that leads on is followed: where there
-- is an order for the head that is come to, there is one for the first. A head that was noted on the way leads to itself where it is come
-- to again.
use Rattle.table.specs.Layout.{word}
use Rattle.classes.specs.Code.Ordering.{Followed}
use Rattle.classes.proofs.order.leads_back.Given as goal

abbrev pub invariant-loop-steps : goal.invariant-loop-steps
invariant-loop-steps l =
    Followed l.nodes l.arguments (word l.counts) l.heads l.h.0 l.g.0 × Followed l.nodes l.arguments (word l.counts) l.heads l.noted.0 l.g.0
