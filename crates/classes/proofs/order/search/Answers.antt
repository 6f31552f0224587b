-- The head is visited, with no node marked.
use mathlib.Core.Path.{◌∙◌}
use Rattle.unification.proofs.ListLaws.{first_long}
use Rattle.classes.proofs.OrderLaws.{visit_first, starting, searched_visited}
use Rattle.classes.proofs.order.search.Goals as goal

pub visit-requires : goal.visit-requires
visit-requires c =
    let s = c.requires in
    let n = c.node_count-n in
    visit_first s.sections.0 s.sections.1 s.partition (starting n.result (first_long n.result n.ensures.1 ∙ n.ensures.0) n.ensures.0
    n.ensures.1) s.h_bound.0 s.h_bound.2

pub returns : goal.returns
returns c =
    let s = c.requires in
    rw c.is_err.ensures.value
    (searched_visited _ _ _ _ _ c.args.h.0 c.args.h.0 c.visit.result c.visit.new.marks c.visit.new.order s.h_bound.1 s.h_bound.0 c.visit.ensures)
