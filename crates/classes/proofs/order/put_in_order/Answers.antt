use mathlib.Core.Path.{sym, ◌∙◌}
use native.Mathlib.Omega.{arith}
use Rattle.std.proofs.lemmas.Result.{MatchResult-at_ok}
use Rattle.table.specs.Layout.{word}
use Rattle.classes.proofs.OrderLaws.{due_some, not_due, visited_ok, sweep_node, sweep_next, swept_none, swept, swept_over, swept_all}
use Rattle.classes.proofs.OrderedLaws.{ordered_unlooped}
use Rattle.classes.proofs.order.put_in_order.Goals as goal
use Rattle.classes.proofs.order.put_in_order.Goals.{then-is_due, else-is_due}

pub loop-g-init : goal.loop-g-init
loop-g-init c = swept_none c.requires.starting

pub node_in-h-requires : goal.node_in-h-requires
node_in-h-requires c =
    let s = c.requires in
    let n = s.open_listed.node c.loop-g.g-index c.loop-g-test.true in
    omega (arith, n, s.formed.partition.size)

pub is_due-requires : goal.is_due-requires
is_due-requires c =
    let s = c.requires in
    let l = c.loop-g.invariant in
    let h = c.node_in-h in
    let n = sweep_node s.sections.0 s.sections.1 s.formed.partition s.open_listed l c.loop-g-test.true h.result.0 h.ensures.0 in
    (omega (arith, n, s.sections.1.enough), omega (arith, n, l.ordering.marks_size))

pub visit-requires : goal.visit-requires
visit-requires c =
    let s = c.requires in
    let l = c.loop-g in
    let h = c.node_in-h in
    let a = due_some (word c.args.counts.now) l.marks h.result.0 _ c.is_due.ensures c.if-is_due.true in
    sweep_next s.sections.0 s.sections.1 s.formed.partition s.open_listed l.invariant c.loop-g-test.true h.result.0 h.ensures.0 a

-- no class leads to itself
pub unwrap-count-requires : goal.unwrap-count-requires
unwrap-count-requires c =
    let s = c.requires in
    visited_ok _ _ _ _ c.loop-g.marks c.node_in-h.result.0 c.visit.result c.visit.new.marks c.visit.new.order
    (ordered_unlooped _ _ s.sections.0 _ s.sections.1 _ s.formed.partition _ s.formed.ordered) c.visit.ensures

pub loop-g-preserved : goal.loop-g-preserved
loop-g-preserved c =
    let s = c.requires in
    let l = c.loop-g in
    let b = c.loop-g-test.true in
    let h = c.node_in-h in
    elim c.if-is_due.branch [
      | then-is_due w ↦ swept s.sections.0 s.sections.1 s.formed.partition s.open_listed l.invariant b h.result.0 h.ensures.0 _ _ _
          (MatchResult-at_ok _ _ _ w.unwrap-count.ensures w.visit.ensures) w.marks-is w.order-is w.count-is
      | else-is_due w ↦ swept_over s.sections.0 s.sections.1 s.formed.partition s.open_listed l.invariant b h.result.0 h.ensures.0
          (not_due (word c.args.counts.now) l.marks h.result.0 _ c.is_due.ensures w.if-is_due.false) w.marks-is w.order-is w.count-is
    ]

pub shape_of-marks : goal.shape_of-marks
shape_of-marks c = c.loop-g.invariant.ordering.marks_size
    ∙ sym c.requires.starting.marks_size

pub shape_of-order : goal.shape_of-order
shape_of-order c = c.loop-g.invariant.ordering.order_size
    ∙ sym c.requires.starting.order_size

pub returns : goal.returns
returns c =
    let s = c.requires in
    swept_all s.formed.partition s.open_listed c.loop-g.invariant c.loop-g-test.false
