use Prim.Native.Nat.{◌<◌}
use mathlib.Core.Path.{sym, ◌∙◌}
use native.Mathlib.Omega.{arith}
use lib.ListN.{length-set}
use Rattle.std.proofs.lemmas.Result.{err_from_is_err_and}
use Rattle.table.specs.Layout.{word}
use Rattle.classes.specs.declared.order.Mark.TheVariants.{Done}
use Rattle.classes.proofs.OrderLaws.{met_done, met_open, due_some, not_due, opened, fewer, visit_next, turned, turned_over, place_left, finished}
use Rattle.nodes.proofs.OpenLaws.{looked_at}
use Rattle.classes.proofs.order.+visit.Goals as goal
use Rattle.classes.proofs.order.+visit.Goals.{then-is_due+in_ok-count, else-is_due}

pub returns-in-Done : goal.returns-in-Done
returns-in-Done t c = met_done c.requires c.in-Done.is

pub returns-in-Open : goal.returns-in-Open
returns-in-Open t c = met_open c.requires c.in-Open.is

pub bounds-counts-i : goal.bounds-counts-i
bounds-counts-i t c =
    let v = c.requires in
    omega (arith, v.node, v.counts_right.enough)

pub loop-j-init : goal.loop-j-init
loop-j-init t c =
    let v = c.requires in
    let new = c.in-New.is in
    opened v.ordering v.node new

pub argument_head-g-requires : goal.argument_head-g-requires
argument_head-g-requires t c =
    let v = c.requires in record {
      sections = v.sections;
      partition = v.partition;
      node_bound = (v.node, looked_at v.counts_right _ _ v.node c.loop-j-test.true);
    }

pub is_due-requires : goal.is_due-requires
is_due-requires t c =
    let v = c.requires in
    let g = c.argument_head-g.ensures.1 in
    let m = c.loop-j.invariant.ordering.marks_size in
    (omega (arith, g, v.counts_right.enough), omega (arith, g, m))

pub visit-requires : goal.visit-requires
visit-requires t c =
    let v = c.requires in
    let new = c.in-New.is in
    let l = c.loop-j in
    let g = c.argument_head-g in
    let m = c.decreases in
    let f = fewer v new l.invariant in
    let a = due_some (word c.args.counts.now) l.marks g.result.0 _ c.is_due.ensures c.if-is_due.true in
    (omega (arith, m, f), visit_next v new l.invariant g.result.0 c.loop-j-test.true g.ensures.0 g.ensures.1 a)

pub shape_of-marks-in_err-count : goal.shape_of-marks-in_err-count
shape_of-marks-in_err-count t c =
    let v = c.requires in
    let k = c.visit.auto.marks in
    let o = c.loop-j.invariant.ordering in
    k ∙ o.marks_size ∙ sym v.ordering.marks_size

pub shape_of-order-in_err-count : goal.shape_of-order-in_err-count
shape_of-order-in_err-count t c =
    let v = c.requires in
    let k = c.visit.auto.order in
    let o = c.loop-j.invariant.ordering in
    k ∙ o.order_size ∙ sym v.ordering.order_size

pub returns-in_err-count : goal.returns-in_err-count
returns-in_err-count t c =
    let p = err_from_is_err_and c.from_residual.result c.from_residual.ensures.1 in
    rw p.1 c.in_err-count.ensures

pub loop-j-preserved : goal.loop-j-preserved
loop-j-preserved t c =
    let v = c.requires in
    let new = c.in-New.is in
    let l = c.loop-j in
    let g = c.argument_head-g in
    let b : l.j < word c.args.counts.now c.args.h.0 = c.loop-j-test.true in
    elim c.if-is_due.branch [
      | then-is_due+in_ok-count w ↦ turned v new l.invariant g.result.0 b g.ensures.0 _ _ _ w.in_ok-count.ensures w.marks-is
          w.order-is w.count-is
      | else-is_due w ↦ turned_over v new l.invariant g.result.0 b g.ensures.0
          (not_due (word c.args.counts.now) l.marks g.result.0 _ c.is_due.ensures w.if-is_due.false) w.marks-is w.order-is w.count-is
    ]

pub bounds-order-count : goal.bounds-order-count
bounds-order-count t c =
    let v = c.requires in
    let new = c.in-New.is in
    let t = c.loop-j.invariant in
    let w = c.loop-j-test.false in
    place_left v new t w

pub overflow_add-result : goal.overflow_add-result
overflow_add-result t c =
    let v = c.requires in
    let new = c.in-New.is in
    let t = c.loop-j.invariant in
    let w = c.loop-j-test.false in
    omega (arith, place_left v new t w)

pub shape_of-marks : goal.shape_of-marks
shape_of-marks t c =
    let l = c.loop-j in
    length-set l.marks c.args.h.0 Done ∙ l.invariant.ordering.marks_size ∙ sym c.requires.ordering.marks_size

pub shape_of-order : goal.shape_of-order
shape_of-order t c =
    let l = c.loop-j in
    length-set l.order l.count c.args.h.0 ∙ l.invariant.ordering.order_size ∙ sym c.requires.ordering.order_size

pub returns : goal.returns
returns t c =
    let v = c.requires in
    let new = c.in-New.is in
    let t = c.loop-j.invariant in
    let w = c.loop-j-test.false in
    finished v new t w
