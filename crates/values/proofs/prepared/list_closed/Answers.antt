use mathlib.Core.Path.{sym, ◌∙◌}
use native.Mathlib.Omega.{arith}
use Rattle.values.proofs.PreparedLaws.{closed_list_none, closed_list_skip, closed_list_put, closed_list_all}
use Rattle.values.proofs.prepared.list_closed.Goals as goal
use Rattle.values.proofs.prepared.list_closed.Goals.{then-is_closed_head, else-is_closed_head}

pub loop-i-init : goal.loop-i-init
loop-i-init c =
    let z = c.requires.order_len in
    closed_list_none _ _ _ _ _ _ z.0 z.1

pub is_closed_head-requires : goal.is_closed_head-requires
is_closed_head-requires c =
    let l = c.loop-i in
    let z = c.requires.formed.partition.size in record {
      sections = c.requires.sections.0;
      i_bound = (omega (arith, c.node_count-n.ensures.0, c.loop-i-test.true), c.requires.sections.1.enough, omega (arith, z));
    }

pub note_closed-requires : goal.note_closed-requires
note_closed-requires c =
    let l = c.loop-i in
    let o = l.invariant in
    let f = o.gathered.few in
    let t = c.loop-i-test.true in record {
      readable = record { sections = c.requires.sections.0; partition = c.requires.formed.partition; long = c.requires.names_len.0 };
      i_bound = (omega (arith, c.node_count-n.ensures.0, t), omega (arith, f, c.node_count-n.ensures.1, t));
      order_len = o.order_long;
    }

pub overflow_add-count : goal.overflow_add-count
overflow_add-count c =
    let l = c.loop-i in
    let f = l.invariant.gathered.few in
    omega (arith, f, c.node_count-n.ensures.1, l.auto.i-end)

pub loop-i-preserved : goal.loop-i-preserved
loop-i-preserved c =
    let l = c.loop-i in
    let f = l.invariant.gathered.few in
    let t = c.loop-i-test.true in
    let head = c.is_closed_head.ensures in
    elim c.if-is_closed_head.branch [
      | then-is_closed_head w ↦
          closed_list_put _ _ _ _ _ _ _ l.i l.invariant _ c.requires.formed.partition c.requires.sections.0 c.requires.names_len.0
          c.requires.names_len.1 (omega (arith, c.node_count-n.ensures.0, t)) (omega (arith, f, c.node_count-n.ensures.1, t)) _ head w.if-is_closed_head.true _ _
          w.note_closed.ensures w.order-is w.table-is w.count-is
      | else-is_closed_head w ↦
          closed_list_skip _ _ _ _ _ _ _ l.i l.invariant _ head w.if-is_closed_head.false w.order-is w.table-is w.count-is
    ]

pub shape_of-order : goal.shape_of-order
shape_of-order c = c.loop-i.invariant.order_long ∙ sym c.requires.order_len.0

pub returns : goal.returns
returns c =
    let l = c.loop-i in
    closed_list_all _ _ _ _ _ _ _ l.i _ c.node_count-n.ensures.0 c.node_count-n.ensures.1 l.auto.i-end c.loop-i-test.false l.invariant
