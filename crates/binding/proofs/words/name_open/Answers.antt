-- The order is the closed applications and the open ones behind them.
use mathlib.Core.Path.{refl, ◌∙◌}
use native.Mathlib.Omega.{arith}
use Rattle.binding.proofs.PrefixLaws.{prefix_few, first_few, order_put, prefix_naming, prefix_least}
use Rattle.binding.proofs.words.name_open.Goals as goal

pub list_closed-start-requires : goal.list_closed-start-requires
list_closed-start-requires c = let p = c.requires in record {
  sections = p.sections;
  formed = p.formed;
  names_len = p.names_len;
  order_len = p.order_len;
}

pub overflow_add-end : goal.overflow_add-end
overflow_add-end c =
    let p = c.requires in
    let d = c.list_closed-start in
    let l = d.auto.order ∙ p.order_len.0 in
    let few = prefix_few _ _ p.sections.0 _ _ p.sections.1 p.formed _ _ d.ensures.listed p.ordered in
    let m = first_few d.new.order d.result l d.ensures.few in
    omega (arith, few, m)

pub put_bytes-requires : goal.put_bytes-requires
put_bytes-requires c =
    let p = c.requires in
    let d = c.list_closed-start in
    let l = d.auto.order ∙ p.order_len.0 in
    let few = prefix_few _ _ p.sections.0 _ _ p.sections.1 p.formed _ _ d.ensures.listed p.ordered in
    let m = first_few d.new.order d.result l d.ensures.few in
    omega (arith, few, m, l)

pub slice_bounds-name_all-end : goal.slice_bounds-name_all-end
slice_bounds-name_all-end c =
    let p = c.requires in
    let d = c.list_closed-start in
    let l = d.auto.order ∙ p.order_len.0 in
    let few = prefix_few _ _ p.sections.0 _ _ p.sections.1 p.formed _ _ d.ensures.listed p.ordered in
    let m = first_few d.new.order d.result l d.ensures.few in
    let b = c.put_bytes.auto.to in
    omega (arith, few, m, l, b)

pub name_all-requires : goal.name_all-requires
name_all-requires c =
    let p = c.requires in
    let d = c.list_closed-start in
    let l = d.auto.order ∙ p.order_len.0 in
    let b = c.put_bytes in
    let e = order_put c.args.placed.now d.new.order b.new.to d.result _ l d.ensures.few refl b.ensures in
    let m = e.1 in
    let n = prefix_naming _ _ p.sections.0 _ _ p.sections.1 p.formed _ _ d.ensures.listed p.ordered _ e.0 _ p.names_len.0 p.names_len.1
    _ d.ensures.chained in
    let r = rw m at n in record { naming = r.0; start_in_bounds = r.1 }

pub returns : goal.returns
returns c =
    let p = c.requires in
    let d = c.list_closed-start in
    let l = d.auto.order ∙ p.order_len.0 in
    let b = c.put_bytes in
    let e = order_put c.args.placed.now d.new.order b.new.to d.result _ l d.ensures.few refl b.ensures in
    let m = c.name_all.ensures in
    (m.named, prefix_least _ _ p.sections.0 _ _ p.sections.1 p.formed _ _ d.ensures.listed p.ordered _ e.0 _ m)
