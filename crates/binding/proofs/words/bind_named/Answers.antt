-- The open applications that are heads are put in order, and named behind the closed ones.
use Prim.Native.Nat.{ℕ, ◌-◌}
use mathlib.Core.Path.{◌≡◌, ◌∙◌}
use native.Mathlib.Omega.{arith}
use lib.ListN.{length, drop, replicate, length-append, length-replicate}
use Rattle.table.specs.Limits.{max_nodes}
use Rattle.unification.proofs.ListLaws.{first_long}
use Rattle.binding.proofs.NotingLaws.{open_applied}
use Rattle.binding.proofs.BindingLaws.{least_nodes_lem, heads_named, found_leaves, nothing_placed, ordered_part}
use Rattle.binding.proofs.words.bind_named.Goals as goal

pub put_in_order-count-requires : goal.put_in_order-count-requires
put_in_order-count-requires c =
    let p = c.requires in
    let n = c.node_count-n in record {
      sections = p.sections;
      formed = p.formed.0;
      open_listed = p.formed.1;
      starting = nothing_placed n.result _ n.ensures.0 n.ensures.1;
    }

pub slice_bounds-name_open-end : goal.slice_bounds-name_open-end
slice_bounds-name_open-end c =
    let t = c.put_in_order-count in
    let n = c.node_count-n in
    let l : length t.new.order ≡ n.result = t.auto.order ∙ first_long n.result n.ensures.1 in
    let k = length-append t.new.order (drop (n.result - 0) (replicate max_nodes 0)) in
    omega (arith, l, k, t.ensures.0, n.ensures.0)

pub name_open-requires : goal.name_open-requires
name_open-requires c =
    let p = c.requires in
    let t = c.put_in_order-count in
    let n = c.node_count-n in
    let l : length t.new.order ≡ n.result = t.auto.order ∙ first_long n.result n.ensures.1 in
    let o = ordered_part _ _ _ _ t.new.order (drop (n.result - 0) (replicate max_nodes 0)) t.result
    (omega (arith, l, t.ensures.0, n.ensures.0)) t.ensures.1 in
    let m = length-replicate {A = ℕ} max_nodes 0 in record {
      sections = p.sections;
      formed = p.formed.0;
      ordered = o;
      names_len = (p.names_len.0, p.names_len.1);
      order_len = (m, c.new-table.ensures);
    }

pub find_words-requires : goal.find_words-requires
find_words-requires c =
    let p = c.requires in
    let o = c.name_open in record {
      head_names = heads_named _ _ _ _ o.ensures.0 p.sections.0 p.formed.0.partition (o.auto.names ∙ p.names_len.0);
      are_applied = open_applied _ _ _ p.formed.1;
      are_nodes = (least_nodes_lem _ _ _ p.list_value.0, p.names_len.2, p.list_value.1);
    }

pub returns : goal.returns
returns c =
    let p = c.requires in
    let o = c.name_open in
    let m = heads_named _ _ _ _ o.ensures.0 p.sections.0 p.formed.0.partition (o.auto.names ∙ p.names_len.0) in
    found_leaves _ _ _ _ _ _ _ _ _ c.find_words.ensures m o.ensures.1 p.sections.1 p.formed.1 p.formed.0 p.list_value.0
