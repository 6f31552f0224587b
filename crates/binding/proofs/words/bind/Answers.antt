-- The words are found by heads alone where there is no open application, or where the heads of the variables have no arguments.
use mathlib.Core.Path.{◌∙◌}
use native.Mathlib.Omega.{arith}
use Rattle.table.specs.Layout.{node_count}
use Rattle.unification.proofs.ListLaws.{first_long}
use Rattle.binding.proofs.BindingLaws.{least_nodes_lem}
use Rattle.binding.proofs.PlainLaws.{heads_below, nodes_headed, plain_test, plain_leaves}
use Rattle.binding.proofs.words.bind.Goals as goal

pub all_plain-requires : goal.all_plain-requires
all_plain-requires c =
    let q = c.requires.formed.0.partition in record {
      sections = c.requires.sections.0;
      all_below = (
        nodes_headed c.args.nodes.now _ _ q (least_nodes_lem _ _ _ c.requires.list_value.0),
        heads_below (node_count c.args.nodes.now) (node_count c.args.nodes.now) _ (omega arith) q,
      );
    }

pub bind_plain-requires : goal.bind_plain-requires
bind_plain-requires c =
    let q = c.requires.formed.0.partition in record {
      all_below = (
        nodes_headed c.args.nodes.now _ _ q (least_nodes_lem _ _ _ c.requires.list_value.0),
        heads_below (node_count c.args.nodes.now) (node_count c.args.nodes.now) _ (omega arith) q,
      );
      list_in_bounds = c.requires.list_value.1;
    }

pub returns-then-opens-all_plain : goal.returns-then-opens-all_plain
returns-then-opens-all_plain c =
    let p = c.requires in
    let t = plain_test _ _ _ _ c.args.opens.now _ p.formed.1 c.all_plain.ensures c.if-opens-all_plain.true in
    plain_leaves _ _ _ _ _ _ _ p.sections.0 p.sections.1 p.formed.0 p.list_value.0 t c.bind_plain.ensures

pub bind_with_room-requires : goal.bind_with_room-requires
bind_with_room-requires c =
    let p = c.requires in
    let n = c.node_count-n in
    let l = first_long n.result n.ensures.1 ∙ n.ensures.0 in record {
      sections = p.sections;
      formed = p.formed;
      list_value = p.list_value;
      names_len = (l, l);
    }
