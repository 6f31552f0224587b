-- A number that is no node is refused, and two nodes are unified.
use mathlib.Core.Path.{refl, ◌∙◌}
use native.Mathlib.Omega.{arith}
use borrow.Author.Rules.{rules}
use Rattle.unification.proofs.ListLaws.{first_long}
use Rattle.unify.proofs.CallingLaws.{answers_node, nodes_given}
use Rattle.unify.proofs.call.unify_nodes.Goals as goal

pub returns-then-a-n : goal.returns-then-a-n
returns-then-a-n c = answers_node _ _ _ _ _ c.node_count-n.ensures _ c.if-a-n.true

pub unify_with_room-requires : goal.unify_with_room-requires
unify_with_room-requires c =
    let n = c.node_count-n in
    let i = c.index-count in
    let l = c.requires.limit in
    let long = first_long i.result (omega (arith, l, i.ensures.0, n.ensures)) ∙ i.ensures.0 ∙ n.ensures in record {
      sections = c.requires;
      a_bound = nodes_given c.args.nodes.now c.args.arguments.now _ _ _ n.ensures c.if-a-n.false;
      heads_len = (long, refl, search rules);
    }
