use mathlib.Core.Path.{◌≡◌, refl}
use mathlib.Core.Bool.{true}
use native.Mathlib.Omega.{arith}
use borrow.Author.Rules.{rules}
use Rattle.table.specs.Some.{some_below}
use Rattle.table.specs.Layout.{counts_before}
use Rattle.checking.proofs.LoopLaws.{NodeTested, node_wrong, node_right, count_small, earlier_next, nodes_end}
use Rattle.checking.proofs.nodes.wrong_nodes.Goals as goal
use Rattle.checking.proofs.nodes.wrong_nodes.Goals.{After-right_node}

tested : (c : After-right_node) → NodeTested c.args.nodes.now c.loop-i.i c.count-count.result c.loop-i.earlier c.right_node.result
tested c =
    record {
      kind = c.kind.result;
      name = c.name.result;
      first = c.first.result;
      the_kind = c.kind.ensures;
      the_name = c.name.ensures;
      the_first = c.first.ensures;
      the_count = c.count-count.ensures;
      the_sum = c.loop-i.invariant.0;
      tested = c.right_node.ensures;
    }

pub loop-i-init : goal.loop-i-init
unfolding some_below counts_before
loop-i-init c = (refl, search rules, refl)

pub returns-then-not-right_node : goal.returns-then-not-right_node
returns-then-not-right_node c = node_wrong (tested (goal.at.returns-then-not-right_node c).After-right_node) (search rules) c.if-not-right_node.true _

pub overflow_add-earlier : goal.overflow_add-earlier
overflow_add-earlier c = omega (arith, count_small (tested (goal.at.overflow_add-earlier c).After-right_node) c.if-not-right_node.false)

pub loop-i-preserved : goal.loop-i-preserved
loop-i-preserved c =
    let s = tested (goal.at.loop-i-preserved c).After-right_node in
    let q : c.right_node.result ≡ true = c.if-not-right_node.false in
    (earlier_next s, omega (arith, count_small s q), node_right s q c.loop-i.invariant.2)

pub returns : goal.returns
returns c =
    nodes_end _ _ c.loop-i.i _ c.loop-i.invariant.0 (search rules) (search rules) c.loop-i.invariant.2
