-- The variable's least node is the least with its term.
use native.Mathlib.Omega.{arith}
use Rattle.values.proofs.LeastLaws.{name_within}
use Rattle.values.proofs.VariableLaws.{variable_put, variable_shared}
use Rattle.values.proofs.beginning.share_variable.Goals as goal

pub least_node-h-requires : goal.least_node-h-requires
least_node-h-requires c =
    let b = name_within _ _ _ _ c.requires.heads_before.0.sections c.requires.heads_before.1 c.requires.heads_before.2 c.variable-variable.ensures in
    let l = c.requires.least_before.0.long in
    let y = c.requires.heads_before.0.sections.limit in
    (omega (arith, b, l), omega (arith, y, c.requires.heads_before.1))

pub put_head-requires : goal.put_head-requires
put_head-requires c =
    let p = variable_put _ _ _ _ _ _ _ _ c.requires.heads_before.0 c.requires.heads_before.1 c.requires.heads_before.2 c.requires.least_before.0
    c.variable-variable.ensures
    c.node_count-n.ensures.0 _ _ c.least_node-h.ensures _ c.requires.least_before.1 in
    record { i_in_bounds = p.0; by_index = p.1 }

pub past-requires : goal.past-requires
past-requires c = (
  c.requires.least_before.0.within,
  name_within _ _ _ _ c.requires.heads_before.0.sections c.requires.heads_before.1 c.requires.heads_before.2
      c.variable-variable.ensures,
)

pub returns : goal.returns
returns c =
    let p = variable_shared _ _ _ _ _ _ _ _ c.requires.heads_before.0 c.requires.heads_before.1 c.requires.heads_before.2 c.requires.least_before.0
    c.variable-variable.ensures
    c.node_count-n.ensures.0 _ _ c.least_node-h.ensures _ _ _ _ c.put_head.ensures c.past.ensures in
    record { heads_before_2 = p.0; least_before_2 = p.1.0; by_index = p.1.1 }
