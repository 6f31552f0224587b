use mathlib.Core.Path.{sym, ◌∙◌}
use native.Mathlib.Omega.{arith}
use Rattle.binding.proofs.NotingLaws.{listed, head_node, name_node, free_noted_lem, free_other}
use Rattle.values.proofs.NamedLaws.{name_inside}
use Rattle.binding.proofs.words.note_free_variable.Goals as goal

pub node_in-head-requires : goal.node_in-head-requires
node_in-head-requires c =
    (name_inside _ _ _ _ c.requires.head_names.readable _ (listed _ _ c.requires.k_in_bounds.1 _ _ c.requires.k_in_bounds.0 c.node_in-v.ensures.0)).0

pub is_variable-requires : goal.is_variable-requires
is_variable-requires c =
    head_node _ _ _ _ c.requires.head_names _ _ (listed _ _ c.requires.k_in_bounds.1 _ _ c.requires.k_in_bounds.0 c.node_in-v.ensures.0)
    c.node_in-head.ensures.0

pub value_name-name-requires : goal.value_name-name-requires
value_name-name-requires c =
    name_inside _ _ _ _ c.requires.head_names.readable _ (listed _ _ c.requires.k_in_bounds.1 _ _ c.requires.k_in_bounds.0 c.node_in-v.ensures.0)

pub bounds-by-name : goal.bounds-by-name
bounds-by-name c =
    let b = name_node _ _ _ _ c.requires.head_names _ _ (listed _ _ c.requires.k_in_bounds.1 _ _ c.requires.k_in_bounds.0 c.node_in-v.ensures.0)
    c.value_name-name.ensures.0 in
    omega (arith, b, c.requires.k_in_bounds.2)

pub returns-then-is_variable : goal.returns-then-is_variable
returns-then-is_variable c =
    free_noted_lem _ _ _ _ _ _ _ _ _ c.node_in-v.ensures.0 c.node_in-head.ensures.0 (sym c.is_variable.ensures ∙ c.if-is_variable.true)
    c.value_name-name.ensures.0

pub returns-else-is_variable : goal.returns-else-is_variable
returns-else-is_variable c =
    free_other _ _ _ _ _ _ _ _ c.node_in-v.ensures.0 c.node_in-head.ensures.0 (sym c.is_variable.ensures ∙ c.if-is_variable.false)
