use native.Mathlib.Omega.{arith}
use Rattle.binding.proofs.NotingLaws.{listed, name_node}
use Rattle.values.proofs.NamedLaws.{name_inside}
use Rattle.binding.proofs.words.binding_word.Goals as goal

pub value_name-name-requires : goal.value_name-name-requires
value_name-name-requires c =
    name_inside _ _ _ _ c.requires.head_names.readable _ (listed _ _ c.requires.k_in_bounds.1 _ _ c.requires.k_in_bounds.0 c.node_in-v.ensures.0)

pub node_in-requires : goal.node_in-requires
node_in-requires c =
    let b = name_node _ _ _ _ c.requires.head_names _ _ (listed _ _ c.requires.k_in_bounds.1 _ _ c.requires.k_in_bounds.0 c.node_in-v.ensures.0)
    c.value_name-name.ensures.0 in
    omega (arith, b, c.requires.k_in_bounds.2)

pub returns : goal.returns
returns c =
    rw (c.value_name-name.ensures.0, c.node_in-v.ensures.0) at c.node_in.ensures.0
