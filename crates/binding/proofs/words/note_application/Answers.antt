use native.Mathlib.Omega.{arith}
use Rattle.values.proofs.NamedLaws.{name_inside}
use Rattle.binding.proofs.NotingLaws.{application_other, application_noted_lem, name_node}
use Rattle.binding.proofs.words.note_application.Goals as goal

pub value_name-name-requires : goal.value_name-name-requires
value_name-name-requires c =
    name_inside _ _ _ _ c.requires.head_names.readable _ c.requires.i_bound.0

pub node_in-least-requires : goal.node_in-least-requires
node_in-least-requires c =
    let b = name_node _ _ _ _ c.requires.head_names _ _ c.requires.i_bound.0 c.value_name-name.ensures.0 in
    omega (arith, b, c.requires.i_bound.1)

pub bounds-by-name : goal.bounds-by-name
bounds-by-name c =
    let b = name_node _ _ _ _ c.requires.head_names _ _ c.requires.i_bound.0 c.value_name-name.ensures.0 in
    omega (arith, b, c.requires.i_bound.1)

pub returns-then-i-least : goal.returns-then-i-least
returns-then-i-least c =
    application_noted_lem _ _ _ _ _ _ c.value_name-name.ensures.0 c.node_in-least.ensures.0 c.if-i-least.true

pub returns-else-i-least : goal.returns-else-i-least
returns-else-i-least c =
    application_other _ _ _ _ _ _ c.value_name-name.ensures.0 c.node_in-least.ensures.0 c.if-i-least.false
