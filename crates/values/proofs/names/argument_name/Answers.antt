-- An argument and its head are nodes.
use native.Mathlib.Omega.{arith}
use Rattle.values.proofs.NamedLaws.{name_inside}
use Rattle.values.proofs.names.argument_name.Goals as goal

pub argument-requires : goal.argument-requires
argument-requires c = record {
  sections = c.requires.readable.sections;
  node_bound = c.requires.h_bound;
}

pub value_name-requires : goal.value_name-requires
value_name-requires c =
    name_inside _ _ _ _ c.requires.readable c.argument.result.0 (omega (arith, c.requires.h_bound.0, c.argument.ensures.1))

pub returns : goal.returns
returns c =
    (rw c.argument.ensures.0 at c.value_name.ensures.0, c.value_name.ensures.1)
