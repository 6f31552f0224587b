-- A variable is noted by its number, and any other node adds nothing.
use mathlib.Core.Path.{sym, ◌∙◌}
use native.Mathlib.Omega.{arith}
use borrow.Author.Rules.{rules}
use borrow.Author.Tests.{eqb-true}
use Rattle.values.proofs.LeastLaws.{name_within, least_other, least_next}
use Rattle.values.proofs.present.note_variable.Goals as goal

pub returns-then-not-is_variable : goal.returns-then-not-is_variable
returns-then-not-is_variable c =
    least_other _ _ _ _ (sym c.is_variable.ensures ∙ c.if-not-is_variable.true) c.requires.i_bound.1

pub least_node-requires : goal.least_node-requires
least_node-requires c =
    let v = eqb-true _ _ (sym c.is_variable.ensures ∙ c.if-not-is_variable.false) in
    let b = name_within _ _ _ _ c.requires.sections c.requires.i_bound.0 v c.variable-variable.ensures in
    let l = c.requires.i_bound.1.long in
    (omega (arith, b, l), search rules)

pub past-requires : goal.past-requires
past-requires c =
    let v = eqb-true _ _ (sym c.is_variable.ensures ∙ c.if-not-is_variable.false) in
    (c.requires.i_bound.1.within, name_within _ _ _ _ c.requires.sections c.requires.i_bound.0 v c.variable-variable.ensures)

pub returns : goal.returns
returns c =
    let v = eqb-true _ _ (sym c.is_variable.ensures ∙ c.if-not-is_variable.false) in
    let w = name_within _ _ _ _ c.requires.sections c.requires.i_bound.0 v c.variable-variable.ensures in
    least_next _ _ _ _ _ _ c.requires.i_bound.1 c.requires.i_bound.0 v c.variable-variable.ensures w c.node_count-n.ensures.0 _ _ _
    c.least_node.ensures c.past.ensures
