-- The head is a variable or an application.
use mathlib.Core.Path.{sym, ◌∙◌}
use native.Mathlib.Omega.{arith}
use Rattle.binding.proofs.PlainLaws.{word_noted, word_head}
use Rattle.binding.proofs.words.plain_word.Goals as goal

pub node_in-h-requires : goal.node_in-h-requires
node_in-h-requires c =
    let b = c.requires.all_below.0.below _ c.requires.k_in_bounds.0 in
    omega (arith, b, c.node_in-v.ensures.0)

pub is_variable-requires : goal.is_variable-requires
is_variable-requires c =
    let v = c.node_in-v in
    let b = c.requires.all_below.0.below _ c.requires.k_in_bounds.0 in
    let h = c.requires.all_below.1.below v.result.0 (omega (arith, b, v.ensures.0)) in
    omega (arith, h, c.node_in-h.ensures.0)

pub returns-then-is_variable : goal.returns-then-is_variable
returns-then-is_variable c = word_noted _ _ _ _ _ _ _ c.node_in-v.ensures.0
    c.node_in-h.ensures.0 (sym c.is_variable.ensures ∙ c.if-is_variable.true)
    c.node_in.ensures.0

pub returns : goal.returns
returns c = word_head _ _ _ _ _ _ c.node_in-v.ensures.0 c.node_in-h.ensures.0
    (sym c.is_variable.ensures ∙ c.if-is_variable.false)
