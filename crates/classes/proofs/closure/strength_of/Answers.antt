use mathlib.Core.Path.{sym, ◌∙◌}
use borrow.Author.Tests.{eqb-true, eqb-false}
use Rattle.nodes.proofs.OpenLaws.{strength_variable, strength_open, strength_closed}
use Rattle.classes.proofs.closure.strength_of.Goals as goal

pub returns-then-is_variable : goal.returns-then-is_variable
returns-then-is_variable c =
    sym (strength_variable c.args.nodes.now c.args.counts.now c.args.h.0 (eqb-true _ 0 (sym c.is_variable.ensures ∙ c.if-is_variable.true)))

pub returns-then-counts-i-ne0 : goal.returns-then-counts-i-ne0
returns-then-counts-i-ne0 c =
    sym (strength_open c.args.nodes.now c.args.counts.now c.args.h.0 (eqb-false _ 0 (sym c.is_variable.ensures ∙ c.if-is_variable.false))
    c.if-counts-i-ne0.true)

pub returns : goal.returns
returns c =
    sym (strength_closed c.args.nodes.now c.args.counts.now c.args.h.0 (eqb-false _ 0 (sym c.is_variable.ensures ∙ c.if-is_variable.false))
    c.if-counts-i-ne0.false)
