-- A term that is no node is met, or none is.
use mathlib.Core.Path.{refl, sym}
use borrow.Author.Rules.{rules}
use borrow.Author.Tests.{le-leb, lt-leb}
use Rattle.table.specs.Some.{some_below}
use Rattle.table.specs.Conditions.{term_is_wrong, wrong_term}
use Rattle.table.proofs.SomeLaws.{some_here, some_next, some_end}
use Rattle.checking.proofs.sides.wrong_terms.Goals as goal

pub loop-term-init : goal.loop-term-init
unfolding some_below
loop-term-init c = refl

pub returns-then-term-n : goal.returns-then-term-n
unfolding wrong_term term_is_wrong
returns-then-term-n c = sym (some_here _ c.loop-term.term-index _ c.loop-term-test.true (le-leb _ _ c.if-term-n.true))

pub loop-term-preserved : goal.loop-term-preserved
unfolding term_is_wrong
loop-term-preserved c = some_next _ _ c.loop-term.invariant (lt-leb _ _ c.if-term-n.false)

pub returns : goal.returns
unfolding wrong_term
returns c = sym (some_end _ c.loop-term.term-index _ (search rules) (search rules) c.loop-term.invariant)
