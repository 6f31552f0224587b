-- `checking::nodes::start` meets its contract, by its test.
use mathlib.Core.Path.{sym}
use borrow.Author.Tests.{eq-eqb, ne_eqb}
use Rattle.table.specs.Conditions.{start_of}
use Rattle.checking.proofs.nodes.start.Goals as goal

pub returns-then-count-eq0 : goal.returns-then-count-eq0
unfolding start_of
returns-then-count-eq0 c = sym (rw (eq-eqb _ _ c.if-count-eq0.true))

pub returns : goal.returns
unfolding start_of
returns c = sym (rw (ne_eqb _ _ c.if-count-eq0.false))
