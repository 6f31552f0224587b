-- No term so far is wrong.
use mathlib.Core.Path.{◌≡◌}
use mathlib.Core.Bool.{false}
use Rattle.table.specs.Some.{some_below}
use Rattle.table.specs.Conditions.{term_is_wrong}
use Rattle.checking.proofs.sides.wrong_terms.Given as goal

abbrev pub invariant-loop-term : goal.invariant-loop-term
invariant-loop-term l = some_below l.term-index (term_is_wrong l.n l.terms) ≡ false
