-- What unifying a list of pairs of nodes comes to, with its unifier and words.
use Rattle.std.specs.Prelude.{ℕ, suc, cond, List, length}
use Rattle.terms.specs.Substitution.{Substitution}
use Rattle.unification.specs.Node.{Node}
use Rattle.unification.specs.Outcome.{Outcome, unified, clash, occurs}
use Rattle.unification.specs.Computed.Classes.{classes, clashes}
use Rattle.unification.specs.Computed.Walks.{cyclic}
use Rattle.unification.specs.Computed.Solution.{solution, head_in}
use Rattle.unification.specs.Computed.Binding.{binding_words}

-- "Here clash goes first." (`outcome_clash`, `outcome_occurs`, `outcome_unified`)
unfoldable pub outcome : List Node → List (ℕ × ℕ) → Outcome
outcome ns ps = cond (clashes ns (classes ns ps)) clash (cond (cyclic ns (classes ns ps)) occurs unified)

-- The most general unifier of pairs that have one (`unifier_most_general`).
unfoldable pub unifier : List Node → List (ℕ × ℕ) → Substitution
unifier ns ps = solution (suc (length ns)) ns (head_in ns (classes ns ps))

-- Its binding words (`words_least`, `words_decided`).
unfoldable pub words_of : List Node → List (ℕ × ℕ) → List ℕ
words_of ns ps = binding_words ns (unifier ns ps)
