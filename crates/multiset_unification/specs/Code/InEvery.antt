-- What holds of every admissible choice of two sides: a set-up before the walk looks for it.
use Rattle.std.specs.Prelude.{ℕ, List, length}
use Rattle.terms.specs.Substitution.{Substitution}
use Rattle.unification.specs.Node.{Node}
use Rattle.unification.specs.Unifier.{Unifies}
use Rattle.multiset_unification.specs.Choice.{IsChoice, pairs}

-- The digits ds are a choice of the terms ls and rs of two sides with k and l labels, and σ unifies its pairs.
pub record ChoiceUnifier (ns : List Node) (ls rs : List ℕ) (k l : ℕ) (ds : List ℕ) (σ : Substitution) : Type 0 where
  pub choice : IsChoice (length ls) (length rs) k l ds
  pub unifies : Unifies ns (pairs ls rs ds) σ

-- No choice is admissible.
pub record NoneAdmissible (ns : List Node) (ls rs : List ℕ) (k l : ℕ) : Type 0 where
  pub never : (ds : List ℕ) (σ : Substitution) → ChoiceUnifier ns ls rs k l ds σ → ⊥

-- Pairs that every admissible choice has, as far as unifiers go: what unifies its pairs unifies these.
pub record InEvery (ns : List Node) (ls rs : List ℕ) (k l : ℕ) (ps : List (ℕ × ℕ)) : Type 0 where
  pub unifies : (ds : List ℕ) (σ : Substitution) → ChoiceUnifier ns ls rs k l ds σ → Unifies ns ps σ
