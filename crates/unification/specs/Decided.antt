-- Demand 2, for two single terms: what an answer of `unify` says of them.
use Rattle.std.specs.Prelude.{ℕ, List, [], ◌∷◌, ◌⊎◌, ◌≡◌, take}
use Rattle.terms.specs.Substitution.{Substitution}
use Rattle.unification.specs.Node.{nodes_in}
use Rattle.unification.specs.Unifier.{value, MostGeneral}
use Rattle.unification.specs.Words.{Reads}
use Rattle.unification.specs.Outcome.{unified, clash, occurs}
use Rattle.unification.specs.Answer.{variable_count, Answer, ended}

-- An answer to unifying nodes a and b of a table, and the lent words after the call.
pub record Decided (t : List ℕ) (a b : ℕ) (answer : Answer) (words : List ℕ) : Type 0 where
  -- "Two single terms get their most general unifier": the first V words can be read
  pub readable : answer ≡ ended unified → (σ : Substitution) × Reads (nodes_in t) (take (variable_count t) words) σ
  -- and whatever is read from them is a most general unifier
  pub most_general : answer ≡ ended unified → (σ : Substitution) → Reads (nodes_in t) (take (variable_count t) words) σ →
      MostGeneral (nodes_in t) ((a, b) ∷ []) σ
  -- "one of the two failures stands only where no unifier exists"
  pub none_equal : (answer ≡ ended clash) ⊎ (answer ≡ ended occurs) → (σ : Substitution) → value (nodes_in t) σ a ≡ value (nodes_in t) σ b → ⊥
