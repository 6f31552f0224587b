-- "A substitution and a most general unifier are as in document 001."
use Rattle.std.specs.Prelude.{ℕ, ◌≡◌}
use mathlib.Core.List.{List, Memᴰ}
use Rattle.terms.specs.Term.{Term}
use Rattle.terms.specs.Substitution.{Substitution, sub}
use Rattle.unification.specs.Node.{Node, Present, term_of}

-- The value of a node under a substitution.
abbrev pub value : List Node → Substitution → ℕ → Term
value ns σ i = sub σ (term_of ns i)

-- The substitution makes the two terms of each pair equal.
abbrev pub Unifies : List Node → List (ℕ × ℕ) → Substitution → Type 0
Unifies ns ps σ = (a b : ℕ) → Memᴰ (a, b) ps → value ns σ a ≡ value ns σ b

-- The pairs have a common unifier.
abbrev pub Unifiable : List Node → List (ℕ × ℕ) → Type 0
Unifiable ns ps = (σ : Substitution) × Unifies ns ps σ

-- It unifies, and every unifier is it and then some substitution.
pub record MostGeneral (ns : List Node) (ps : List (ℕ × ℕ)) (σ : Substitution) : Type 0 where
  pub unifies : Unifies ns ps σ
  pub factors : (τ : Substitution) → Unifies ns ps τ → (ρ : Substitution) × ((x : ℕ) → Present ns x → τ x ≡ sub ρ (σ x))
