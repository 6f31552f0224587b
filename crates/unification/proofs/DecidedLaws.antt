-- What a caller has of an answer of `unify`, from what it decides alone: nothing else of the call is used here. Assumes nothing.
use Prim.Native.Nat.{ℕ}
use mathlib.Core.List.Memᴰ
use mathlib.Core.List.{List, [], ◌∷◌}
use mathlib.Core.Logic.{inl, inr}
use mathlib.Core.Path.{◌≡◌, refl}
use lib.ListN.{take}
use Rattle.terms.specs.Substitution.{Substitution}
use Rattle.unification.specs.Node.{nodes_in}
use Rattle.unification.specs.Unifier.{MostGeneral, Unifiable}
use Rattle.unification.specs.Words.{Reads}
use Rattle.unification.specs.Outcome.{Outcome, unified, clash, occurs}
use Rattle.unification.specs.Answer.{variable_count, ended}
use Rattle.unification.specs.Decided.{Decided}

module _ (t : List ℕ) (a b : ℕ) (words : List ℕ) where
  -- "Two single terms get their most general unifier": it is read from the words
  pub unified_unifier : Decided t a b (ended unified) words →
      (σ : Substitution) × Reads (nodes_in t) (take (variable_count t) words) σ × MostGeneral (nodes_in t) ((a, b) ∷ []) σ
  unified_unifier d = let r = d.readable refl in (r.0, r.1, d.most_general refl r.0 r.1)

  -- "one of the two failures stands only where no unifier exists"
  pub failed_none : (o : Outcome) → (o ≡ unified → ⊥) → Decided t a b (ended o) words → Unifiable (nodes_in t) ((a, b) ∷ []) → ⊥
  failed_none unified n d u = n refl
  failed_none clash n d u = d.none_equal (inl refl) u.0 (u.1 a b (Memᴰ.head refl))
  failed_none occurs n d u = d.none_equal (inr refl) u.0 (u.1 a b (Memᴰ.head refl))
