-- Document 000, 1.1 and 2.1: multisets with labelled multiset variables, "mmsets", their substitutions, and equality modulo a constraint theory.
use Rattle.std.specs.Prelude.{ℕ}
use mathlib.Core.List.{List, [], ◌∷◌, ◌++◌, map, flat_map}
use Rattle.terms.specs.Term.{Term}
use Rattle.terms.specs.Substitution.{Substitution, sub}
use Rattle.terms.specs.Multiset.{Same}

-- "Each M_i is a multiset variable": a label of the problem, M, or the fresh variable M' for what else it holds.
pub data MultisetVariable : Type 0 where
  given : ℕ → MultisetVariable
  fresh : ℕ → MultisetVariable

-- "A multiset with multiple labelled multiset variables is denoted by {t_1, .., t_n | M_1, .., M_k}." Its terms may be tags that stand for terms.
pub record Mmset (A : Type 0) : Type 0 where
  pub terms : List A
  pub variables : List MultisetVariable

-- Definition 1: an mmset substitution is "a finite mapping of term variables to terms, and of multiset variables to mmsets". Variables that are not in the problem do not matter (`unifies_agree`).
pub record MmsetSubstitution : Type 0 where
  pub on_terms : Substitution
  pub on_variables : MultisetVariable → Mmset Term

-- A multiset variable that is mapped to itself.
unfoldable pub itself : MultisetVariable → Mmset Term
itself M = record { terms = []; variables = M ∷ [] }

-- "{t_1, .., t_n | M_1, .., M_k} σ = {t_1 σ, .., t_n σ} ⊎ M_1 σ ⊎ .. ⊎ M_k σ", where ⊎ puts terms to terms and variables to variables
unfoldable pub apply : MmsetSubstitution → Mmset Term → Mmset Term
apply σ S =
    record {
      terms = map (sub σ.on_terms) S.terms ++ flat_map (λ M. (σ.on_variables M).terms) S.variables;
      variables = flat_map (λ M. (σ.on_variables M).variables) S.variables;
    }

-- "the composition": σ, and then τ
unfoldable pub compose : MmsetSubstitution → MmsetSubstitution → MmsetSubstitution
compose σ τ =
    record { on_terms = λ x. sub τ.on_terms (σ.on_terms x); on_variables = λ M. apply τ (σ.on_variables M) }

-- A constraint theory: "an equality over unions of multiset variables"
abbrev pub Theory : Type 0
Theory = List MultisetVariable × List MultisetVariable

-- The equality holds where the variables stand for these multisets.
abbrev pub Holds : (MultisetVariable → List Term) → Theory → Type 0
Holds ρ T = Same (flat_map ρ T.0) (flat_map ρ T.1)

-- "T ⊢ E": whatever multisets the variables stand for, where T holds, E does.
abbrev pub Entails : Theory → Theory → Type 0
Entails T E = (ρ : MultisetVariable → List Term) → Holds ρ T → Holds ρ E

-- Definition 2: "equal modulo a constraint theory T"
pub record EqualModulo (T : Theory) (M N : Mmset Term) : Type 0 where
  -- "n = m and t_1, .., t_n is a permutation of s_1, .., s_m"
  pub terms : Same M.terms N.terms
  -- "T ⊢ M_1 ∪ .. ∪ M_k ≡ N_1 ∪ .. ∪ N_l"
  pub variables : Entails T (M.variables, N.variables)
