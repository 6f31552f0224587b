-- Algorithm 1's results as substitutions, constraint theories, and what unifies two sides.
use Rattle.std.specs.Prelude.{ℕ, cond, ◌≡◌, eqb}
use mathlib.Core.List.{List, [], ◌∷◌, ◌++◌, map, flat_map, Memᴰ}
use Rattle.terms.specs.Term.{Term, var}
use Rattle.terms.specs.Substitution.{Substitution, sub}
use Rattle.terms.specs.Multiset.{Same}
use Rattle.unification.specs.Node.{Present, term_of}
use Rattle.unification.specs.Computed.Unifying.{unifier}
use Rattle.multiset_unification.specs.Problem.{half_labels}
use Rattle.multiset_unification.specs.Assignment.{Assignment}
use Rattle.algorithms.specs.Mmset.{MultisetVariable, given, fresh, Mmset, MmsetSubstitution, itself, apply, compose, Theory, Holds, EqualModulo}
use Rattle.algorithms.specs.Algorithms.{Contexts, Result}
use Rattle.algorithms.specs.Sides.{Sides, node_of, node_pairs, algorithm1}

-- The mmset of terms that one of tags stands for.
unfoldable pub standing : Sides → Mmset ℕ → Mmset Term
standing t S = record { terms = map (λ a. term_of t.nodes (node_of t a)) S.terms; variables = S.variables }

-- What σ_M maps the label x to: as it says, or to itself.
unfoldable pub image : Sides → Contexts → ℕ → Mmset Term
image t [] x = itself (given x)
image t (c ∷ σ) x = cond (eqb x c.0) (standing t c.1) (image t σ x)

-- It maps labels alone.
unfoldable pub on_contexts : Sides → Contexts → MultisetVariable → Mmset Term
on_contexts t σ (given x) = image t σ x
on_contexts t σ (fresh x) = itself (fresh x)

-- Algorithm 2, line 9: "the composition σ_M σ_t", where σ_t is the most general unifier of the pairs
unfoldable pub unifier_of : Sides → Result → MmsetSubstitution
unifier_of t r =
    compose (record { on_terms = var; on_variables = on_contexts t r.contexts })
    (record { on_terms = unifier t.nodes (node_pairs t r.pairing); on_variables = itself })

-- "unify(M, N) ↦ {σ_1, .., σ_n}"
unfoldable pub unifiers_of : Sides → List MmsetSubstitution
unifiers_of t = map (unifier_of t) (algorithm1 t)

-- A side, by its terms and labels, as an mmset.
unfoldable pub mmset_of : Sides → List ℕ → List ℕ → Mmset Term
mmset_of t ts Ms = record { terms = map (term_of t.nodes) ts; variables = map given Ms }

-- The multiset variables in what a substitution maps labels to: "∪{M_i' | M_i ↦ {ts | M_i'} ∈ σ}"
unfoldable pub rests_of : MmsetSubstitution → List ℕ → List MultisetVariable
rests_of σ Ms = flat_map (λ M. (σ.on_variables (given M)).variables) Ms

-- "For a unifier σ, the constraint theory T_σ is defined as ∪{M_i' | M_i ↦ {ts | M_i'} ∈ σ} ≡ ∪{N_i' | N_i ↦ {ts | N_i'} ∈ σ}"
abbrev pub theory_of : Sides → MmsetSubstitution → Theory
theory_of t σ = (rests_of σ t.half.left_labels, rests_of σ t.half.right_labels)

-- "M σ =_{T_σ} N σ", where M and N are the two sides
abbrev pub UnifiesSides : Sides → MmsetSubstitution → Type 0
UnifiesSides t σ =
    EqualModulo (theory_of t σ) (apply σ (mmset_of t t.half.left t.half.left_labels))
    (apply σ (mmset_of t t.half.right t.half.right_labels))

-- "σ = τ", for the variables of the problem, modulo a theory
pub record SameOn (t : Sides) (T : Theory) (σ τ : MmsetSubstitution) : Type 0 where
  pub on_terms : (x : ℕ) → Present t.nodes x → σ.on_terms x ≡ τ.on_terms x
  pub on_labels : (M : ℕ) → Memᴰ M (half_labels t.half) → EqualModulo T (σ.on_variables (given M)) (τ.on_variables (given M))

-- An assignment that a unifier σ leaves room for: some substitution after σ gives its variables; multisets for the multiset variables of σ, under which T_σ holds, are what its labels hold besides.
pub record Allows (t : Sides) (σ : MmsetSubstitution) (A : Assignment) : Type 0 where
  pub after : Substitution
  pub rests : MultisetVariable → List Term
  pub holds : Holds rests (theory_of t σ)
  pub variables : (x : ℕ) → Present t.nodes x → A.variables x ≡ sub after (σ.on_terms x)
  pub labels : (M : ℕ) → Memᴰ M (half_labels t.half) →
      Same (A.labels M) (map (sub after) (σ.on_variables (given M)).terms ++ flat_map rests (σ.on_variables (given M)).variables)
