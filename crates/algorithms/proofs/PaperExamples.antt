-- Document 000's own examples, by computation from the transcription, and where its Theorem 2 is not to be taken to the letter. Assumes nothing.
use mathlib.Core.List.Memᴰ
use mathlib.Core.List.{List, [], ◌∷◌, flat_map, product, zip, zip_with, Memᴰ}
use mathlib.Core.Path.{◌≡◌, refl, sym, ap, ◌∙◌}
use native.Mathlib.Decide.{ℕ_discrete}
use Rattle.table.specs.Layout.{counts_before}
use Rattle.table.specs.Some.{some_below}
use Rattle.terms.specs.Term.{var}
use Rattle.unification.specs.Node.{tabulate, read_node, nodes_from, nodes_in}
use Rattle.unification.specs.Computed.Classes.{renamed, join, join_all, same_symbol, asks, gather, asked, round, rounds, classes, differ, clash_at, clash_with, clashes}
use Rattle.unification.specs.Computed.Walks.{some_marked, leads, leads_at, leads_from, walks, cyclic}
use Rattle.unification.specs.Computed.Unifying.{outcome}
use Rattle.multiset_unification.specs.Computed.Listing.{kept}
use Rattle.multiset_unification.proofs.Starred.{two_and_one, label_and_none}
use Rattle.algorithms.specs.Mmset.{given, fresh, MmsetSubstitution, itself, apply, compose}
use Rattle.algorithms.specs.Algorithms.{numbers, choose, at_each, permutations, in_each, ordered_partitions, context, distribute, unify_distribute, Result, composed, unify_terms, unify_c, unify}
use Rattle.algorithms.specs.Sides.{sides_of, left_tags, right_tags, node_pairs, algorithm1}
use Rattle.algorithms.specs.Unifier.{standing, image, on_contexts, unifier_of, unifiers_of, mmset_of, rests_of, UnifiesSides}

-- "the ordered 2-partitions of the multiset {a, b, c}": eight, where the paper prints {b} with {a, b, c} for {} with {a, b, c}
pub eight_partitions : ordered_partitions (0 ∷ 1 ∷ 2 ∷ []) 2
    ≡ ((0 ∷ 1 ∷ 2 ∷ []) ∷ [] ∷ []) ∷ ((1 ∷ 2 ∷ []) ∷ (0 ∷ []) ∷ []) ∷ ((0 ∷ 2 ∷ []) ∷ (1 ∷ []) ∷ []) ∷ ((2 ∷ []) ∷ (0 ∷ 1 ∷ []) ∷ []) ∷
    ((0 ∷ 1 ∷ []) ∷ (2 ∷ []) ∷ []) ∷ ((1 ∷ []) ∷ (0 ∷ 2 ∷ []) ∷ []) ∷ ((0 ∷ []) ∷ (1 ∷ 2 ∷ []) ∷ []) ∷ ([] ∷ (0 ∷ 1 ∷ 2 ∷ []) ∷ []) ∷ []
unfolding ordered_partitions in_each flat_map tabulate
eight_partitions = refl

-- {a, a | M} and {a | N}, with M = 1 and N = 2; the terms have the tags 0 and 1, and 2.
abbrev three : List Result
three =
    record {
      pairing = [];
      contexts = (1, record { terms = 2 ∷ []; variables = fresh 1 ∷ [] }) ∷
          (2, record { terms = 0 ∷ 1 ∷ []; variables = fresh 2 ∷ [] }) ∷ [];
    } ∷
    record {
      pairing = (0, 2) ∷ [];
      contexts =
          (1, record { terms = []; variables = given 1 ∷ [] }) ∷ (2, record { terms = 1 ∷ []; variables = fresh 2 ∷ [] }) ∷ [];
    } ∷
    record {
      pairing = (1, 2) ∷ [];
      contexts =
          (1, record { terms = []; variables = given 1 ∷ [] }) ∷ (2, record { terms = 0 ∷ []; variables = fresh 2 ∷ [] }) ∷ [];
    } ∷
    []

-- { | M} and {}: M ↦ { | }, with no rest, as the other side has no label.
abbrev one : List Result
one = record { pairing = []; contexts = (1, record { terms = []; variables = [] }) ∷ [] } ∷ []

-- "given multiset {a, a | M} and {a | N}, unify computes three unifiers": N ↦ {a | N'} twice, "once for each occurrence of a", and M ↦ {a |
-- M'}, N ↦ {a, a | N'}; { | M} and {} have one
pub three_unifiers : (algorithm1 (sides_of two_and_one) ≡ three) × (algorithm1 (sides_of label_and_none) ≡ one)
unfolding flat_map product zip zip_with ℕ_discrete counts_before some_below tabulate read_node nodes_from nodes_in renamed join join_all same_symbol
    asks gather asked round rounds classes differ clash_at clash_with clashes some_marked leads leads_at leads_from walks cyclic outcome kept numbers
    choose at_each permutations in_each ordered_partitions context distribute unify_distribute composed unify_terms unify_c unify left_tags
    right_tags node_pairs algorithm1
three_unifiers = (refl, refl)

-- The substitution with M ↦ { | X}: it unifies { | M} and {}, modulo X ≡ {}.
abbrev to_x : MmsetSubstitution
to_x = record { on_terms = var; on_variables = λ M. itself (fresh 7) }

-- "σ = σ_i σ'" holds modulo T_σ, and not to the letter: M ↦ { | X} unifies { | M} and {}, but whatever comes after M ↦ { | } has no X
pub not_to_the_letter :
    UnifiesSides (sides_of label_and_none) to_x ×
    ((σᵢ : MmsetSubstitution) → Memᴰ σᵢ (unifiers_of (sides_of label_and_none)) → (σ' : MmsetSubstitution) →
    ((compose σᵢ σ').on_variables (given 1)).variables ≡ [])
unfolding flat_map itself apply compose standing image on_contexts unifier_of unifiers_of mmset_of rests_of
not_to_the_letter = (
  record { terms = λ u. refl; variables = λ ρ h. h },
  λ σᵢ m σ'. ap (λ (σ : MmsetSubstitution). ((compose σ σ').on_variables (given 1)).variables)
      (only σᵢ (Memᴰ.of_map (unifier_of (sides_of label_and_none)) (algorithm1 (sides_of label_and_none)) m)),
)
  where
    first : Result
    first = record { pairing = []; contexts = (1, record { terms = []; variables = [] }) ∷ [] }

    only : (σᵢ : MmsetSubstitution) →
        (r : Result) × Memᴰ r (algorithm1 (sides_of label_and_none)) × (unifier_of (sides_of label_and_none) r ≡ σᵢ) →
        σᵢ ≡ unifier_of (sides_of label_and_none) first
    only σᵢ (r, m, e) = sym e ∙ ap (unifier_of (sides_of label_and_none)) (Memᴰ.eq_of_singleton (rw three_unifiers.1 at m))
