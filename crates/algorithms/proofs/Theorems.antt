-- Theorems 1 and 2 of document 000, of its algorithm, and page 14.
-- Algorithm 1's results are those of the entries of the complete listing, so page 14 holds of it. A substitution that makes the sides equal
-- is an assignment, with variables for the rests: page 14 gives the unifier that it comes after. Assumes nothing.
use Prim.Native.Nat.{ℕ, ◌≤◌}
use mathlib.Core.List.Memᴰ
use mathlib.Core.List.Permᴰ
use mathlib.Core.List.{List, [], ◌∷◌, ◌++◌, map, flat_map, append-nil, map-map, Memᴰ}
use mathlib.Core.Logic.{◌↔◌, ◌⊎◌, inl, inr}
use mathlib.Core.Path.{◌≡◌, refl, sym, ap, ◌∙◌}
use native.Mathlib.Omega.{arith}
use lib.ListN.{length}
use Rattle.multiset_unification.specs.Code.Posed.{Posed}
use Rattle.terms.specs.Term.{Term, var}
use Rattle.terms.specs.Substitution.{sub}
use Rattle.terms.specs.Multiset.{occurrences, Same}
use Rattle.terms.proofs.SubstitutionLaws.{sub_var}
use Rattle.terms.proofs.MultisetLaws.{occurrences_append, same_sym}
use Rattle.unification.specs.Node.{Present, term_of}
use Rattle.unification.proofs.FlatLaws.{flat_none, flat_map_lem}
use Rattle.multiset_unification.specs.Problem.{half_labels}
use Rattle.multiset_unification.specs.Assignment.{Assignment, side, EqualSides}
use Rattle.multiset_unification.specs.Computed.Listing.{admissible_listing}
use Rattle.multiset_unification.proofs.Page14.{page14_admissible}
use Rattle.multiset_unification.proofs.OneHalfLaws.{one_equal}
use Rattle.multiset_unification.proofs.AssignmentLaws.{Agree, equal_agree}
use Rattle.algorithms.specs.Mmset.{MultisetVariable, given, fresh, Mmset, MmsetSubstitution, apply, compose, Entails}
use Rattle.algorithms.specs.Sides.{Sides, problem, algorithm1, entry_result}
use Rattle.algorithms.specs.Unifier.{unifier_of, unifiers_of, mmset_of, rests_of, theory_of, UnifiesSides, SameOn, Allows}
use Rattle.algorithms.proofs.OrderLaws.{permuted_member}
use Rattle.algorithms.proofs.ListingLaws.{listing_results}
use Rattle.algorithms.proofs.MmsetLaws.{terms_unchanged}
use Rattle.algorithms.proofs.MappedLaws.{rests_in, exact_left, exact_right, rest_left, rest_right, label_in}
use Rattle.algorithms.proofs.AllowsLaws.{rests_flat, instance_allowed}

-- an assignment that makes the sides equal has room in the unifier of some entry
equal_allowed : (t : Sides) → Posed (problem t) → (A : Assignment) → EqualSides (problem t) A →
    (e : List ℕ) × Memᴰ e (admissible_listing (problem t)) × Allows t (unifier_of t (entry_result t e)) A
equal_allowed t r A s =
    let i = (page14_admissible (problem t) r A).0 s in
    (i.0, i.1, (instance_allowed t i.0 (r) i.1 A).0 i.2)

-- that of each entry is one of Algorithm 1's
entry_unifier : (t : Sides) (e : List ℕ) → Memᴰ e (admissible_listing (problem t)) → Memᴰ (unifier_of t (entry_result t e)) (unifiers_of t)
unfolding unifiers_of
entry_unifier t e m =
    Memᴰ.map (unifier_of t) (permuted_member (Permᴰ.symm (listing_results t)) (entry_result t e) (Memᴰ.map (entry_result t) m))

-- and each of Algorithm 1's is that of an entry
unifier_entry : (t : Sides) (σ : MmsetSubstitution) → Memᴰ σ (unifiers_of t) →
    (e : List ℕ) × Memᴰ e (admissible_listing (problem t)) × (unifier_of t (entry_result t e) ≡ σ)
unfolding unifiers_of
unifier_entry t σ m =
    let r = Memᴰ.of_map (unifier_of t) (algorithm1 t) m in
    let i = Memᴰ.of_map (entry_result t) (admissible_listing (problem t)) (permuted_member (listing_results t) r.0 r.1) in
    (i.0, i.1, ap (unifier_of t) i.2 ∙ r.2)

-- page 14, of Algorithm 1: an assignment makes the sides equal exactly if one of its unifiers leaves room for it
pub algorithm_page14 : (t : Sides) → Posed (problem t) → (A : Assignment) →
    EqualSides (problem t) A ↔ ((σ : MmsetSubstitution) × Memᴰ σ (unifiers_of t) × Allows t σ A)
algorithm_page14 t z A = (
  (λ s. let i = equal_allowed t z A s in (unifier_of t (entry_result t i.0), entry_unifier t i.0 i.1, i.2)),
  (λ s.
      let i = unifier_entry t s.0 s.1 in
      (page14_admissible (problem t) z A).1 (i.0, i.1, (instance_allowed t i.0 z i.1 A).1 (rw i.2 s.2))),
)

-- The assignment that a substitution gives, with nothing for its multiset variables.
abbrev assignment_of : MmsetSubstitution → Assignment
assignment_of σ = record { variables = σ.on_terms; labels = λ M. (σ.on_variables (given M)).terms }

module _ (t : Sides) (σ : MmsetSubstitution) where
  -- the terms of a side, under a substitution, are those under that assignment
  side_terms : (ts Ms : List ℕ) → (apply σ (mmset_of t ts Ms)).terms ≡ side t.nodes (assignment_of σ) ts Ms
  unfolding apply mmset_of side
  side_terms ts Ms = rw (map-map (sub σ.on_terms) (term_of t.nodes) ts, flat_map_lem (λ M. (σ.on_variables M).terms) given Ms) refl

  -- and the variables are those that its labels are mapped to
  side_variables : (ts Ms : List ℕ) → (apply σ (mmset_of t ts Ms)).variables ≡ rests_of σ Ms
  unfolding apply mmset_of rests_of
  side_variables ts Ms = flat_map_lem (λ M. (σ.on_variables M).variables) given Ms

  -- so equal terms of the sides under the one are equal sides under the other
  sides_equal :
      Same (apply σ (mmset_of t t.half.left t.half.left_labels)).terms (apply σ (mmset_of t t.half.right t.half.right_labels)).terms ↔
      EqualSides (problem t) (assignment_of σ)
  sides_equal =
      let l = side_terms t.half.left t.half.left_labels in
      let r = side_terms t.half.right t.half.right_labels in
      let e = one_equal t.half t.nodes (assignment_of σ) in
      ((λ h. e.1 (rw (l, r) at h)), (λ h. rw (l, r) (e.0 h)))

  -- what makes the terms equal unifies the sides: the theory is that the variables are
  unifies : EqualSides (problem t) (assignment_of σ) → UnifiesSides t σ
  unifies s =
      record {
        terms = sides_equal.1 s;
        variables = λ ρ h. rw (side_variables t.half.left t.half.left_labels, side_variables t.half.right t.half.right_labels) h;
      }

  -- a substitution leaves room for that assignment, with no rests
  own_allowed : Allows t σ (assignment_of σ)
  own_allowed =
      record {
        after = var;
        rests = λ M. [];
        holds = λ u. ap (occurrences u) (flat_none (λ M. []) (theory_of t σ).0 (λ M. refl) ∙ sym (flat_none (λ M. []) (theory_of t σ).1 (λ M. refl)));
        variables = λ x p. sym (sub_var (σ.on_terms x));
        labels = λ M i u. ap (occurrences u) (sym (same M));
      }
    where
      same : (M : ℕ) → map (sub var) (σ.on_variables (given M)).terms ++ flat_map (λ N. []) (σ.on_variables (given M)).variables
          ≡ (σ.on_variables (given M)).terms
      same M =
          let ts = (σ.on_variables (given M)).terms in
          rw (flat_none {B = Term} (λ N. []) (σ.on_variables (given M)).variables (λ N. refl))
          (append-nil _ ∙ terms_unchanged ts)

-- only what a substitution gives to the variables present and to the labels matters
pub unifies_agree : (t : Sides) → Posed (problem t) → (σ τ : MmsetSubstitution) →
    ((x : ℕ) → Present t.nodes x → σ.on_terms x ≡ τ.on_terms x) →
    ((M : ℕ) → Memᴰ M (half_labels t.half) → σ.on_variables (given M) ≡ τ.on_variables (given M)) → UnifiesSides t σ → UnifiesSides t τ
unifies_agree t ok σ τ x l s =
    let g : Agree (problem t) (assignment_of σ) (assignment_of τ) =
    record { variables = x; labels = λ h k. rw (Memᴰ.eq_of_singleton k) (λ M i u. ap (λ (S : Mmset Term). occurrences u S.terms) (l M i)) } in
    unifies t τ ((equal_agree (problem t) ok (assignment_of σ) (assignment_of τ) g).0 ((sides_equal t σ).0 s.terms))

-- Theorem 1: "Soundness. If unify(M, N) ↦ {σ_1, .., σ_n} then ∀σ_i. M σ_i =_{T_σ_i} N σ_i"
pub soundness : (t : Sides) → Posed (problem t) → (σ : MmsetSubstitution) → Memᴰ σ (unifiers_of t) → UnifiesSides t σ
soundness t z σ m = unifies t σ ((algorithm_page14 t z (assignment_of σ)).1 (σ, m, own_allowed t σ))

-- what one label holds is no more than what all hold together
in_all : (g : ℕ → List Term) (Ms : List ℕ) (M : ℕ) → Memᴰ M Ms → (u : Term) → occurrences u (g M) ≤ occurrences u (flat_map g Ms)
unfolding flat_map
in_all g [] M x u = elim x [ ]
in_all g (N ∷ Ms) M (Memᴰ.head e) u =
    let a = occurrences_append u (g N) (flat_map g Ms) in
    rw e (omega (arith, a))
in_all g (N ∷ Ms) M (Memᴰ.tail m) u =
    let a = occurrences_append u (g N) (flat_map g Ms) in
    let r = in_all g Ms M m u in
    omega (arith, a, r)

module _ (σ : MmsetSubstitution) where
  -- What the substitution has for the rest of a label.
  abbrev rests_by : ℕ → List MultisetVariable
  rests_by M = (σ.on_variables (given M)).variables

  -- What it has for such variables, by their labels.
  abbrev rests_for : List MultisetVariable → List MultisetVariable
  rests_for vs = flat_map (λ N. rests_by (label_in N)) vs

  -- where one variable stands for the rest, that is kept
  one_rest : (M : ℕ) (vs : List MultisetVariable) → (vs ≡ given M ∷ []) ⊎ (vs ≡ fresh M ∷ []) → rests_for vs ≡ rests_by M
  unfolding flat_map label_in
  one_rest M vs (inl e) = rw e (append-nil (rests_by M))
  one_rest M vs (inr e) = rw e (append-nil (rests_by M))

  -- where none does, as the other side has no label, the rests equal nothing together, and so it does
  rests_kept : (Ms Ns : List ℕ) (M : ℕ) → Memᴰ M Ms → (vs : List MultisetVariable) → (Ns ≡ [] → vs ≡ []) →
      ((Ns ≡ [] → ⊥) → (vs ≡ given M ∷ []) ⊎ (vs ≡ fresh M ∷ [])) → (ρ : MultisetVariable → List Term) →
      Same (flat_map (λ N. flat_map ρ (rests_by N)) Ms) (flat_map (λ N. flat_map ρ (rests_by N)) Ns) →
      Same (flat_map ρ (rests_by M)) (flat_map ρ (rests_for vs))
  unfolding flat_map occurrences
  rests_kept Ms [] M i vs e o ρ h u =
      let a = in_all (λ N. flat_map ρ (rests_by N)) Ms M i u in
      rw (e refl) (omega (arith, a, h u))
  rests_kept Ms (N ∷ Ns) M i vs e o ρ h u =
      ap (λ (ws : List MultisetVariable). occurrences u (flat_map ρ ws))
      (sym (one_rest M vs (o (λ q. let l = ap length q in absurd (omega (arith, l))))))

  module _ (t : Sides) (ok : Posed (problem t)) (e : List ℕ) where
    -- the substitution has for the rest of a label what it has for what stands for it, modulo its theory,
    rest_entailed : (M : ℕ) → Memᴰ M t.half.left_labels ⊎ Memᴰ M t.half.right_labels →
        Entails (theory_of t σ) (rests_by M, rests_for (rests_in t e M))
    rest_entailed M (inl i) ρ h =
        rests_kept t.half.left_labels t.half.right_labels M i _ (λ z. exact_left t e ok z M i) (λ z. rest_left t e ok z M i) ρ
        (rw (rests_flat σ ρ t.half.left_labels, rests_flat σ ρ t.half.right_labels) at h)
    rest_entailed M (inr i) ρ h =
        rests_kept t.half.right_labels t.half.left_labels M i _ (λ z. exact_right t e ok z M i) (λ z. rest_right t e ok z M i) ρ
        (same_sym _ _ (rw (rests_flat σ ρ t.half.left_labels, rests_flat σ ρ t.half.right_labels) at h))

    -- and to the letter where both sides have labels
    rest_plain : (t.half.left_labels ≡ [] → ⊥) → (t.half.right_labels ≡ [] → ⊥) → (M : ℕ) →
        Memᴰ M t.half.left_labels ⊎ Memᴰ M t.half.right_labels → rests_by M ≡ rests_for (rests_in t e M)
    rest_plain l r M (inl i) = sym (one_rest M (rests_in t e M) (rest_left t e ok r M i))
    rest_plain l r M (inr i) = sym (one_rest M (rests_in t e M) (rest_right t e ok l M i))

    module _ (a : Allows t (unifier_of t (entry_result t e)) (assignment_of σ)) where
      -- What comes after the unifier of an entry that leaves room for the assignment.
      abbrev follower : MmsetSubstitution
      follower = record { on_terms = a.after; on_variables = λ N. record { terms = a.rests N; variables = rests_by (label_in N) } }

      -- the two are the substitution, modulo its theory,
      follows : SameOn t (theory_of t σ) σ (compose (unifier_of t (entry_result t e)) follower)
      unfolding compose apply
      follows =
          record {
            on_terms = a.variables;
            on_labels = λ M i. record { terms = a.labels M i; variables = rest_entailed M (Memᴰ.append_cases t.half.left_labels i) };
          }

      -- and have its variables, to the letter, where both sides have labels
      follows_plain : (t.half.left_labels ≡ [] → ⊥) → (t.half.right_labels ≡ [] → ⊥) → (M : ℕ) → Memᴰ M (half_labels t.half) →
          rests_by M ≡ ((compose (unifier_of t (entry_result t e)) follower).on_variables (given M)).variables
      unfolding compose apply
      follows_plain l r M i = rest_plain l r M (Memᴰ.append_cases t.half.left_labels i)

-- a substitution that unifies the sides is an assignment that some entry's unifier leaves room for
unifies_allowed : (t : Sides) → Posed (problem t) → (σ : MmsetSubstitution) → UnifiesSides t σ →
    (e : List ℕ) × Memᴰ e (admissible_listing (problem t)) × Allows t (unifier_of t (entry_result t e)) (assignment_of σ)
unifies_allowed t z σ s = equal_allowed t z (assignment_of σ) ((sides_equal t σ).0 s.terms)

-- Theorem 2: "Completeness. If ∃σ. M σ =_{T_σ} N σ then unify(M, N) ↦ {σ_1, .., σ_n} and ∃σ_i such that σ = σ_i σ'."
pub completeness : (t : Sides) → Posed (problem t) → (σ : MmsetSubstitution) → UnifiesSides t σ →
    (σᵢ : MmsetSubstitution) × Memᴰ σᵢ (unifiers_of t) × ((σ' : MmsetSubstitution) × SameOn t (theory_of t σ) σ (compose σᵢ σ'))
completeness t z σ s =
    let i = unifies_allowed t z σ s in
    (unifier_of t (entry_result t i.0), entry_unifier t i.0 i.1, (follower σ t z i.0 i.2, follows σ t z i.0 i.2))

-- where both sides have labels, σ and σ_i σ' also have the same variables, to the letter
pub completeness_plain : (t : Sides) → Posed (problem t) → (t.half.left_labels ≡ [] → ⊥) → (t.half.right_labels ≡ [] → ⊥) →
    (σ : MmsetSubstitution) → UnifiesSides t σ →
    (σᵢ : MmsetSubstitution) × Memᴰ σᵢ (unifiers_of t) ×
    ((σ' : MmsetSubstitution) × SameOn t (theory_of t σ) σ (compose σᵢ σ') ×
    ((M : ℕ) → Memᴰ M (half_labels t.half) → (σ.on_variables (given M)).variables ≡ ((compose σᵢ σ').on_variables (given M)).variables))
completeness_plain t z l r σ s =
    let i = unifies_allowed t z σ s in
    (unifier_of t (entry_result t i.0), entry_unifier t i.0 i.1, (follower σ t z i.0 i.2, follows σ t z i.0 i.2, follows_plain σ t z i.0 i.2 l r))
