-- Algorithm 1 keeps of what it goes over just what unify_lists unifies, in the same order.
-- Each loop is a `flat_map`, and what is kept of lists one after the other is what is kept of each. Assumes nothing.
use Prim.Native.Nat.{ℕ}
use mathlib.Core.Bool.{Bool, true, false, cond, ◌&&◌}
use mathlib.Core.List.{List, [], ◌∷◌, ◌++◌, map, flat_map, product, zip, append-nil}
use mathlib.Core.Path.{◌≡◌, refl, sym, ap, ◌∙◌}
use lib.Dec.{eqb, leb}
use lib.ListN.{length}
use Rattle.unification.specs.Outcome.{Outcome, unified, clash, occurs}
use Rattle.unification.proofs.FlatLaws.{flat_same, flat_none, flat_map_lem, flat_flat, flat_one, map_flat}
use Rattle.multiset_unification.specs.Computed.Listing.{kept}
use Rattle.multiset_unification.proofs.EntryLaws.{keep}
use Rattle.algorithms.specs.Algorithms.{permutations, Contexts, Result, composed, unify_terms, unify_c, unify}

-- A pairing with a substitution of multiset variables.
abbrev pub result : List (ℕ × ℕ) → Contexts → Result
result ps σ = record { pairing = ps; contexts = σ }

-- each pairing goes with each substitution
pub composed_flat : (Σt : List (List (ℕ × ℕ))) (ΣM : List Contexts) → composed Σt ΣM ≡ flat_map (λ ps. map (result ps) ΣM) Σt
unfolding composed product flat_map
composed_flat [] ΣM = refl
composed_flat (ps ∷ Σt) ΣM =
    map_flat (λ σ. result σ.0 σ.1) (λ ps. map (λ (σ : Contexts). (ps, σ)) ΣM) (ps ∷ Σt)
    ∙ flat_same _ _ (ps ∷ Σt) (λ qs m. at qs ΣM)
  where
    at : (qs : List (ℕ × ℕ)) (Σ : List Contexts) →
        map (λ (σ : List (ℕ × ℕ) × Contexts). result σ.0 σ.1) (map (λ (σ : Contexts). (qs, σ)) Σ) ≡ map (result qs) Σ
    at qs [] = refl
    at qs (σ ∷ Σ) = ap (result qs σ ∷◌) (at qs Σ)

-- unify_terms goes over the second list in every order
pub terms_all : (ts ss : List ℕ) → unify_terms (λ ps. unified) ts ss ≡ map (zip ts) (permutations ss)
unfolding unify_terms kept product flat_map
terms_all ts ss =
    flat_one (λ p. zip p.0 p.1) (map (λ (s : List ℕ). (ts, s)) (permutations ss) ++ [])
    ∙ at (permutations ss)
  where
    at : (Ss : List (List ℕ)) → map (λ (p : List ℕ × List ℕ). zip p.0 p.1) (map (λ (s : List ℕ). (ts, s)) Ss ++ []) ≡ map (zip ts) Ss
    at [] = refl
    at (S ∷ Ss) = ap (zip ts S ∷◌) (at Ss)

module _ (o : List (ℕ × ℕ) → Outcome) where
  -- What is kept of some results.
  abbrev pub keep_results : List Result → List Result
  keep_results rs = keep (λ r. o r.pairing) (λ r. r) rs

  -- what is kept of lists one after the other is what is kept of each
  keep_flat : {A : Type 0} (f g : A → List Result) (xs : List A) → ((x : A) → f x ≡ keep_results (g x)) → flat_map f xs ≡ keep_results (flat_map g xs)
  keep_flat f g xs h = flat_same f (λ x. keep_results (g x)) xs (λ x m. h x) ∙ sym (flat_flat (λ r. kept (o r.pairing) r) g xs)

  keep_terms : (ts ss : List ℕ) → unify_terms o ts ss ≡ flat_map (λ ps. kept (o ps) ps) (unify_terms (λ ps. unified) ts ss)
  unfolding unify_terms kept flat_map
  keep_terms ts ss =
      flat_same _ _ (product (ts ∷ []) (permutations ss)) (λ p m. sym (append-nil _))
      ∙ sym (flat_flat (λ ps. kept (o ps) ps) (λ p. zip p.0 p.1 ∷ []) (product (ts ∷ []) (permutations ss)))

  -- a pairing is kept with all its substitutions, or with none
  keep_one : (ps : List (ℕ × ℕ)) (ΣM : List Contexts) (w : Outcome) → o ps ≡ w →
      flat_map (λ qs. map (result qs) ΣM) (kept w ps) ≡ keep_results (map (result ps) ΣM)
  unfolding flat_map kept
  keep_one ps ΣM w e = go w e ∙ sym (flat_map_lem (λ r. kept (o r.pairing) r) (result ps) ΣM)
    where
      go : (w : Outcome) → o ps ≡ w → flat_map (λ qs. map (result qs) ΣM) (kept w ps) ≡ flat_map (λ σ. kept (o ps) (result ps σ)) ΣM
      go unified e = rw e (append-nil (map (result ps) ΣM) ∙ sym (flat_one (result ps) ΣM))
      go clash e = rw e (sym (flat_none (λ σ. []) ΣM (λ σ. refl)))
      go occurs e = rw e (sym (flat_none (λ σ. []) ΣM (λ σ. refl)))

  keep_composed : (ts ss : List ℕ) (ΣM : List Contexts) →
      composed (unify_terms o ts ss) ΣM ≡ keep_results (composed (unify_terms (λ ps. unified) ts ss) ΣM)
  keep_composed ts ss ΣM =
      let Σ = unify_terms (λ ps. unified) ts ss in
      ap (λ (Σt : List (List (ℕ × ℕ))). composed Σt ΣM) (keep_terms ts ss)
      ∙ composed_flat (flat_map (λ ps. kept (o ps) ps) Σ) ΣM
      ∙ flat_flat (λ ps. map (result ps) ΣM) (λ ps. kept (o ps) ps) Σ
      ∙ keep_flat _ _ Σ (λ ps. keep_one ps ΣM (o ps) refl)
      ∙ ap keep_results (sym (composed_flat Σ ΣM))

  module _ (ts Ms ss Ns : List ℕ) where
    keep_c : (c : ℕ) → unify_c o c ts Ms ss Ns ≡ keep_results (unify_c (λ ps. unified) c ts Ms ss Ns)
    unfolding unify_c
    keep_c c = keep_flat _ _ _ (λ T. keep_flat _ _ _ (λ S. keep_composed _ _ _))

    keep_if : (b : Bool) (rs rs' qs qs' : List Result) → rs ≡ keep_results rs' → qs ≡ keep_results qs' → cond b rs qs ≡ keep_results (cond b rs' qs')
    keep_if true rs rs' qs qs' e f = e
    keep_if false rs rs' qs qs' e f = f

    keep_none : [] ≡ keep_results []
    unfolding flat_map
    keep_none = refl

    -- Algorithm 1 is what it goes over, without what unify_lists does not unify
    pub algorithm_keeps : unify o ts Ms ss Ns ≡ keep_results (unify (λ ps. unified) ts Ms ss Ns)
    unfolding unify
    algorithm_keeps =
        keep_if (eqb (length Ms) 0 && eqb (length Ns) 0) _ _ _ _ (keep_if (eqb (length ts) (length ss)) _ _ _ _ (keep_composed _ _ _) keep_none)
        (keep_if (eqb (length Ms) 0) _ _ _ _ (keep_if (leb (length ss) (length ts)) _ _ _ _ (keep_c _) keep_none)
        (keep_if (eqb (length Ns) 0) _ _ _ _ (keep_if (leb (length ts) (length ss)) _ _ _ _ (keep_c _) keep_none) (keep_flat _ _ _ keep_c)))
