-- Substitutions of mmsets: nothing changes where everything is mapped to itself, and two substitutions are one. Equality modulo a theory is
-- an equivalence.
-- How often each term occurs is counted; multiset variables stay in one order. Assumes nothing.
use mathlib.Core.List.{List, [], ◌∷◌, ◌++◌, map, flat_map, append-nil, map-map, map-id, map-append}
use mathlib.Core.Path.{◌≡◌, refl, sym, ◌∙◌}
use native.Mathlib.Omega.{arith}
use Rattle.terms.specs.Term.{Term, var}
use Rattle.terms.specs.Substitution.{sub}
use Rattle.terms.specs.Multiset.{occurrences, Same}
use Rattle.terms.proofs.SubstitutionLaws.{sub_var, sub_sub}
use Rattle.terms.proofs.MultisetLaws.{occurrences_append, same_refl, same_sym, same_trans}
use Rattle.unification.proofs.ListLaws.{map_same}
use Rattle.unification.proofs.FlatLaws.{flat_none, flat_one, flat_flat, map_flat}
use Rattle.algorithms.specs.Mmset.{MultisetVariable, Mmset, MmsetSubstitution, itself, apply, compose, Theory, EqualModulo}

-- multiset variables that are mapped to themselves stay
pub itself_stays : (vs : List MultisetVariable) → flat_map (λ M. (itself M).variables) vs ≡ vs
unfolding itself
itself_stays vs = flat_one (λ M. M) vs ∙ map-id vs

-- and bring no terms
pub itself_alone : (vs : List MultisetVariable) → flat_map (λ M. (itself M).terms) vs ≡ []
unfolding itself
itself_alone vs = flat_none (λ M. []) vs (λ M. refl)

-- terms whose variables are mapped to themselves stay
pub terms_unchanged : (ts : List Term) → map (sub var) ts ≡ ts
terms_unchanged ts = map_same (sub var) (λ u. u) ts (λ u m. sub_var u) ∙ map-id ts

-- The substitution that maps everything to itself.
abbrev unchanged : MmsetSubstitution
unchanged = record { on_terms = var; on_variables = itself }

-- it changes nothing
pub apply_unchanged : (S : Mmset Term) → apply unchanged S ≡ S
unfolding apply
apply_unchanged S =
    let t : map (sub var) S.terms ++ flat_map (λ M. (itself M).terms) S.variables ≡ S.terms =
    rw (itself_alone S.variables) (append-nil _ ∙ terms_unchanged S.terms) in
    rw (t, itself_stays S.variables) refl

-- two lists for each element, or one after the other
each_both : {A : Type 0} (f g : A → List Term) (xs : List A) → Same (flat_map (λ x. f x ++ g x) xs) (flat_map f xs ++ flat_map g xs)
unfolding flat_map
each_both f g [] u = refl
each_both f g (x ∷ xs) u =
    let a = occurrences_append u (f x ++ g x) (flat_map (λ y. f y ++ g y) xs) in
    let b = occurrences_append u (f x) (g x) in
    let r = each_both f g xs u in
    let c = occurrences_append u (flat_map f xs) (flat_map g xs) in
    let d = occurrences_append u (f x ++ flat_map f xs) (g x ++ flat_map g xs) in
    let e = occurrences_append u (f x) (flat_map f xs) in
    let h = occurrences_append u (g x) (flat_map g xs) in
    omega (arith, a, b, r, c, d, e, h)

module _ (σ τ : MmsetSubstitution) (S : Mmset Term) where
  -- a composition has the same variables as one substitution after the other
  pub compose_variables : (apply (compose σ τ) S).variables ≡ (apply τ (apply σ S)).variables
  unfolding apply compose
  compose_variables = sym (flat_flat (λ N. (τ.on_variables N).variables) (λ M. (σ.on_variables M).variables) S.variables)

  -- and the same terms, in some order
  pub compose_terms : Same (apply (compose σ τ) S).terms (apply τ (apply σ S)).terms
  unfolding apply compose
  compose_terms u =
      let vs = S.variables in
      let f : MultisetVariable → List Term = λ M. map (sub τ.on_terms) (σ.on_variables M).terms in
      let g : MultisetVariable → List Term = λ M. flat_map (λ N. (τ.on_variables N).terms) (σ.on_variables M).variables in
      let x : map (sub (λ y. sub τ.on_terms (σ.on_terms y))) S.terms ≡ map (sub τ.on_terms) (map (sub σ.on_terms) S.terms) =
      map_same _ _ S.terms (λ t m. sym (sub_sub τ.on_terms σ.on_terms t)) ∙ sym (map-map (sub τ.on_terms) (sub σ.on_terms) S.terms) in
      let y = map-append (sub τ.on_terms) (map (sub σ.on_terms) S.terms) (flat_map (λ M. (σ.on_variables M).terms) vs) in
      let z = map_flat (sub τ.on_terms) (λ M. (σ.on_variables M).terms) vs in
      let w = flat_flat (λ N. (τ.on_variables N).terms) (λ M. (σ.on_variables M).variables) vs in
      rw (x, y, z, w) (count u (map (sub τ.on_terms) (map (sub σ.on_terms) S.terms)) f g vs)
    where
      count : (u : Term) (ts : List Term) (f g : MultisetVariable → List Term) (vs : List MultisetVariable) →
          occurrences u (ts ++ flat_map (λ M. f M ++ g M) vs) ≡ occurrences u (ts ++ flat_map f vs ++ flat_map g vs)
      count u ts f g vs =
          let a = occurrences_append u ts (flat_map (λ M. f M ++ g M) vs) in
          let b = each_both f g vs u in
          let c = occurrences_append u (flat_map f vs) (flat_map g vs) in
          let d = occurrences_append u (ts ++ flat_map f vs) (flat_map g vs) in
          let e = occurrences_append u ts (flat_map f vs) in
          omega (arith, a, b, c, d, e)

module _ (T : Theory) where
  -- every mmset is equal to itself,
  pub equal_refl : (M : Mmset Term) → EqualModulo T M M
  equal_refl M = record { terms = same_refl M.terms; variables = λ ρ h u. refl }

  -- from right to left,
  pub equal_sym : (M N : Mmset Term) → EqualModulo T M N → EqualModulo T N M
  equal_sym M N e = record { terms = same_sym M.terms N.terms e.terms; variables = λ ρ h u. sym (e.variables ρ h u) }

  -- and from one to the next
  pub equal_trans : (M N O : Mmset Term) → EqualModulo T M N → EqualModulo T N O → EqualModulo T M O
  equal_trans M N O e f =
      record {
        terms = same_trans M.terms N.terms O.terms e.terms f.terms;
        variables = λ ρ h u. e.variables ρ h u ∙ f.variables ρ h u;
      }
