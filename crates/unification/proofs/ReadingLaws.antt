-- Words can be read in one way at most: a variable inside an application has a smaller value than the application, so values agree by
-- induction on their size.
-- Assumes nothing.
use Prim.Native.Nat.{ℕ, zero, suc, ◌<◌, ◌≤◌}
use mathlib.Core.List.{List}
use mathlib.Core.Path.{◌≡◌, refl, sym, ap, ◌∙◌}
use native.Mathlib.Omega.{arith}
use lib.ListN.{length}
use Rattle.terms.specs.Term.{var, app}
use Rattle.terms.specs.Substitution.{Substitution}
use Rattle.terms.proofs.SizeLaws.{size, sizes}
use Rattle.unification.specs.Node.{Node, variable, application, node_at, each, Present}
use Rattle.unification.specs.Unifier.{value}
use Rattle.unification.specs.Code.Given.{WellFormed}
use Rattle.unification.specs.Words.{IsRead, of_variable, of_application, Reads}
use Rattle.unification.proofs.MatchedLaws.{matched_both}
use Rattle.unification.proofs.NodeLaws.{each_same, each_size, value_variable, value_application}
use Rattle.unification.proofs.VariableLaws.{present_variables}

module _ (ns : List Node) (w : WellFormed ns) (ws : List ℕ) (σ τ : Substitution) (r : Reads ns ws σ) (q : Reads ns ws τ) where
  -- applications agree where smaller values do
  applied_same : (n i f : ℕ) (us : List ℕ) → i < length ns → node_at ns i ≡ application f us → size (value ns σ i) < suc n →
      ((a : ℕ) → a < length ns → size (value ns σ a) < n → value ns σ a ≡ value ns τ a) → value ns σ i ≡ value ns τ i
  unfolding size
  applied_same n i f us p e l h =
      let d : value ns σ i ≡ app f (each (value ns σ) us) = value_application ns w σ i f us p e in
      let s : size (value ns σ i) ≡ suc (sizes (each (value ns σ) us)) = ap size d in
      d ∙ ap (app f) (each_same (value ns σ) (value ns τ) us (λ a m.
      let b : a < i = w.smaller i f us p e a m in
      let c : size (value ns σ a) ≤ sizes (each (value ns σ) us) = each_size (value ns σ) us a m in
      h a (omega arith) (omega arith))) ∙ sym (value_application ns w τ i f us p e)

  values_agree : (n i : ℕ) → i < length ns → size (value ns σ i) < n → value ns σ i ≡ value ns τ i
  values_agree zero i p l = absurd (omega arith)
  values_agree (suc n) i p l = go (λ a m k. values_agree n a m k) (node_at ns i) refl
    where
      go : ((a : ℕ) → a < length ns → size (value ns σ a) < n → value ns σ a ≡ value ns τ a) → (o : Node) → node_at ns i ≡ o →
          value ns σ i ≡ value ns τ i
      go h (application f us) e = applied_same n i f us p e l h
      go h (variable x) e =
          let b = matched_both r q x (present_variables ns x (i, p, e)) in
          value_variable ns w σ i x p e ∙ from b.1 b.2 ∙ sym (value_variable ns w τ i x p e)
        where
          from : {v : ℕ} → IsRead ns σ x v → IsRead ns τ x v → σ x ≡ τ x
          from (of_variable {y} a c d) (of_variable {y = z} b k m) = let s = sym c ∙ k in let t : y ≡ z = cc in d ∙ ap var t ∙ sym m
          from (of_variable a c d) (of_application b k m) = let s = sym c ∙ k in let z : ◌≡◌ {A = ℕ} 0 1 = cc in absurd (omega arith)
          from (of_application a c d) (of_variable b k m) = let s = sym c ∙ k in let z : ◌≡◌ {A = ℕ} 0 1 = cc in absurd (omega arith)
          from {v} (of_application {f} {us} a c d) (of_application b k m) =
              let z : size (value ns σ i) ≡ size (value ns σ v) = ap size (value_variable ns w σ i x p e ∙ d) in
              d ∙ applied_same n v f us a c (omega arith) h ∙ sym m

  -- words are read in one way at most on the variables present
  pub reads_one : (x : ℕ) → Present ns x → σ x ≡ τ x
  reads_one x (i, p, e) =
      sym (value_variable ns w σ i x p e) ∙ values_agree (suc (size (value ns σ i))) i p (omega arith) ∙ value_variable ns w τ i x p e
