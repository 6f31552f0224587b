-- What labels hold, said of their places: labels that are all different hold what is said of theirs.
-- By induction on the labels; the left ones stand before the right ones. Assumes nothing.
use Prim.Native.Nat.{ℕ, zero, suc, ◌+◌, ◌-◌, ◌<◌}
use mathlib.Core.Bool.{cond}
use mathlib.Core.List.{List, [], ◌∷◌, ◌++◌}
use mathlib.Core.Path.{◌≡◌, refl, sym, ap, ◌∙◌}
use native.Mathlib.Omega.{arith}
use borrow.Author.Tests.{eq-eqb, ne_eqb, lt-ltb, le-ltb}
use lib.Dec.{eqb, ltb}
use lib.ListN.{length, length-append, get_or-append}
use lib.Seq.{get_or-append-add}
use Rattle.table.specs.Layout.{word}
use Rattle.terms.specs.Term.{Term}
use Rattle.multiset_unification.specs.Code.Posed.{Different}

-- What a label holds where f says it of each place: that of its first place, and nothing if it has none.
unfoldable held : List ℕ → (ℕ → List Term) → ℕ → List Term
held [] f x = []
held (k ∷ ks) f x = cond (eqb x k) (f 0) (held ks (λ p. f (suc p)) x)

-- labels that are all different hold what is said of their places
held_at : (ks : List ℕ) (f : ℕ → List Term) → Different ks → (p : ℕ) → p < length ks → held ks f (word ks p) ≡ f p
unfolding held
held_at [] f d p h = absurd (omega arith)
held_at (k ∷ ks) f d zero h = rw (eq-eqb k k refl) refl
held_at (k ∷ ks) f d (suc p) h =
    rw (ne_eqb (word ks p) k (λ e. d 0 (suc p) (omega arith) h (sym e)))
    (held_at ks (λ q. f (suc q)) (λ i j l m. d (suc i) (suc j) (omega arith) (omega arith)) p (omega arith))

module _ (ks qs : List ℕ) (left right : ℕ → List Term) where
  -- What is said of each place of the labels, the left ones and then the right ones.
  abbrev said : ℕ → List Term
  said p = cond (ltb p (length ks)) (left p) (right (p - length ks))

  -- What each label holds.
  pub held_by : ℕ → List Term
  held_by = held (ks ++ qs) said

  -- that of a left label is what is said of its place
  pub held_left : Different (ks ++ qs) → (p : ℕ) → p < length ks → held_by (word ks p) ≡ left p
  unfolding held_by
  held_left d p h =
      let l = length-append ks qs in
      ap (held (ks ++ qs) said) (sym (get_or-append ks qs 0 p h)) ∙ held_at (ks ++ qs) said d p (omega (arith, l, h)) ∙
      rw (lt-ltb p (length ks) h) refl

  -- and so is that of a right label
  pub held_right : Different (ks ++ qs) → (q : ℕ) → q < length qs → held_by (word qs q) ≡ right q
  unfolding held_by
  held_right d q h =
      let l = length-append ks qs in
      let e : length ks + q - length ks ≡ q = omega arith in
      ap (held (ks ++ qs) said) (sym (get_or-append-add ks qs q 0)) ∙ held_at (ks ++ qs) said d (length ks + q) (omega (arith, l, h)) ∙
      rw (le-ltb (length ks + q) (length ks) (omega arith), e) refl

module _ (ks qs : List ℕ) (d : Different (ks ++ qs)) where
  -- labels of both sides that are all different are so on each side
  pub left_different : Different ks
  left_different i j h l e =
      let n = length-append ks qs in
      d i j h (omega (arith, n, l)) (get_or-append ks qs 0 i (omega arith) ∙ e ∙ sym (get_or-append ks qs 0 j l))

  pub right_different : Different qs
  right_different i j h l e =
      let n = length-append ks qs in
      d (length ks + i) (length ks + j) (omega arith) (omega (arith, n, l)) (get_or-append-add ks qs i 0 ∙ e ∙ sym (get_or-append-add ks qs j 0))

  -- and no right label is a left one
  pub sides_different : (p q : ℕ) → p < length ks → q < length qs → word qs q ≡ word ks p → ⊥
  sides_different p q h l e =
      let n = length-append ks qs in
      d p (length ks + q) (omega arith) (omega (arith, n, l)) (get_or-append ks qs 0 p h ∙ sym e ∙ sym (get_or-append-add ks qs q 0))
