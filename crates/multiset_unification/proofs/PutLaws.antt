-- What digits put at places. Here place p is that of the digit that `digit` gives it: p + 1 for a left label, m + (p + 1) for a right one.
-- A term is put at the place of its digit, and at no other. Assumes nothing.
use Prim.Native.Nat.{ℕ, suc, ◌+◌, ◌<◌}
use mathlib.Core.Bool.{Bool, true, false, cond}
use mathlib.Core.List.{List, [], ◌∷◌, map}
use mathlib.Core.Path.{◌≡◌, refl, sym, ap, ◌∙◌}
use native.Mathlib.Omega.{arith}
use borrow.Author.Tests.{eq-eqb, ne_eqb}
use lib.Dec.{eqb}
use lib.ListN.{length}
use Rattle.table.specs.Layout.{word}
use Rattle.terms.specs.Term.{Term}
use Rattle.terms.specs.Multiset.{occurrences}
use Rattle.terms.proofs.MultisetLaws.{occurrences_append}
use Rattle.multiset_unification.specs.Choice.{with_digit}
use Rattle.multiset_unification.proofs.CountLaws.{total, total_same, total_one}

-- a term that has the digit comes first
pub with_digit_lem : (d a : ℕ) (ts ds : List ℕ) → with_digit d (a ∷ ts) (d ∷ ds) ≡ a ∷ with_digit d ts ds
unfolding with_digit
with_digit_lem d a ts ds = rw (eq-eqb d d refl) refl

-- a term that has another is left out
pub without_digit : (d e a : ℕ) (ts ds : List ℕ) → (e ≡ d → ⊥) → with_digit d (a ∷ ts) (e ∷ ds) ≡ with_digit d ts ds
unfolding with_digit
without_digit d e a ts ds h = rw (ne_eqb e d h) refl

-- values that are the same place by place give the same list
pub map_same : (f g : ℕ → Term) (l : List ℕ) → ((i : ℕ) → i < length l → f (word l i) ≡ g (word l i)) → map f l ≡ map g l
map_same f g [] h = refl
map_same f g (a ∷ l) h =
    let e : f a ≡ g a = h 0 (omega arith) in
    let r : map f l ≡ map g l = map_same f g l (λ i q. h (suc i) (omega arith)) in
    rw (e, r)

-- and the same list of the terms with a digit
pub with_same : (f g : ℕ → Term) (d : ℕ) (l ds : List ℕ) → ((i : ℕ) → i < length l → f (word l i) ≡ g (word l i)) →
    map f (with_digit d l ds) ≡ map g (with_digit d l ds)
unfolding with_digit
with_same f g d [] ds h = refl
with_same f g d (a ∷ l) [] h = refl
with_same f g d (a ∷ l) (e ∷ ds) h = pick (eqb e d) (with_same f g d l ds (λ i q. h (suc i) (omega arith)))
  where
    pick : (b : Bool) → map f (with_digit d l ds) ≡ map g (with_digit d l ds) →
        map f (cond b (a ∷ with_digit d l ds) (with_digit d l ds)) ≡ map g (cond b (a ∷ with_digit d l ds) (with_digit d l ds))
    pick true r = let s : f a ≡ g a = h 0 (omega arith) in rw (s, r)
    pick false r = r

module _ (digit : ℕ → ℕ) (v : ℕ → Term) where
  -- How often a term occurs among the values of what is put at k places.
  abbrev pub put : Term → ℕ → List ℕ → List ℕ → ℕ
  put t k ts ds = total k (λ p. occurrences t (map v (with_digit (digit p) ts ds)))

  -- a digit of no place puts its term nowhere
  pub put_nowhere : (t : Term) (k d a : ℕ) (ts ds : List ℕ) → ((p : ℕ) → p < k → d ≡ digit p → ⊥) → put t k (a ∷ ts) (d ∷ ds) ≡ put t k ts ds
  put_nowhere t k d a ts ds h =
      total_same k (λ p. occurrences t (map v (with_digit (digit p) (a ∷ ts) (d ∷ ds)))) (λ p. occurrences t (map v (with_digit (digit p) ts ds)))
      (λ p q. ap (λ (us : List ℕ). occurrences t (map v us)) (without_digit (digit p) d a ts ds (h p q)))

  -- the digit of a place puts its term there, once
  pub put_once : ((p q : ℕ) → digit p ≡ digit q → p ≡ q) → (t : Term) (k p a : ℕ) (ts ds : List ℕ) → p < k →
      put t k (a ∷ ts) (digit p ∷ ds) ≡ occurrences t (v a ∷ []) + put t k ts ds
  put_once one t k p a ts ds h =
      total_one k (λ q. occurrences t (map v (with_digit (digit q) (a ∷ ts) (digit p ∷ ds))))
      (λ q. occurrences t (map v (with_digit (digit q) ts ds)))
      (occurrences t (v a ∷ [])) p h
      (ap (λ (us : List ℕ). occurrences t (map v us)) (with_digit_lem (digit p) a ts ds) ∙
      occurrences_append t (v a ∷ []) (map v (with_digit (digit p) ts ds)))
      (λ q i n. ap (λ (us : List ℕ). occurrences t (map v us)) (without_digit (digit q) (digit p) a ts ds (λ e. n (one q p (sym e)))))
