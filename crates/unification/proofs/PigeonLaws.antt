-- Of n + 1 numbers below n two are equal. By induction on n: where the last number is none of the others,
-- it takes the place of n - 1 among them, and they are below n - 1. Assumes nothing.
use Prim.Native.Nat.{ℕ, zero, suc, ◌<◌, ◌≤◌}
use mathlib.Core.Bool.{Bool, true, false, cond}
use mathlib.Core.Path.{◌≡◌, refl, sym, ◌∙◌}
use native.Mathlib.Omega.{arith}
use borrow.Author.Tests.{eqb-true, eqb-false}
use lib.Dec.{eqb}
use Rattle.table.specs.Some.{some_below}
use Rattle.table.proofs.SomeLaws.{some_means, none_some}

module _ (n : ℕ) (f : ℕ → ℕ) where
  is_last : ℕ → Bool
  is_last i = eqb (f i) (f (suc n))

  -- the last number in the place of n
  moved : ℕ → ℕ
  moved i = cond (eqb (f i) n) (f (suc n)) (f i)

  module _ (below : (i : ℕ) → i ≤ suc n → f i < suc n) (other : (i : ℕ) → i ≤ n → f i ≡ f (suc n) → ⊥) where
    moved_below : (i : ℕ) → i ≤ n → moved i < n
    unfolding moved
    moved_below i h = pick (eqb (f i) n) refl
      where
        pick : (b : Bool) → eqb (f i) n ≡ b → cond b (f (suc n)) (f i) < n
        pick true z =
            let e : f i ≡ n = eqb-true _ _ z in
            let d : f i ≡ f (suc n) → ⊥ = other i h in
            let l : f (suc n) < suc n = below (suc n) (omega arith) in
            omega (arith, d)
        pick false z =
            let d : f i ≡ n → ⊥ = eqb-false _ _ z in
            let l : f i < suc n = below i (omega arith) in
            omega (arith, d)

    moved_same : (i j : ℕ) → i ≤ n → j ≤ n → moved i ≡ moved j → f i ≡ f j
    unfolding moved
    moved_same i j h k e = pick (eqb (f i) n) refl (eqb (f j) n) refl e
      where
        pick : (b : Bool) → eqb (f i) n ≡ b → (c : Bool) → eqb (f j) n ≡ c → cond b (f (suc n)) (f i) ≡ cond c (f (suc n)) (f j) → f i ≡ f j
        pick true y true z q = eqb-true _ _ y ∙ sym (eqb-true _ _ z)
        pick true y false z q = absurd (other j k (sym q))
        pick false y true z q = absurd (other i h q)
        pick false y false z q = q

-- of n + 1 numbers below n two are equal
pub pigeons : (n : ℕ) (f : ℕ → ℕ) → ((i : ℕ) → i ≤ n → f i < n) → (i : ℕ) × (j : ℕ) × (i < j) × (j ≤ n) × (f i ≡ f j)
unfolding is_last
pigeons zero f h = let l : f 0 < 0 = h 0 (omega arith) in absurd (omega arith)
pigeons (suc n) f h = pick (some_below (suc n) (is_last n f)) refl (pigeons n (moved n f))
  where
    pick : (b : Bool) → some_below (suc n) (is_last n f) ≡ b →
        (((i : ℕ) → i ≤ n → moved n f i < n) → (i : ℕ) × (j : ℕ) × (i < j) × (j ≤ n) × (moved n f i ≡ moved n f j)) → (i : ℕ) × (j : ℕ) × (i < j) ×
        (j ≤ suc n) × (f i ≡ f j)
    pick true z r =
        let s = (some_means (is_last n f) (suc n)).0 z in
        (s.0, suc n, s.1, omega arith, eqb-true _ _ s.2)
    pick false z r =
        let other : (i : ℕ) → i ≤ n → f i ≡ f (suc n) → ⊥ = λ i q. eqb-false _ _ (none_some (is_last n f) (suc n) z i (omega arith)) in
        let s = r (moved_below n f h other) in
        let l : s.1 ≤ n = s.3 in
        let k : s.0 ≤ n = omega (arith, s.2) in
        (s.0, s.1, s.2, omega arith, moved_same n f h other s.0 s.1 k l s.4)
