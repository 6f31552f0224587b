-- So many numbers, from a first one on: how many they are, and which.
-- By induction on how many. Assumes nothing.
use Prim.Native.Nat.{ℕ, zero, suc, ◌+◌, ◌<◌, ◌≤◌}
use mathlib.Core.List.Memᴰ
use mathlib.Core.List.{List, [], ◌∷◌, map, Memᴰ}
use mathlib.Core.Logic.{◌↔◌}
use mathlib.Core.Path.{◌≡◌, refl, ap, ◌∙◌}
use native.Mathlib.Decide.{ℕ_discrete}
use native.Mathlib.Omega.{arith}
use lib.ListN.{length}
use Rattle.table.specs.Layout.{word}
use Rattle.unification.specs.Words.{end, before}
use Rattle.algorithms.specs.Algorithms.{numbers}
use Rattle.algorithms.specs.Code.Placing.{Distinct}

-- there are as many as are asked for
pub numbers_long : (a n : ℕ) → length (numbers a n) ≡ n
unfolding numbers
numbers_long a zero = refl
numbers_long a (suc n) = ap suc (numbers_long (suc a) n)

numbers_from : (a n x : ℕ) → Memᴰ x (numbers a n) → (a ≤ x) × (x < a + n)
unfolding numbers
numbers_from a zero x m = absurd (Memᴰ.not-nil m)
numbers_from a (suc n) x (Memᴰ.head e) = (omega (arith, e), omega (arith, e))
numbers_from a (suc n) x (Memᴰ.tail m) =
    let r = numbers_from (suc a) n x m in
    (omega (arith, r.0), omega (arith, r.1))

in_numbers : (a n x : ℕ) → a ≤ x → x < a + n → Memᴰ x (numbers a n)
unfolding numbers
in_numbers a zero x h l = absurd (omega arith)
in_numbers a (suc n) x h l = go (ℕ_discrete x a) (in_numbers (suc a) n x)
  where
    go : Dec (x ≡ a) → (suc a ≤ x → x < suc a + n → Memᴰ x (numbers (suc a) n)) → Memᴰ x (a ∷ numbers (suc a) n)
    go (yes e) r = Memᴰ.head e
    go (no e) r = Memᴰ.tail (r (omega arith) (omega arith))

-- those from the first one on
pub numbers_are : (a n x : ℕ) → Memᴰ x (numbers a n) ↔ ((a ≤ x) × (x < a + n))
numbers_are a n x = (numbers_from a n x, λ s. in_numbers a n x s.0 s.1)

-- each once
pub numbers_distinct : (a n : ℕ) → Distinct (numbers a n)
unfolding numbers
numbers_distinct a zero = end
numbers_distinct a (suc n) =
    before {x = a} (λ y m e. let r = numbers_from (suc a) n y m in absurd (omega (arith, r.0, e))) (numbers_distinct (suc a) n)

-- numbers that stand for the words of a list, place by place, stand for the list
pub numbers_stand : (f : ℕ → ℕ) (a n : ℕ) (us : List ℕ) → length us ≡ n → ((i : ℕ) → i < n → f (a + i) ≡ word us i) → map f (numbers a n) ≡ us
unfolding numbers
numbers_stand f a zero [] e h = refl
numbers_stand f a zero (u ∷ us) e h = absurd (omega arith)
numbers_stand f a (suc n) [] e h = absurd (omega arith)
numbers_stand f a (suc n) (u ∷ us) e h =
    let z : a ≡ a + 0 = omega arith in
    let x : f a ≡ u = ap f z ∙ h 0 (omega arith) in
    let r : map f (numbers (suc a) n) ≡ us = numbers_stand f (suc a) n us (omega arith)
    (λ i l. let y : suc a + i ≡ a + suc i = omega arith in ap f y ∙ h (suc i) (omega arith)) in
    rw (x, r)
