-- Lists without repeats: their images, and the places of their elements.
-- By induction on the list. Assumes nothing.
use Prim.Native.Nat.{ℕ, zero, suc, ◌<◌}
use mathlib.Core.List.{List, [], ◌∷◌, map, Memᴰ}
use mathlib.Core.Path.{◌≡◌, refl, sym, ap}
use native.Mathlib.Omega.{arith}
use lib.ListN.{length}
use Rattle.table.specs.Layout.{word}
use Rattle.unification.specs.Words.{before}
use Rattle.unification.proofs.RisingLaws.{rising_map}
use Rattle.unification.proofs.ListLaws.{placed}
use Rattle.algorithms.specs.Code.Placing.{Distinct}

-- the images of distinct elements are distinct, where the function tells them apart
pub map_distinct : {A B : Type 0} (f : A → B) (xs : List A) → ((x y : A) → Memᴰ x xs → Memᴰ y xs → f x ≡ f y → x ≡ y) → Distinct xs →
    Distinct (map f xs)
map_distinct f xs h r = rising_map (λ x y. x ≡ y → ⊥) (λ x y. x ≡ y → ⊥) f xs (λ x y m n d e. d (h x y m n e)) r

-- where nothing stands twice, two places of one element are one place
pub one_place : (xs : List ℕ) → Distinct xs → (i j : ℕ) → i < length xs → j < length xs → word xs i ≡ word xs j → i ≡ j
one_place [] r i j h k e = absurd (omega arith)
one_place (x ∷ xs) r zero zero h k e = refl
one_place (x ∷ xs) (before b r) zero (suc j) h k e = absurd (b (word xs j) (placed xs j (omega arith)) e)
one_place (x ∷ xs) (before b r) (suc i) zero h k e = absurd (b (word xs i) (placed xs i (omega arith)) (sym e))
one_place (x ∷ xs) (before b r) (suc i) (suc j) h k e = ap suc (one_place xs r i j (omega arith) (omega arith) e)
