-- The pairs of the elements of two lists.
-- There is a list of pairs for each first element, one after the other. Assumes nothing.
use mathlib.Core.List.Memᴰ
use mathlib.Core.List.{List, [], ◌∷◌, map, product, Memᴰ}
use mathlib.Core.Logic.{◌↔◌}
use mathlib.Core.Path.{◌≡◌, refl, sym, ap, ◌∙◌}
use Rattle.unification.proofs.RisingLaws.{rising_flat}
use Rattle.unification.proofs.FlatLaws.{flat_same, flat_map_lem, map_flat, in_flat}
use Rattle.algorithms.specs.Code.Placing.{Distinct}
use Rattle.algorithms.proofs.DistinctLaws.{map_distinct}

-- a pair is in the product exactly if its parts are in the lists
pub in_product : {A B : Type 0} (xs : List A) (ys : List B) (x : A) (y : B) → Memᴰ (x, y) (product xs ys) ↔ (Memᴰ x xs × Memᴰ y ys)
unfolding product
in_product {A} {B} xs ys x y = (
  (λ m. parts ((in_flat row xs (x, y)).0 m)),
  (λ s. (in_flat row xs (x, y)).1 (x, s.0, Memᴰ.map (λ (b : B). (x, b)) s.1)),
)
  where
    row : A → List (A × B)
    row a = map (λ (b : B). (a, b)) ys

    of_pair : (a : A) → Memᴰ a xs → (b : B) × Memᴰ b ys × (◌≡◌ {A = A × B} (a, b) (x, y)) → Memᴰ x xs × Memᴰ y ys
    of_pair a m (b, n, e) = (Memᴰ.cast (sym (ap (λ (p : A × B). p.0) e)) m, Memᴰ.cast (sym (ap (λ (p : A × B). p.1) e)) n)

    parts : (a : A) × Memᴰ a xs × Memᴰ (x, y) (row a) → Memᴰ x xs × Memᴰ y ys
    parts (a, m, n) = of_pair a m (Memᴰ.of_map (λ (b : B). (a, b)) ys n)

-- the pairs of distinct elements are distinct
pub product_distinct : {A B : Type 0} (xs : List A) (ys : List B) → Distinct xs → Distinct ys → Distinct (product xs ys)
unfolding product
product_distinct {A} {B} xs ys r s =
    rising_flat (λ x y. x ≡ y → ⊥) (λ x y. x ≡ y → ⊥) (λ a. map (λ (b : B). (a, b)) ys) xs r
    (λ a m. map_distinct (λ (b : B). (a, b)) ys (λ b c m n e. ap (λ (p : A × B). p.1) e) s)
    (λ a c m n d u v p q. first a c d u v (Memᴰ.of_map (λ (b : B). (a, b)) ys p) (Memᴰ.of_map (λ (b : B). (c, b)) ys q))
  where
    first : (a c : A) → (a ≡ c → ⊥) → (u v : A × B) → (b : B) × Memᴰ b ys × (◌≡◌ {A = A × B} (a, b) u) → (b : B) × Memᴰ b ys ×
        (◌≡◌ {A = A × B} (c, b) v) → u ≡ v → ⊥
    first a c d u v (b, m, e) (b', m', e') q = d (ap (λ (p : A × B). p.0) (e ∙ q ∙ sym e'))

-- pairs of what is made of elements are made of pairs of elements
pub map_product : {A B C D E : Type 0} (f : A → C) (g : B → D) (h : C × D → E) (xs : List A) (ys : List B) →
    map h (product (map f xs) (map g ys)) ≡ map (λ (s : A × B). h (f s.0, g s.1)) (product xs ys)
unfolding product
map_product {A} {B} {C} {D} {E} f g h xs ys =
    map_flat h (λ c. map (λ (d : D). (c, d)) (map g ys)) (map f xs)
    ∙ flat_map_lem (λ c. map h (map (λ (d : D). (c, d)) (map g ys))) f xs
    ∙ flat_same _ _ xs (λ x m. at x ys)
    ∙ sym (map_flat (λ (s : A × B). h (f s.0, g s.1)) (λ x. map (λ (y : B). (x, y)) ys) xs)
  where
    at : (x : A) (ys : List B) → map h (map (λ (d : D). (f x, d)) (map g ys)) ≡ map (λ (s : A × B). h (f s.0, g s.1)) (map (λ (y : B). (x, y)) ys)
    at x [] = refl
    at x (y ∷ ys) = ap (h (f x, g y) ∷◌) (at x ys)
