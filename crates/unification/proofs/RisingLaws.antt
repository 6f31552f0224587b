-- Rising lists, over any relation: they can be put together and mapped, hold nothing twice, and are settled by their members.
-- By induction on the lists. Assumes nothing.
use mathlib.Core.List.Memᴰ
use mathlib.Core.List.{List, [], ◌∷◌, ◌++◌, map, flat_map, Memᴰ}
use mathlib.Core.Logic.{◌⊎◌, inl, inr, ◌↔◌}
use mathlib.Core.Path.{◌≡◌, refl, sym}
use Rattle.unification.specs.Words.{Rising, end, before}
use Rattle.unification.proofs.FlatLaws.{in_flat}

module _ {A : Type 0} (Below : A → A → Type 0) where
  -- two rising lists, all of the first below all of the second, are one rising list
  pub rising_append : (xs ys : List A) → Rising Below xs → Rising Below ys → ((x y : A) → Memᴰ x xs → Memᴰ y ys → Below x y) → Rising Below (xs ++ ys)
  rising_append [] ys r s h = s
  rising_append (x ∷ xs) ys (before b r) s h =
      before (λ y m. first y (Memᴰ.append_cases xs m)) (rising_append xs ys r s (λ y z m n. h y z (Memᴰ.tail m) n))
    where
      first : (y : A) → Memᴰ y xs ⊎ Memᴰ y ys → Below x y
      first y (inl m) = b y m
      first y (inr m) = h x y (Memᴰ.head refl) m

  -- the images of a rising list rise, where the function keeps the order of its elements
  pub rising_map : {B : Type 0} (Under : B → B → Type 0) (f : A → B) (xs : List A) →
      ((x y : A) → Memᴰ x xs → Memᴰ y xs → Below x y → Under (f x) (f y)) → Rising Below xs → Rising Under (map f xs)
  rising_map Under f [] h r = end
  rising_map {B} Under f (x ∷ xs) h (before b r) =
      before (λ y m. first y (Memᴰ.of_map f xs m)) (rising_map Under f xs (λ y z m n. h y z (Memᴰ.tail m) (Memᴰ.tail n)) r)
    where
      first : (y : B) → (a : A) × Memᴰ a xs × (f a ≡ y) → Under (f x) y
      first y (a, m, e) = rw (← e) (h x a (Memᴰ.head refl) (Memᴰ.tail m) (b a m))

  module _ (one_way : (x y : A) → Below x y → Below y x → ⊥) where
    above_first : (x y : A) (ys : List A) → Below y x → Memᴰ x (y ∷ ys) → Memᴰ x ys
    above_first x y ys b (Memᴰ.head e) = let c = rw e at b in absurd (one_way y y c c)
    above_first x y ys b (Memᴰ.tail m) = m

    -- the firsts of two rising lists that each hold the other's first are one
    first_same : (x y : A) (xs ys : List A) → ((z : A) → Memᴰ z xs → Below x z) → ((z : A) → Memᴰ z ys → Below y z) → Memᴰ x (y ∷ ys) →
        Memᴰ y (x ∷ xs) → x ≡ y
    first_same x y xs ys b c (Memᴰ.head e) n = e
    first_same x y xs ys b c (Memᴰ.tail m) (Memᴰ.head e) = sym e
    first_same x y xs ys b c (Memᴰ.tail m) (Memᴰ.tail n) = absurd (one_way x y (b y n) (c x m))

    -- rising lists with the same members are one list
    pub rising_same : (xs ys : List A) → Rising Below xs → Rising Below ys → ((x : A) → Memᴰ x xs ↔ Memᴰ x ys) → xs ≡ ys
    rising_same [] [] r s h = refl
    rising_same [] (y ∷ ys) r s h = absurd (Memᴰ.not-nil ((h y).1 (Memᴰ.head refl)))
    rising_same (x ∷ xs) [] r s h = absurd (Memᴰ.not-nil ((h x).0 (Memᴰ.head refl)))
    rising_same (x ∷ xs) (y ∷ ys) (before b r) (before c s) h =
        let e : x ≡ y = first_same x y xs ys b c ((h x).0 (Memᴰ.head refl)) ((h y).1 (Memᴰ.head refl)) in
        let t : xs ≡ ys = rising_same xs ys r s (λ z. (
          (λ m. above_first z y ys (rw e at (b z m)) ((h z).0 (Memᴰ.tail m))),
          (λ m. above_first z x xs (rw (← e) at (c z m)) ((h z).1 (Memᴰ.tail m))),
        )) in
        rw (e, t)

    -- nothing stands twice in a rising list
    pub rising_once : (xs : List A) (x : A) (ys : List A) → Rising Below (xs ++ x ∷ ys) → (Memᴰ x xs → ⊥) × (Memᴰ x ys → ⊥)
    rising_once [] x ys (before b r) = (Memᴰ.not-nil, λ m. one_way x x (b x m) (b x m))
    rising_once (w ∷ xs) x ys (before b r) =
        let s = rising_once xs x ys r in
        ((λ m. s.0 (above_first x w xs (b x (Memᴰ.append_right xs (Memᴰ.head refl))) m)), s.1)

-- lists that rise, each below those after it, rise together
pub rising_flat : {A B : Type 0} (Below : A → A → Type 0) (Under : B → B → Type 0) (f : A → List B) (xs : List A) → Rising Below xs →
    ((x : A) → Memᴰ x xs → Rising Under (f x)) →
    ((x y : A) → Memᴰ x xs → Memᴰ y xs → Below x y → (u v : B) → Memᴰ u (f x) → Memᴰ v (f y) → Under u v) → Rising Under (flat_map f xs)
unfolding flat_map
rising_flat Below Under f [] r s h = end
rising_flat {A} {B} Below Under f (x ∷ xs) (before b r) s h =
    rising_append Under (f x) (flat_map f xs) (s x (Memᴰ.head refl))
    (rising_flat Below Under f xs r (λ y m. s y (Memᴰ.tail m)) (λ y z m n. h y z (Memᴰ.tail m) (Memᴰ.tail n)))
    (λ u v m n. further u v m ((in_flat f xs v).0 n))
  where
    further : (u v : B) → Memᴰ u (f x) → (y : A) × Memᴰ y xs × Memᴰ v (f y) → Under u v
    further u v m (y, k, n) = h x y (Memᴰ.head refl) (Memᴰ.tail k) (b y k) u v m n
