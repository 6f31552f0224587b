-- Laws of `flat_map`: lists for the elements of a list, one after the other. By induction on the list.
-- Assumes nothing.
use mathlib.Core.List.Memᴰ
use mathlib.Core.List.{List, [], ◌∷◌, ◌++◌, map, flat_map, append_assoc, map-append, Memᴰ}
use mathlib.Core.Logic.{◌⊎◌, inl, inr, ◌↔◌}
use mathlib.Core.Path.{◌≡◌, refl, sym, ap, ◌∙◌}

module _ {A B : Type 0} where
  -- lists for the elements of two lists stand one after the other
  pub flat_append : (f : A → List B) (xs ys : List A) → flat_map f (xs ++ ys) ≡ flat_map f xs ++ flat_map f ys
  unfolding flat_map
  flat_append f [] ys = refl
  flat_append f (x ∷ xs) ys =
      ap (λ (zs : List B). f x ++ zs) (flat_append f xs ys) ∙ sym (append_assoc (f x) (flat_map f xs) (flat_map f ys))

  -- they depend on the elements alone
  pub flat_same : (f g : A → List B) (xs : List A) → ((x : A) → Memᴰ x xs → f x ≡ g x) → flat_map f xs ≡ flat_map g xs
  unfolding flat_map
  flat_same f g [] h = refl
  flat_same f g (x ∷ xs) h =
      rw (h x (Memᴰ.head refl), flat_same f g xs (λ y m. h y (Memᴰ.tail m)))

  -- and are nothing if each is
  pub flat_none : (f : A → List B) (xs : List A) → ((x : A) → f x ≡ []) → flat_map f xs ≡ []
  unfolding flat_map
  flat_none f [] h = refl
  flat_none f (x ∷ xs) h = rw (h x, flat_none f xs h)

  -- one element for each
  pub flat_one : (f : A → B) (xs : List A) → flat_map (λ x. f x ∷ []) xs ≡ map f xs
  unfolding flat_map
  flat_one f [] = refl
  flat_one f (x ∷ xs) = ap (f x ∷◌) (flat_one f xs)

-- the elements can be mapped first
pub flat_map_lem : {A B C : Type 0} (f : B → List C) (g : A → B) (xs : List A) → flat_map f (map g xs) ≡ flat_map (λ x. f (g x)) xs
unfolding flat_map
flat_map_lem f g [] = refl
flat_map_lem {C = C} f g (x ∷ xs) = ap (λ (zs : List C). f (g x) ++ zs) (flat_map_lem f g xs)

-- and lists made of lists, all at once
pub flat_flat : {A B C : Type 0} (f : B → List C) (g : A → List B) (xs : List A) → flat_map f (flat_map g xs) ≡ flat_map (λ x. flat_map f (g x)) xs
unfolding flat_map
flat_flat f g [] = refl
flat_flat {C = C} f g (x ∷ xs) = flat_append f (g x) (flat_map g xs) ∙ ap (λ (zs : List C). flat_map f (g x) ++ zs) (flat_flat f g xs)

-- what is made can be mapped at once
pub map_flat : {A B C : Type 0} (f : B → C) (g : A → List B) (xs : List A) → map f (flat_map g xs) ≡ flat_map (λ x. map f (g x)) xs
unfolding flat_map
map_flat f g [] = refl
map_flat {C = C} f g (x ∷ xs) = map-append f (g x) (flat_map g xs) ∙ ap (λ (zs : List C). map f (g x) ++ zs) (map_flat f g xs)

flat_from : {A B : Type 0} (f : A → List B) (xs : List A) (y : B) → Memᴰ y (flat_map f xs) → (x : A) × Memᴰ x xs × Memᴰ y (f x)
unfolding flat_map
flat_from f [] y m = absurd (Memᴰ.not-nil m)
flat_from {A} f (x ∷ xs) y m = go (flat_from f xs y) (Memᴰ.append_cases (f x) m)
  where
    go : (Memᴰ y (flat_map f xs) → (z : A) × Memᴰ z xs × Memᴰ y (f z)) → Memᴰ y (f x) ⊎ Memᴰ y (flat_map f xs) → (z : A) × Memᴰ z (x ∷ xs) ×
        Memᴰ y (f z)
    go r (inl n) = (x, Memᴰ.head refl, n)
    go r (inr n) = let s = r n in (s.0, Memᴰ.tail s.1, s.2)

flat_of : {A B : Type 0} (f : A → List B) (xs : List A) (y : B) (x : A) → Memᴰ x xs → Memᴰ y (f x) → Memᴰ y (flat_map f xs)
unfolding flat_map
flat_of f [] y x m n = absurd (Memᴰ.not-nil m)
flat_of f (z ∷ xs) y x (Memᴰ.head e) n = Memᴰ.append_left {s = f z} (flat_map f xs) (rw (← e) n)
flat_of f (z ∷ xs) y x (Memᴰ.tail m) n = Memᴰ.append_right (f z) (flat_of f xs y x m n)

-- what is in one of the lists is in all of them together, and the other way round
pub in_flat : {A B : Type 0} (f : A → List B) (xs : List A) (y : B) → Memᴰ y (flat_map f xs) ↔ ((x : A) × Memᴰ x xs × Memᴰ y (f x))
in_flat f xs y = (flat_from f xs y, λ s. flat_of f xs y s.0 s.1 s.2)
