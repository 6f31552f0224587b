-- A list with an element put in at one place, and taken out again.
-- By induction on the place. Assumes nothing.
use Prim.Native.Nat.{ℕ}
use mathlib.Core.Bool.{cond}
use mathlib.Core.List.Memᴰ
use mathlib.Core.List.{List, [], ◌∷◌, Memᴰ}
use mathlib.Core.Logic.{◌⊎◌, inl, inr, ◌↔◌}
use mathlib.Core.Path.{◌≡◌, refl, sym, ◌∙◌}
use borrow.Author.Tests.{eq-eqb, ne_eqb}
use lib.Dec.{eqb}
use Rattle.unification.specs.Words.{before}
use Rattle.algorithms.specs.Code.Placing.{Distinct}

-- A list, and that list with x put in at one place.
pub data Inserted {A : Type 0} (x : A) : List A → List A → Type 0 where
  here : {ys : List A} → Inserted x ys (x ∷ ys)
  after : {y : A} {ys zs : List A} → Inserted x ys zs → Inserted x (y ∷ ys) (y ∷ zs)

-- an element of a list can be taken out
pub taken_out : {A : Type 0} {x : A} (zs : List A) → Memᴰ x zs → (ys : List A) × Inserted x ys zs
taken_out [] m = absurd (Memᴰ.not-nil m)
taken_out (z ∷ zs) (Memᴰ.head e) = (zs, rw e here)
taken_out (z ∷ zs) (Memᴰ.tail m) = let r = taken_out zs m in (z ∷ r.0, after r.1)

-- what is put in is in the list
pub inserted_in : {A : Type 0} {x : A} {ys zs : List A} → Inserted x ys zs → Memᴰ x zs
inserted_in here = Memᴰ.head refl
inserted_in (after i) = Memᴰ.tail (inserted_in i)

-- as are the others
pub inserted_other : {A : Type 0} {x : A} {ys zs : List A} → Inserted x ys zs → (y : A) → Memᴰ y ys → Memᴰ y zs
inserted_other here y m = Memᴰ.tail m
inserted_other (after i) y (Memᴰ.head e) = Memᴰ.head e
inserted_other (after i) y (Memᴰ.tail m) = Memᴰ.tail (inserted_other i y m)

-- and nothing else
pub inserted_from : {A : Type 0} {x : A} {ys zs : List A} → Inserted x ys zs → (y : A) → Memᴰ y zs → (y ≡ x) ⊎ Memᴰ y ys
inserted_from here y (Memᴰ.head e) = inl e
inserted_from here y (Memᴰ.tail m) = inr m
inserted_from (after i) y (Memᴰ.head e) = inr (Memᴰ.head e)
inserted_from {A} {x} (after {y = w} {ys = ys} i) y (Memᴰ.tail m) = go (inserted_from i y m)
  where
    go : (y ≡ x) ⊎ Memᴰ y ys → (y ≡ x) ⊎ Memᴰ y (w ∷ ys)
    go (inl e) = inl e
    go (inr n) = inr (Memᴰ.tail n)

-- a list without repeats has none when an element is taken out, and that element is gone
pub inserted_apart : {A : Type 0} {x : A} {ys zs : List A} → Inserted x ys zs → Distinct zs → Distinct ys × (Memᴰ x ys → ⊥)
inserted_apart {x = x} here (before b r) = (r, λ m. b x m refl)
inserted_apart {A} {x} (after {y = y} {ys = ys} i) (before b r) =
    let s = inserted_apart i r in
    (before (λ z m. b z (inserted_other i z m)) s.0, gone s.1)
  where
    gone : (Memᴰ x ys → ⊥) → Memᴰ x (y ∷ ys) → ⊥
    gone n (Memᴰ.head e) = b x (inserted_in i) (sym e)
    gone n (Memᴰ.tail m) = n m

-- and the other way round
pub inserted_distinct : {A : Type 0} {x : A} {ys zs : List A} → Inserted x ys zs → Distinct ys → (Memᴰ x ys → ⊥) → Distinct zs
inserted_distinct {x = x} here r n = before (λ y m e. n (Memᴰ.cast e m)) r
inserted_distinct {A} {x} (after {y = y} {ys = ys} {zs = zs} i) (before b r) n =
    before (λ z m. other z (inserted_from i z m)) (inserted_distinct i r (λ m. n (Memᴰ.tail m)))
  where
    other : (z : A) → (z ≡ x) ⊎ Memᴰ z ys → y ≡ z → ⊥
    other z (inl e) q = n (Memᴰ.head (sym (q ∙ e)))
    other z (inr m) q = b z m q

-- an element that is taken out of two lists with the same elements, where it stands once, leaves the same elements
pub rest_same : {A : Type 0} {x : A} {ys zs xs : List A} → Inserted x ys zs → (Memᴰ x ys → ⊥) → (Memᴰ x xs → ⊥) →
    ((y : A) → Memᴰ y (x ∷ xs) ↔ Memᴰ y zs) → (y : A) → Memᴰ y xs ↔ Memᴰ y ys
rest_same {A} {x} {ys} {zs} {xs} i n k h y =
    ((λ m. there m (inserted_from i y ((h y).0 (Memᴰ.tail m)))), (λ m. back m ((h y).1 (inserted_other i y m))))
  where
    there : Memᴰ y xs → (y ≡ x) ⊎ Memᴰ y ys → Memᴰ y ys
    there m (inl e) = absurd (k (Memᴰ.cast (sym e) m))
    there m (inr q) = q

    back : Memᴰ y ys → Memᴰ y (x ∷ xs) → Memᴰ y xs
    back m (Memᴰ.head e) = absurd (n (Memᴰ.cast (sym e) m))
    back m (Memᴰ.tail q) = q

-- A list without every a.
unfoldable pub removed : ℕ → List ℕ → List ℕ
removed a [] = []
removed a (b ∷ xs) = cond (eqb b a) (removed a xs) (b ∷ removed a xs)

-- where there is none, none is taken out
pub removed_none : (a : ℕ) (xs : List ℕ) → (Memᴰ a xs → ⊥) → removed a xs ≡ xs
unfolding removed
removed_none a [] n = refl
removed_none a (b ∷ xs) n =
    rw (ne_eqb b a (λ e. n (Memᴰ.head (sym e))), removed_none a xs (λ m. n (Memᴰ.tail m)))

-- one that is put in is taken out again
pub removed_inserted : {a : ℕ} {xs ys : List ℕ} → Inserted a xs ys → (Memᴰ a xs → ⊥) → removed a ys ≡ xs
unfolding removed
removed_inserted {a} (here {ys = xs}) n = rw (eq-eqb a a refl) (removed_none a xs n)
removed_inserted {a} (after {y = b} i) n =
    rw (ne_eqb b a (λ e. n (Memᴰ.head (sym e))), removed_inserted i (λ m. n (Memᴰ.tail m)))
