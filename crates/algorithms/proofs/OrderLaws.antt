-- Lists in another order: what stays. Lists without repeats are such exactly if they have the same elements.
-- An element is taken out of both lists, and what remains has the same elements. Assumes nothing.
use Prim.Native.Nat.{suc}
use mathlib.Core.List.Memᴰ
use mathlib.Core.List.{List, [], ◌∷◌, ◌++◌, flat_map, Memᴰ}
use mathlib.Core.List.{Permᴰ}
use mathlib.Core.Logic.{◌↔◌}
use mathlib.Core.Path.{◌≡◌, refl, ap, ◌∙◌}
use lib.ListN.{length}
use Rattle.unification.specs.Words.{before}
use Rattle.algorithms.specs.Code.Placing.{Distinct}
use Rattle.algorithms.proofs.InsertedLaws.{Inserted, here, after, taken_out, inserted_apart, rest_same}

-- what is put in can as well come first
inserted_permuted : {A : Type 0} {x : A} {ys zs : List A} → Inserted x ys zs → Permᴰ (x ∷ ys) zs
inserted_permuted (here {ys = ys}) = mathlib.Core.List.Permᴰ.refl (_ ∷ ys)
inserted_permuted (after i) = mathlib.Core.List.Permᴰ.trans (mathlib.Core.List.Permᴰ.swap refl refl)
    (mathlib.Core.List.Permᴰ.cons refl (inserted_permuted i))

-- lists without repeats that have the same elements are one list in two orders
pub distinct_permuted : {A : Type 0} (xs ys : List A) → Distinct xs → Distinct ys → ((x : A) → Memᴰ x xs ↔ Memᴰ x ys) → Permᴰ xs ys
distinct_permuted [] [] r s h = mathlib.Core.List.Permᴰ.nil
distinct_permuted [] (y ∷ ys) r s h = absurd (Memᴰ.not-nil ((h y).1 (Memᴰ.head refl)))
distinct_permuted {A} (x ∷ xs) ys (before b r) s h = go (taken_out ys ((h x).0 (Memᴰ.head refl))) (λ zs t k. distinct_permuted xs zs r t k)
  where
    go : (zs : List A) × Inserted x zs ys → ((zs : List A) → Distinct zs → ((y : A) → Memᴰ y xs ↔ Memᴰ y zs) → Permᴰ xs zs) → Permᴰ (x ∷ xs) ys
    go (zs, i) rest =
        let a = inserted_apart i s in
        let p : Permᴰ xs zs = rest zs a.0 (rest_same i a.1 (λ m. b x m refl) h) in
        mathlib.Core.List.Permᴰ.trans (mathlib.Core.List.Permᴰ.cons refl p) (inserted_permuted i)

-- and have one length
pub permuted_long : {A : Type 0} {xs ys : List A} → Permᴰ xs ys → length xs ≡ length ys
permuted_long mathlib.Core.List.Permᴰ.nil = refl
permuted_long (mathlib.Core.List.Permᴰ.cons e p) = ap suc (permuted_long p)
permuted_long (mathlib.Core.List.Permᴰ.swap e f) = refl
permuted_long (mathlib.Core.List.Permᴰ.trans p q) = permuted_long p ∙ permuted_long q

-- an order changes nothing about what is in a list
pub permuted_member : {A : Type 0} {xs ys : List A} → Permᴰ xs ys → (x : A) → Memᴰ x xs → Memᴰ x ys
permuted_member mathlib.Core.List.Permᴰ.nil x m = m
permuted_member (mathlib.Core.List.Permᴰ.cons e p) x (Memᴰ.head q) = Memᴰ.head (q ∙ e)
permuted_member (mathlib.Core.List.Permᴰ.cons e p) x (Memᴰ.tail m) = Memᴰ.tail (permuted_member p x m)
permuted_member (mathlib.Core.List.Permᴰ.swap e f) x (Memᴰ.head q) = Memᴰ.tail (Memᴰ.head (q ∙ e))
permuted_member (mathlib.Core.List.Permᴰ.swap e f) x (Memᴰ.tail (Memᴰ.head q)) = Memᴰ.head (q ∙ f)
permuted_member (mathlib.Core.List.Permᴰ.swap e f) x (Memᴰ.tail (Memᴰ.tail m)) = Memᴰ.tail (Memᴰ.tail m)
permuted_member (mathlib.Core.List.Permᴰ.trans p q) x m = permuted_member q x (permuted_member p x m)

-- two lists before a third can change places
changed_places : {A : Type 0} (xs ys zs : List A) → Permᴰ (xs ++ (ys ++ zs)) (ys ++ (xs ++ zs))
changed_places [] ys zs = mathlib.Core.List.Permᴰ.refl (ys ++ zs)
changed_places (x ∷ xs) ys zs = mathlib.Core.List.Permᴰ.trans (mathlib.Core.List.Permᴰ.cons refl (changed_places xs ys zs))
    (mathlib.Core.List.Permᴰ.symm (mathlib.Core.List.Permᴰ.middle x ys (xs ++ zs)))

-- nor about what is made of its elements
pub permuted_flat : {A B : Type 0} (f : A → List B) {xs ys : List A} → Permᴰ xs ys → Permᴰ (flat_map f xs) (flat_map f ys)
unfolding flat_map
permuted_flat f mathlib.Core.List.Permᴰ.nil = mathlib.Core.List.Permᴰ.nil
permuted_flat f (mathlib.Core.List.Permᴰ.cons {b = b} e p) = rw e (mathlib.Core.List.Permᴰ.append_left (f b) (permuted_flat f p))
permuted_flat f (mathlib.Core.List.Permᴰ.swap {a = a} {b = b} {l = l} e g) = rw (← e, ← g) (changed_places (f a) (f b) (flat_map f l))
permuted_flat f (mathlib.Core.List.Permᴰ.trans p q) = mathlib.Core.List.Permᴰ.trans (permuted_flat f p) (permuted_flat f q)
