-- The permutations of a list without repeats: which lists they are, and that each stands once.
-- By induction on the list: its first element is put in at each place, and taken out again. Assumes nothing.
use Prim.Native.Nat.{ℕ}
use mathlib.Core.List.Memᴰ
use mathlib.Core.List.{List, [], ◌∷◌, flat_map, head-eq_of_cons-eq, tail-eq_of_cons-eq, Memᴰ}
use mathlib.Core.Logic.{◌⊎◌, inl, inr, ◌↔◌}
use mathlib.Core.Path.{◌≡◌, refl, sym, ap, ◌∙◌}
use Rattle.unification.specs.Words.{end, before}
use Rattle.unification.proofs.FlatLaws.{in_flat}
use Rattle.unification.proofs.RisingLaws.{rising_flat}
use Rattle.algorithms.specs.Algorithms.{at_each, permutations}
use Rattle.algorithms.specs.Code.Placing.{Distinct, SameMembers}
use Rattle.algorithms.proofs.DistinctLaws.{map_distinct}
use Rattle.algorithms.proofs.InsertedLaws.{Inserted, here, after, taken_out, inserted_in, inserted_other, inserted_from, inserted_apart, inserted_distinct, rest_same, removed, removed_inserted}

in_at_each : {a : ℕ} {Q P : List ℕ} → Inserted a Q P → Memᴰ P (at_each a Q)
unfolding at_each
in_at_each (here {ys = []}) = Memᴰ.head refl
in_at_each (here {ys = b ∷ Q}) = Memᴰ.head refl
in_at_each (after {y = b} i) = Memᴰ.tail (Memᴰ.map (b ∷◌) (in_at_each i))

at_each_from : (a : ℕ) (Q P : List ℕ) → Memᴰ P (at_each a Q) → Inserted a Q P
unfolding at_each
at_each_from a [] P m = rw (Memᴰ.eq_of_singleton m) here
at_each_from a (b ∷ Q) P (Memᴰ.head e) = rw e here
at_each_from a (b ∷ Q) P (Memᴰ.tail m) = go (Memᴰ.of_map (b ∷◌) (at_each a Q) m) (λ R n. at_each_from a Q R n)
  where
    go : (R : List ℕ) × Memᴰ R (at_each a Q) × (b ∷ R ≡ P) → ((R : List ℕ) → Memᴰ R (at_each a Q) → Inserted a Q R) → Inserted a (b ∷ Q) P
    go (R, n, e) r = rw (← e) (after (r R n))

-- a list that has the elements of another, and one more that is put in
same_with : {a : ℕ} {Q P S : List ℕ} → Inserted a Q P → SameMembers Q S → SameMembers P (a ∷ S)
same_with {a} {Q} {P} {S} i h x = ((λ m. there (inserted_from i x m)), back)
  where
    there : (x ≡ a) ⊎ Memᴰ x Q → Memᴰ x (a ∷ S)
    there (inl e) = Memᴰ.head e
    there (inr m) = Memᴰ.tail ((h x).0 m)

    back : Memᴰ x (a ∷ S) → Memᴰ x P
    back (Memᴰ.head e) = Memᴰ.cast e (inserted_in i)
    back (Memᴰ.tail m) = inserted_other i x ((h x).1 m)

-- no element, no list
same_none : (P : List ℕ) → SameMembers P [] → P ≡ []
same_none [] h = refl
same_none (x ∷ P) h = absurd (Memᴰ.not-nil ((h x).0 (Memᴰ.head refl)))

-- the permutations of a list without repeats are the lists without repeats that have its elements
pub permutations_are : (S : List ℕ) → Distinct S → (P : List ℕ) → Memᴰ P (permutations S) ↔ (Distinct P × SameMembers P S)
unfolding permutations
permutations_are [] d P = ((λ m. rw (Memᴰ.eq_of_singleton m) (end, λ x. (λ n. n, λ n. n))), (λ s. Memᴰ.head (same_none P s.1)))
permutations_are (a ∷ S) (before b d) P = (
  (λ m. there ((in_flat (at_each a) (permutations S) P).0 m) (permutations_are S d)),
  (λ s. back s (taken_out P ((s.1 a).1 (Memᴰ.head refl))) (permutations_are S d)),
)
  where
    Are : Type 0
    Are = (Q : List ℕ) → Memᴰ Q (permutations S) ↔ (Distinct Q × SameMembers Q S)

    there : (Q : List ℕ) × Memᴰ Q (permutations S) × Memᴰ P (at_each a Q) → Are → Distinct P × SameMembers P (a ∷ S)
    there (Q, m, n) r =
        let s = (r Q).0 m in
        let i = at_each_from a Q P n in
        (inserted_distinct i s.0 (λ k. b a ((s.1 a).0 k) refl), same_with i s.1)

    back : Distinct P × SameMembers P (a ∷ S) → (Q : List ℕ) × Inserted a Q P → Are → Memᴰ P (flat_map (at_each a) (permutations S))
    back s (Q, i) r =
        let k = inserted_apart i s.0 in
        let t : SameMembers S Q = rest_same i k.1 (λ n. b a n refl) (λ x. ((s.1 x).1, (s.1 x).0)) in
        (in_flat (at_each a) (permutations S) P).1 (Q, (r Q).1 (k.0, λ x. ((t x).1, (t x).0)), in_at_each i)

at_each_distinct : (a : ℕ) (Q : List ℕ) → (Memᴰ a Q → ⊥) → Distinct (at_each a Q)
unfolding at_each
at_each_distinct a [] n = before (λ P m. absurd (Memᴰ.not-nil m)) end
at_each_distinct a (b ∷ Q) n =
    before (λ P m. other P (Memᴰ.of_map (b ∷◌) (at_each a Q) m))
    (map_distinct (b ∷◌) (at_each a Q) (λ x y m k e. tail-eq_of_cons-eq e) (at_each_distinct a Q (λ m. n (Memᴰ.tail m))))
  where
    other : (P : List ℕ) → (R : List ℕ) × Memᴰ R (at_each a Q) × (b ∷ R ≡ P) → a ∷ b ∷ Q ≡ P → ⊥
    other P (R, m, e) q = n (Memᴰ.head (head-eq_of_cons-eq (q ∙ sym e)))

-- each stands once
pub permutations_distinct : (S : List ℕ) → Distinct S → Distinct (permutations S)
unfolding permutations
permutations_distinct [] d = before (λ P m. absurd (Memᴰ.not-nil m)) end
permutations_distinct (a ∷ S) (before b d) =
    rising_flat (λ P Q. P ≡ Q → ⊥) (λ P Q. P ≡ Q → ⊥) (at_each a) (permutations S) (permutations_distinct S d)
    (λ Q m. at_each_distinct a Q (new Q m))
    (λ Q R m n k P O p o e. k (sym (out Q m P p) ∙ ap (removed a) e ∙ out R n O o))
  where
    new : (Q : List ℕ) → Memᴰ Q (permutations S) → Memᴰ a Q → ⊥
    new Q m n = b a ((((permutations_are S d Q).0 m).1 a).0 n) refl

    out : (Q : List ℕ) → Memᴰ Q (permutations S) → (P : List ℕ) → Memᴰ P (at_each a Q) → removed a P ≡ Q
    out Q m P n = removed_inserted (at_each_from a Q P n) (new Q m)
