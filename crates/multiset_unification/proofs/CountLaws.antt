-- How often a term occurs in lists that stand at places: the sum of how often it occurs in each.
-- By induction on the number of places. Assumes nothing.
use Prim.Native.Nat.{ℕ, zero, suc, ◌+◌, ◌<◌}
use mathlib.Core.List.{List, [], ◌∷◌, ◌++◌, flatten, flat_map}
use mathlib.Core.Path.{◌≡◌, refl}
use native.Mathlib.Decide.{dec_lt}
use native.Mathlib.Omega.{arith}
use lib.ListN.{length}
use Rattle.table.specs.Layout.{word}
use Rattle.terms.specs.Term.{Term}
use Rattle.terms.specs.Multiset.{occurrences}
use Rattle.terms.proofs.MultisetLaws.{occurrences_append}
use Rattle.unification.specs.Node.{tabulate}

-- The sum of a number for each place below k.
unfoldable pub total : ℕ → (ℕ → ℕ) → ℕ
total zero n = 0
total (suc k) n = total k n + n k

flatten_counts : (t : Term) (us vs : List (List Term)) → occurrences t (flatten (us ++ vs)) ≡ occurrences t (flatten us) + occurrences t (flatten vs)
unfolding flatten occurrences
flatten_counts t [] vs = omega arith
flatten_counts t (u ∷ us) vs =
    let a = occurrences_append t u (flatten (us ++ vs)) in
    let b = occurrences_append t u (flatten us) in
    let r = flatten_counts t us vs in
    omega (arith, a, b, r)

-- a term occurs in the lists of all places together as often as in each, added up
pub places_count : (t : Term) (k : ℕ) (f : ℕ → List Term) → occurrences t (flatten (tabulate k f)) ≡ total k (λ p. occurrences t (f p))
unfolding flatten occurrences tabulate total
places_count t zero f = refl
places_count t (suc k) f =
    let a = flatten_counts t (tabulate k f) (f k ∷ []) in
    let b = occurrences_append t (f k) [] in
    let r = places_count t k f in
    omega (arith, a, b, r)

-- sums of equal numbers are equal
pub total_same : (k : ℕ) (f g : ℕ → ℕ) → ((p : ℕ) → p < k → f p ≡ g p) → total k f ≡ total k g
unfolding total
total_same zero f g h = refl
total_same (suc k) f g h =
    let r = total_same k f g (λ p q. h p (omega arith)) in
    let e = h k (omega arith) in
    omega (arith, r, e)

-- a sum of noughts is 0
pub total_none : (k : ℕ) (f : ℕ → ℕ) → ((p : ℕ) → p < k → f p ≡ 0) → total k f ≡ 0
unfolding total
total_none zero f h = refl
total_none (suc k) f h =
    let r = total_none k f (λ p q. h p (omega arith)) in
    let e = h k (omega arith) in
    omega (arith, r, e)

-- a sum of sums is the sum of the two
pub total_add : (k : ℕ) (f g h : ℕ → ℕ) → ((p : ℕ) → p < k → f p ≡ g p + h p) → total k f ≡ total k g + total k h
unfolding total
total_add zero f g h s = refl
total_add (suc k) f g h s =
    let r = total_add k f g h (λ p q. s p (omega arith)) in
    let e = s k (omega arith) in
    omega (arith, r, e)

-- the first place apart from the others
total_first : (k : ℕ) (f : ℕ → ℕ) → total (suc k) f ≡ f 0 + total k (λ p. f (suc p))
unfolding total
total_first zero f = omega arith
total_first (suc k) f = let r = total_first k f in omega (arith, r)

-- the same of the lists that a function gives to the words of a list
pub words_count : (t : Term) (f : ℕ → List Term) (xs : List ℕ) →
    occurrences t (flat_map f xs) ≡ total (length xs) (λ p. occurrences t (f (word xs p)))
unfolding flat_map occurrences total
words_count t f [] = refl
words_count t f (x ∷ xs) =
    let a = occurrences_append t (f x) (flat_map f xs) in
    let r = words_count t f xs in
    let s = total_first (length xs) (λ p. occurrences t (f (word (x ∷ xs) p))) in
    omega (arith, a, r, s)

-- where c is added at one place, the sum has c more
pub total_one : (k : ℕ) (f g : ℕ → ℕ) (c p : ℕ) → p < k → f p ≡ c + g p → ((q : ℕ) → q < k → (q ≡ p → ⊥) → f q ≡ g q) → total k f ≡ c + total k g
unfolding total
total_one zero f g c p h e s = absurd (omega arith)
total_one (suc k) f g c p h e s = go (dec_lt p k) (λ q. total_one k f g c p q e (λ i j. s i (omega arith)))
  where
    go : Dec (p < k) → (p < k → total k f ≡ c + total k g) → total (suc k) f ≡ c + total (suc k) g
    go (yes q) r =
        let a = r q in
        let b = s k (omega arith) (λ x. absurd (omega arith)) in
        omega (arith, a, b)
    go (no q) r =
        let x : p ≡ k = omega arith in
        let a = total_same k f g (λ i j. s i (omega arith) (λ y. absurd (omega arith))) in
        let b : f k ≡ c + g k = rw x at e in
        omega (arith, a, b)

-- How often a term occurs in the multisets of labels together.
abbrev pub in_labels : (ℕ → List Term) → Term → List ℕ → ℕ
in_labels labels t ks = total (length ks) (λ p. occurrences t (labels (word ks p)))
