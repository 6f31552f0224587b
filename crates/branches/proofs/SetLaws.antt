-- Sets of right terms as numbers, bit by bit: one term more, the empty set, the whole set, and the sets that go with marks.
-- By induction on the place of a bit, halving the set at each step. Assumes nothing.
use Prim.Native.Nat.{ℕ, zero, suc, ◌+◌, ◌/◌, ◌%◌, ◌^◌, ◌≤◌, ◌<◌}
use mathlib.Core.Bool.{Bool, true, false, not, false≢true}
use mathlib.Core.List.{List}
use mathlib.Core.Path.{◌≡◌, refl, sym, ap, ◌∙◌}
use native.Mathlib.Decide.{ℕ_discrete}
use native.Mathlib.Nat.{pow-suc}
use native.Mathlib.Omega.{arith}
use borrow.Author.Tests.{eqb-true, eqb-false, eq-eqb, ne_eqb, not-true, not-false}
use lib.Dec.{eqb}
use lib.ListN.{length, replicate, set, length-set, length-replicate, get_or-replicate}
use lib.Pow.{shr-shr, pow_pos}
use lib.Seq.{get_or-set_same, get_or-set_other}
use Rattle.table.specs.Layout.{word}
use Rattle.table.specs.Some.{some_below}
use Rattle.table.proofs.SomeLaws.{some_means, none_some}
use Rattle.branches.specs.Code.Ahead.{has, PairedSet}

-- the first bit of a set tells whether its number is odd
pub has_first : (s : ℕ) → has s 0 ≡ eqb (s % 2) 1
unfolding has
has_first s =
    let e : s / 2 ^ 0 ≡ s = omega arith in
    rw e

-- a later bit is one of half the set
pub has_later : (s j : ℕ) → has s (suc j) ≡ has (s / 2) j
unfolding has
has_later s j =
    let p : 1 + j ≡ suc j = omega arith in
    let e : s / 2 ^ suc j ≡ s / 2 / 2 ^ j = ap (λ (x : ℕ). s / 2 ^ x) (sym p) ∙ sym (shr-shr s 1 j) in
    ap (λ (x : ℕ). eqb (x % 2) 1) e

-- a set whose first bit is 0 is an even number
first_even : (s : ℕ) → has s 0 ≡ false → s % 2 ≡ 0
first_even s h =
    let n = eqb-false (s % 2) 1 (sym (has_first s) ∙ h) in
    omega (arith, n)

-- and otherwise an odd one
first_odd : (s : ℕ) → has s 0 ≡ true → s % 2 ≡ 1
first_odd s h = eqb-true (s % 2) 1 (sym (has_first s) ∙ h)

-- half of a set with one term more is half of it with one more
half_more : (s j : ℕ) → (s + 2 ^ suc j) / 2 ≡ s / 2 + 2 ^ j
half_more s j =
    let e = pow-suc 2 j in
    omega (arith, e)

-- a term that is put in is in the set
pub has_added : (s j : ℕ) → has s j ≡ false → has (s + 2 ^ j) j ≡ true
has_added s zero h =
    let e = first_even s h in
    has_first (s + 1) ∙ eq-eqb ((s + 1) % 2) 1 (omega (arith, e))
has_added s (suc j) h =
    has_later (s + 2 ^ suc j) j ∙ ap (λ (x : ℕ). has x j) (half_more s j) ∙ has_added (s / 2) j (sym (has_later s j) ∙ h)

-- the others are in it or not as before
pub has_other : (s j k : ℕ) → has s j ≡ false → (k ≡ j → ⊥) → has (s + 2 ^ j) k ≡ has s k
has_other s zero zero h n = absurd (n refl)
has_other s zero (suc k) h n =
    let e = first_even s h in
    let d : (s + 1) / 2 ≡ s / 2 = omega (arith, e) in
    has_later (s + 1) k ∙ ap (λ (x : ℕ). has x k) d ∙ sym (has_later s k)
has_other s (suc j) zero h n =
    let e = pow-suc 2 j in
    let d : (s + 2 ^ suc j) % 2 ≡ s % 2 = omega (arith, e) in
    has_first (s + 2 ^ suc j) ∙ ap (λ (x : ℕ). eqb x 1) d ∙ sym (has_first s)
has_other s (suc j) (suc k) h n =
    has_later (s + 2 ^ suc j) k ∙ ap (λ (x : ℕ). has x k) (half_more s j)
    ∙ has_other (s / 2) j k (sym (has_later s j) ∙ h) (λ e. n (ap suc e))
    ∙ sym (has_later s k)

-- a set of m terms with one of them more is one of m terms
pub added_within : (m s j : ℕ) → s < 2 ^ m → j < m → has s j ≡ false → s + 2 ^ j < 2 ^ m
added_within zero s j p q h = absurd (omega arith)
added_within (suc m) s zero p q h =
    let e = first_even s h in
    let d = pow-suc 2 m in
    omega (arith, p, e, d)
added_within (suc m) s (suc j) p q h =
    let d = pow-suc 2 m in
    let e = pow-suc 2 j in
    let r = added_within m (s / 2) j (omega (arith, p, d)) (omega arith) (sym (has_later s j) ∙ h) in
    omega (arith, d, e, r)

-- no term is in the empty set
pub has_none : (j : ℕ) → has 0 j ≡ false
has_none zero = has_first 0
has_none (suc j) = has_later 0 j ∙ has_none j

-- a set of j terms has no term from j on
pub has_above : (j s k : ℕ) → s < 2 ^ j → j ≤ k → has s k ≡ false
has_above zero s k p q =
    let e : s ≡ 0 = omega arith in
    ap (λ (x : ℕ). has x k) e ∙ has_none k
has_above (suc j) s zero p q = absurd (omega arith)
has_above (suc j) s (suc k) p q =
    let d = pow-suc 2 j in
    has_later s k ∙ has_above j (s / 2) k (omega (arith, p, d)) (omega arith)

-- every term is in the whole set
pub has_every : (m s j : ℕ) → s + 1 ≡ 2 ^ m → j < m → has s j ≡ true
has_every zero s j e q = absurd (omega arith)
has_every (suc m) s zero e q =
    let d = pow-suc 2 m in
    has_first s ∙ eq-eqb (s % 2) 1 (omega (arith, e, d))
has_every (suc m) s (suc j) e q =
    let d = pow-suc 2 m in
    has_later s j ∙ has_every m (s / 2) j (omega (arith, e, d)) (omega arith)

-- a set that has every term is the whole set
pub every_has_all : (m s : ℕ) → s < 2 ^ m → ((j : ℕ) → j < m → has s j ≡ true) → s + 1 ≡ 2 ^ m
every_has_all zero s p f = omega arith
every_has_all (suc m) s p f =
    let d = pow-suc 2 m in
    let o = first_odd s (f 0 (omega arith)) in
    let r = every_has_all m (s / 2) (omega (arith, p, d)) (λ j q. sym (has_later s j) ∙ f (suc j) (omega arith)) in
    omega (arith, d, o, r)

-- at first no right term is paired
pub paired_first : (m : ℕ) → PairedSet (replicate m 1) 0
paired_first m =
    record {
      within = pow_pos (length (replicate m 1));
      paired = λ j h. has_none j ∙ sym
          (ap (λ (z : ℕ). eqb z 0) (get_or-replicate m j 1 0 (let l = length-replicate {A = ℕ} m 1 in omega (arith, h, l))));
    }

-- a right term that is unpaired is not in the set
pub unpaired_not : (marks : List ℕ) (s j : ℕ) → PairedSet marks s → j < length marks → (word marks j ≡ 0 → ⊥) → has s j ≡ false
unpaired_not marks s j p h n = p.paired j h ∙ ne_eqb (word marks j) 0 n

-- one that is paired is
pub paired_has : (marks : List ℕ) (s j : ℕ) → PairedSet marks s → j < length marks → word marks j ≡ 0 → has s j ≡ true
paired_has marks s j p h e = p.paired j h ∙ eq-eqb (word marks j) 0 e

-- to pair a right term puts it into the set
pub paired_more : (marks : List ℕ) (s j : ℕ) → PairedSet marks s → j < length marks → (word marks j ≡ 0 → ⊥) → PairedSet (set marks j 0) (s + 2 ^ j)
paired_more marks s j p h n =
    let l = length-set marks j 0 in
    record {
      within = rw l (added_within (length marks) s j p.within h (unpaired_not marks s j p h n));
      paired = λ k q. go k (omega (arith, q, l)) (ℕ_discrete k j);
    }
  where
    go : (k : ℕ) → k < length marks → Dec (k ≡ j) → has (s + 2 ^ j) k ≡ eqb (word (set marks j 0) k) 0
    go k q (yes e) = rw e (has_added s j (unpaired_not marks s j p h n) ∙ sym (ap (λ (z : ℕ). eqb z 0) (get_or-set_same marks j 0 0 h)))
    go k q (no e) =
        has_other s j k (unpaired_not marks s j p h n) e ∙ p.paired k q
        ∙ sym (ap (λ (z : ℕ). eqb z 0) (get_or-set_other marks j k 0 0 e))

-- where the set is whole, every right term is paired
pub paired_whole : (marks : List ℕ) (s : ℕ) → PairedSet marks s → s + 1 ≡ 2 ^ length marks → (j : ℕ) → j < length marks → word marks j ≡ 0
paired_whole marks s p e j h = eqb-true (word marks j) 0 (sym (p.paired j h) ∙ has_every (length marks) s j e h)

-- otherwise some right term is unpaired
pub paired_some : (marks : List ℕ) (s : ℕ) → PairedSet marks s → (s + 1 ≡ 2 ^ length marks → ⊥) →
    (j : ℕ) × (j < length marks) × (word marks j ≡ 0 → ⊥)
paired_some marks s p n = pick (some_below (length marks) lacks) refl
  where
    lacks : ℕ → Bool
    lacks j = not (has s j)

    pick : (b : Bool) → some_below (length marks) lacks ≡ b → (j : ℕ) × (j < length marks) × (word marks j ≡ 0 → ⊥)
    pick true e =
        let r = (some_means lacks (length marks)).0 e in
        (r.0, r.1, λ z. false≢true (sym (not-true _ r.2) ∙ paired_has marks s r.0 p r.1 z))
    pick false e = absurd (n (every_has_all (length marks) s p.within (λ j h. not-false _ (none_some lacks (length marks) e j h))))
