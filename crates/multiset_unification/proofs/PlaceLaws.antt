-- What digits pair, and what they put where, by places: a digit speaks of the term at its own place, and of the right term or the label
-- that it counts to.
-- By induction on the terms. Assumes nothing.
use Prim.Native.Nat.{ℕ, zero, suc, ◌-◌, ◌<◌}
use mathlib.Core.Bool.{Bool, true, false, cond}
use mathlib.Core.List.Memᴰ
use mathlib.Core.List.{List, [], ◌∷◌, Memᴰ}
use mathlib.Core.Logic.{◌↔◌}
use mathlib.Core.Path.{◌≡◌, refl, ap}
use native.Mathlib.Omega.{arith}
use borrow.Author.Tests.{eq-eqb, eqb-true, le-leb, leb-true}
use lib.Dec.{eqb, leb}
use lib.ListN.{length}
use Rattle.table.specs.Layout.{word}
use Rattle.multiset_unification.specs.Choice.{pairs, with_digit}

-- The term at some place that has digit d.
abbrev At : ℕ → List ℕ → List ℕ → ℕ → Type 0
At d ts ds a = (i : ℕ) × (i < length ts) × (word ds i ≡ d) × (a ≡ word ts i)

with_from : (d : ℕ) (ts ds : List ℕ) (a : ℕ) → Memᴰ a (with_digit d ts ds) → At d ts ds a
unfolding with_digit
with_from d [] ds a m = absurd (Memᴰ.not-nil m)
with_from d (t ∷ ts) [] a m = absurd (Memᴰ.not-nil m)
with_from d (t ∷ ts) (e ∷ ds) a m = pick (eqb e d) refl m (λ n. further (with_from d ts ds a n))
  where
    further : At d ts ds a → At d (t ∷ ts) (e ∷ ds) a
    further (i, h, p, q) = (suc i, omega arith, p, q)

    pick : (b : Bool) → eqb e d ≡ b → Memᴰ a (cond b (t ∷ with_digit d ts ds) (with_digit d ts ds)) →
        (Memᴰ a (with_digit d ts ds) → At d (t ∷ ts) (e ∷ ds) a) → At d (t ∷ ts) (e ∷ ds) a
    pick true z (Memᴰ.head q) r = (0, omega arith, eqb-true e d z, q)
    pick true z (Memᴰ.tail n) r = r n
    pick false z n r = r n

in_with : (d : ℕ) (ts ds : List ℕ) (i : ℕ) → 0 < d → i < length ts → word ds i ≡ d → Memᴰ (word ts i) (with_digit d ts ds)
unfolding with_digit
in_with d [] ds i z h e = absurd (omega arith)
in_with d (t ∷ ts) [] i z h e = absurd (omega (arith, e))
in_with d (t ∷ ts) (b ∷ ds) zero z h e = rw (eq-eqb b d e) (Memᴰ.head refl)
in_with d (t ∷ ts) (b ∷ ds) (suc i) z h e = pick (eqb b d) (in_with d ts ds i z (omega arith) e)
  where
    pick : (c : Bool) → Memᴰ (word ts i) (with_digit d ts ds) → Memᴰ (word ts i) (cond c (t ∷ with_digit d ts ds) (with_digit d ts ds))
    pick true m = Memᴰ.tail m
    pick false m = m

-- the terms with a digit above 0 are those at the places that have it
pub with_digit_means : (d : ℕ) → 0 < d → (ts ds : List ℕ) (a : ℕ) → Memᴰ a (with_digit d ts ds) ↔
    ((i : ℕ) × (i < length ts) × (word ds i ≡ d) × (a ≡ word ts i))
with_digit_means d z ts ds a = (with_from d ts ds a, λ s. rw s.3 (in_with d ts ds s.0 z s.1 s.2))

-- A left term, and the right term that its digit counts to.
abbrev Paired : List ℕ → List ℕ → List ℕ → ℕ → ℕ → Type 0
Paired ls rs ds a b = (i : ℕ) × (j : ℕ) × (i < length ls) × (j < length rs) × (word ds i ≡ suc j) × (a ≡ word ls i) × (b ≡ word rs j)

pairs_from : (ls rs ds : List ℕ) → ((i : ℕ) → i < length ls → 0 < word ds i) → (a b : ℕ) → Memᴰ (a, b) (pairs ls rs ds) → Paired ls rs ds a b
unfolding pairs
pairs_from [] rs ds h a b m = absurd (Memᴰ.not-nil m)
pairs_from (c ∷ ls) rs [] h a b m = absurd (Memᴰ.not-nil m)
pairs_from (c ∷ ls) rs (d ∷ ds) h a b m =
    pick (leb d (length rs)) refl m (λ n. further (pairs_from ls rs ds (λ i q. h (suc i) (omega arith)) a b n))
  where
    further : Paired ls rs ds a b → Paired (c ∷ ls) rs (d ∷ ds) a b
    further (i, j, p, q, w, e, f) = (suc i, j, omega arith, q, w, e, f)

    pick : (x : Bool) → leb d (length rs) ≡ x → Memᴰ (a, b) (cond x ((c, word rs (d - 1)) ∷ pairs ls rs ds) (pairs ls rs ds)) →
        (Memᴰ (a, b) (pairs ls rs ds) → Paired (c ∷ ls) rs (d ∷ ds) a b) → Paired (c ∷ ls) rs (d ∷ ds) a b
    pick true e (Memᴰ.head q) r =
        let k = leb-true d (length rs) e in
        let z : 0 < d = h 0 (omega arith) in
        (0, d - 1, omega arith, omega (arith, k, z), omega (arith, z), ap (λ (p : ℕ × ℕ). p.0) q, ap (λ (p : ℕ × ℕ). p.1) q)
    pick true e (Memᴰ.tail n) r = r n
    pick false e n r = r n

in_pairs : (ls rs ds : List ℕ) (i j : ℕ) → i < length ls → j < length rs → word ds i ≡ suc j → Memᴰ (word ls i, word rs j) (pairs ls rs ds)
unfolding pairs
in_pairs [] rs ds i j h k e = absurd (omega arith)
in_pairs (a ∷ ls) rs [] i j h k e = absurd (omega (arith, e))
in_pairs (a ∷ ls) rs (d ∷ ds) zero j h k e =
    let x : j ≡ d - 1 = omega (arith, e) in
    rw (le-leb d (length rs) (omega (arith, e, k))) (Memᴰ.head (ap (λ (n : ℕ). (a, word rs n)) x))
in_pairs (a ∷ ls) rs (d ∷ ds) (suc i) j h k e = pick (leb d (length rs)) (in_pairs ls rs ds i j (omega arith) k e)
  where
    pick : (c : Bool) → Memᴰ (word ls i, word rs j) (pairs ls rs ds) →
        Memᴰ (word ls i, word rs j) (cond c ((a, word rs (d - 1)) ∷ pairs ls rs ds) (pairs ls rs ds))
    pick true m = Memᴰ.tail m
    pick false m = m

-- where left digits are above 0, as in a choice, the pairs are those of a left term and the right term that its digit counts to
pub pairs_mean : (ls rs ds : List ℕ) → ((i : ℕ) → i < length ls → 0 < word ds i) → (a b : ℕ) → Memᴰ (a, b) (pairs ls rs ds) ↔
    ((i : ℕ) × (j : ℕ) × (i < length ls) × (j < length rs) × (word ds i ≡ suc j) × (a ≡ word ls i) × (b ≡ word rs j))
pairs_mean ls rs ds h a b = (pairs_from ls rs ds h a b, λ s. rw (s.5, s.6) (in_pairs ls rs ds s.0 s.1 s.2 s.3 s.4))
