-- The right terms that are not paired yet. By induction on the right terms. Assumes nothing.
use Prim.Native.Nat.{ℕ, zero, suc, ◌+◌, ◌<◌}
use mathlib.Core.Bool.{Bool, true, false, cond}
use mathlib.Core.List.Memᴰ
use mathlib.Core.List.{List, [], ◌∷◌, map, Memᴰ}
use mathlib.Core.Path.{◌≡◌, refl, ap}
use native.Mathlib.Omega.{arith}
use borrow.Author.Tests.{eq-eqb, ne_eqb}
use lib.ListN.{length}
use Rattle.table.specs.Layout.{word}
use Rattle.terms.specs.Term.{Term}
use Rattle.terms.specs.Multiset.{occurrences}
use Rattle.terms.proofs.MultisetLaws.{occurrences_append}
use Rattle.multiset_unification.specs.Computed.Choices.{among}

-- Those from place j on whose digit is not in used.
unfoldable pub unused : ℕ → List ℕ → List ℕ → List ℕ
unused j used [] = []
unused j used (r ∷ rs) = cond (among (suc j) used) (unused (suc j) used rs) (r ∷ unused (suc j) used rs)

among_other : (d e : ℕ) (used : List ℕ) → (d ≡ e → ⊥) → among d (e ∷ used) ≡ among d used
unfolding among
among_other d e used h = rw (ne_eqb d e h)

among_same : (d : ℕ) (used : List ℕ) → among d (d ∷ used) ≡ true
unfolding among
among_same d used = rw (eq-eqb d d refl)

-- at first no term is paired
pub unused_all : (j : ℕ) (rs : List ℕ) → unused j [] rs ≡ rs
unfolding unused among
unused_all j [] = refl
unused_all j (r ∷ rs) = ap (r ∷◌) (unused_all (suc j) rs)

-- a digit that pairs none of them leaves them as they are
pub unused_kept : (j d : ℕ) (used rs : List ℕ) → ((i : ℕ) → i < length rs → suc (j + i) ≡ d → ⊥) → unused j (d ∷ used) rs ≡ unused j used rs
unfolding unused
unused_kept j d used [] h = refl
unused_kept j d used (r ∷ rs) h =
    let z = h 0 (omega arith) in
    let e = among_other (suc j) d used (λ q. z (omega (arith, q))) in
    let s = unused_kept (suc j) d used rs (λ i p q. h (suc i) (omega arith) (omega (arith, q))) in
    rw (e, s) refl

-- one that pairs a term takes it out
pub unused_taken : (v : ℕ → Term) (t : Term) (j i d : ℕ) (used rs : List ℕ) → i < length rs → suc (j + i) ≡ d → among d used ≡ false →
    occurrences t (map v (unused j used rs)) ≡ occurrences t (v (word rs i) ∷ []) + occurrences t (map v (unused j (d ∷ used) rs))
unfolding unused
unused_taken v t j i d used [] h e f = absurd (omega arith)
unused_taken v t j zero d used (r ∷ rs) h e f =
    let x : suc j ≡ d = omega arith in
    let y : among (suc j) used ≡ false = rw x f in
    let z : among (suc j) (d ∷ used) ≡ true = rw x (among_same d used) in
    let s = unused_kept (suc j) d used rs (λ i p q. absurd (omega (arith, q))) in
    rw (y, z, s) (occurrences_append t (v r ∷ []) (map v (unused (suc j) used rs)))
unused_taken v t j (suc i) d used (r ∷ rs) h e f =
    let z = among_other (suc j) d used (λ q. absurd (omega (arith, q))) in
    rw z (pick (among (suc j) used) (unused_taken v t (suc j) i d used rs (omega arith) (omega arith) f))
  where
    pick : (b : Bool) → occurrences t (map v (unused (suc j) used rs))
        ≡ occurrences t (v (word rs i) ∷ []) + occurrences t (map v (unused (suc j) (d ∷ used) rs)) →
        occurrences t (map v (cond b (unused (suc j) used rs) (r ∷ unused (suc j) used rs)))
        ≡ occurrences t (v (word rs i) ∷ []) + occurrences t (map v (cond b (unused (suc j) (d ∷ used) rs) (r ∷ unused (suc j) (d ∷ used) rs)))
    pick true s = s
    pick false s =
        let a = occurrences_append t (v r ∷ []) (map v (unused (suc j) used rs)) in
        let b = occurrences_append t (v r ∷ []) (map v (unused (suc j) (d ∷ used) rs)) in
        omega (arith, a, b, s)

-- each has a place, and its digit is not in used
pub unused_place : (j : ℕ) (used rs : List ℕ) (a : ℕ) → Memᴰ a (unused j used rs) → (i : ℕ) × (i < length rs) × (among (suc (j + i)) used ≡ false) ×
    (a ≡ word rs i)
unfolding unused
unused_place j used [] a m = absurd (Memᴰ.not-nil m)
unused_place j used (r ∷ rs) a m = pick (among (suc j) used) refl m (unused_place (suc j) used rs a)
  where
    Placed : Type 0
    Placed = (i : ℕ) × (i < length (r ∷ rs)) × (among (suc (j + i)) used ≡ false) × (a ≡ word (r ∷ rs) i)

    next : (i : ℕ) × (i < length rs) × (among (suc (suc j + i)) used ≡ false) × (a ≡ word rs i) → Placed
    next (i, h, f, q) =
        let x : suc (suc j + i) ≡ suc (j + suc i) = omega arith in
        (suc i, omega arith, rw x at f, q)

    pick : (b : Bool) → among (suc j) used ≡ b → Memᴰ a (cond b (unused (suc j) used rs) (r ∷ unused (suc j) used rs)) →
        (Memᴰ a (unused (suc j) used rs) → (i : ℕ) × (i < length rs) × (among (suc (suc j + i)) used ≡ false) × (a ≡ word rs i)) → Placed
    pick true f n s = next (s n)
    pick false f (Memᴰ.head q) s =
        let x : suc j ≡ suc (j + 0) = omega arith in
        (0, omega arith, rw x at f, q)
    pick false f (Memᴰ.tail n) s = next (s n)
