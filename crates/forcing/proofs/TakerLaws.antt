-- Left terms that may take a right term, row by row: a union has a right term where one of two rows has it, and an intersection where both have.
-- So a right term that is missing in all the intersections is in one row at most. By the laws of bits. Assumes nothing.
use Prim.Native.Nat.{ℕ, ◌+◌, ◌/◌, ◌%◌, ◌^◌, ◌≤◌, ◌<◌}
use mathlib.Core.Bool.{Bool, true, false, false≢true}
use mathlib.Core.List.{List}
use mathlib.Core.Path.{◌≡◌, refl, sym, ap, ◌∙◌}
use native.Mathlib.Decide.{ℕ_discrete}
use native.Mathlib.Omega.{arith}
use lib.Bits.{bit_and, bit_or}
use lib.ListN.{length, take, drop, length-drop}
use lib.Seq.{length-take-le, get_or-take, get_or-drop}
use Rattle.std.specs.declared.option.Option.{Option}
use Rattle.std.specs.declared.option.Option.TheVariants.{None, Some}
use Rattle.std.specs.List.{AllWithin, HoldsAt}
use Rattle.std.specs.Option.{MatchOption}
use Rattle.table.specs.Layout.{word}
use Rattle.branches.specs.Code.Known.{left_count}
use Rattle.branches.specs.Code.Ahead.{has}
use Rattle.branches.proofs.BitLaws.{has_true, has_false}
use Rattle.ahead.proofs.BitLaws.{or_left, or_right, and_both}
use Rattle.forcing.specs.Code.Forced.{TakenBefore, NoTaker, FirstTaker}

-- what another follows from does not hold where that does not
not_either : (a b : Bool) → (a ≡ true → b ≡ true) → b ≡ false → a ≡ false
not_either true b f e = absurd (false≢true (sym e ∙ f refl))
not_either false b f e = refl

-- a row is read where it stands
row_at : (known : List ℕ) (n q : ℕ) → q < n → word known (600 + q) ≡ word (take n (drop 600 known)) q
row_at known n q h = sym (get_or-take n (drop 600 known) q 0 h ∙ get_or-drop 600 known q 0)

-- one row more
pub taken_turn : {known : List ℕ} {i once twice row : ℕ} → row ≡ word known (600 + i) → TakenBefore known i once twice →
    TakenBefore known (i + 1) (bit_or once row) (bit_or twice (bit_and once row))
taken_turn {known} {i} {once} {twice} {row} r t =
    record { none = λ j q h. none j q h (ℕ_discrete q i); one = λ j p q l h. one j p q l h (ℕ_discrete q i) }
  where
    none : (j q : ℕ) → q < i + 1 → Dec (q ≡ i) → has (bit_or once row) j ≡ false → has (word known (600 + q)) j ≡ false
    none j q h (yes d) e =
        ap (λ (x : ℕ). has (word known (600 + x)) j) d ∙ ap (λ (x : ℕ). has x j) (sym r)
        ∙ not_either (has row j) (has (bit_or once row) j) (or_right once row j) e
    none j q h (no d) e = t.none j q (omega (arith, h, d)) (not_either (has once j) (has (bit_or once row) j) (or_left once row j) e)

    met : (j p : ℕ) → p < i → has (word known (600 + p)) j ≡ true → (b : Bool) → has once j ≡ b → has once j ≡ true
    met j p l o true z = z
    met j p l o false z = absurd (false≢true (sym (t.none j p l z) ∙ o))

    one : (j p q : ℕ) → p < q → q < i + 1 → Dec (q ≡ i) → has (bit_or twice (bit_and once row)) j ≡ false → has (word known (600 + p)) j ≡ true →
        has (word known (600 + q)) j ≡ false
    one j p q l h (yes d) e o =
        let m = met j p (omega (arith, l, d)) o (has once j) refl in
        ap (λ (x : ℕ). has (word known (600 + x)) j) d ∙ ap (λ (x : ℕ). has x j) (sym r)
        ∙ not_either (has row j) (has (bit_or twice (bit_and once row)) j)
        (λ y. or_right twice (bit_and once row) j (and_both once row j m y)) e
    one j p q l h (no d) e o =
        t.one j p q l (omega (arith, h, d))
        (not_either (has twice j) (has (bit_or twice (bit_and once row)) j) (or_left twice (bit_and once row) j) e) o

-- the first row that has a right term is that of the first left term that may take it
pub first_taker : (known : List ℕ) (j n : ℕ) (r : Option ℕ) → n ≡ left_count known → 600 + n ≤ length known →
    MatchOption r (AllWithin (λ x. x / 2 ^ j % 2 ≡ 1 → ⊥) (take n (drop 600 known)) 0 (length (take n (drop 600 known))))
    (λ i. (i < length (take n (drop 600 known))) × HoldsAt (λ x. x / 2 ^ j % 2 ≡ 1) (take n (drop 600 known)) i ×
    AllWithin (λ x. x / 2 ^ j % 2 ≡ 1 → ⊥) (take n (drop 600 known)) 0 i) → MatchOption r (NoTaker known j) (FirstTaker known j)
first_taker known j n None e h m =
    record {
      none = λ q l. let k = length-take-le n (drop 600 known) (omega (arith, length-drop 600 known, h)) in
          ap (λ (x : ℕ). has x j) (row_at known n q (omega (arith, l, e))) ∙ has_false _ j (m q 0 (omega arith) (omega (arith, k, l, e)));
    }
first_taker known j n (Some i) e h m =
    let k = length-take-le n (drop 600 known) (omega (arith, length-drop 600 known, h)) in
    record {
      within = omega (arith, m.0, k, e);
      before = λ q l. ap (λ (x : ℕ). has x j) (row_at known n q (omega (arith, l, m.0, k))) ∙ has_false _ j (m.2 q 0 (omega arith) l);
      takes = ap (λ (x : ℕ). has x j) (row_at known n i (omega (arith, m.0, k))) ∙ has_true _ j (m.1 0);
    }
