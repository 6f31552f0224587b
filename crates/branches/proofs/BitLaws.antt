-- Bits of sets of right terms: a power of two is small, and a set with a term more is a set.
-- By cases of the eight places. Assumes nothing.
use Prim.Native.Nat.{ℕ, zero, suc, ◌+◌, ◌-◌, ◌*◌, ◌/◌, ◌%◌, ◌^◌, ◌≤◌, ◌<◌}
use mathlib.Core.Bool.{Bool, true, false}
use mathlib.Core.List.{List}
use mathlib.Core.Path.{◌≡◌, sym, ap, ◌∙◌}
use native.Mathlib.Omega.{arith}
use borrow.Author.Tests.{eq-eqb, ne_eqb}
use lib.Pow.{pow_mono}
use Rattle.table.specs.Layout.{word}
use Rattle.branches.specs.Code.Ahead.{has, bit_at}
use Rattle.branches.specs.Code.Branch.{IsOpen, may, struck, taken, lost}

-- a power of two is small
pub power_small : (k : ℕ) → k ≤ 7 → 2 ^ k ≤ 128
power_small k h = pow_mono {i = k} {j = 7} h

-- what holds at eight places
eight : (P : ℕ → Type 0) → P 0 → P 1 → P 2 → P 3 → P 4 → P 5 → P 6 → P 7 → (k : ℕ) → k ≤ 7 → P k
eight P a b c d e f g h zero l = a
eight P a b c d e f g h (suc zero) l = b
eight P a b c d e f g h (suc (suc zero)) l = c
eight P a b c d e f g h (suc (suc (suc zero))) l = d
eight P a b c d e f g h (suc (suc (suc (suc zero)))) l = e
eight P a b c d e f g h (suc (suc (suc (suc (suc zero))))) l = f
eight P a b c d e f g h (suc (suc (suc (suc (suc (suc zero)))))) l = g
eight P a b c d e f g h (suc (suc (suc (suc (suc (suc (suc zero))))))) l = h
eight P a b c d e f g h (suc (suc (suc (suc (suc (suc (suc (suc k)))))))) l = absurd (omega (arith, l))

-- a set with a term that is not in it is one of eight terms
pub set_more : (s k : ℕ) → s < 256 → k ≤ 7 → (s / 2 ^ k % 2 ≡ 1 → ⊥) → s + 2 ^ k < 256
set_more s k h l =
    eight (λ k. (s / 2 ^ k % 2 ≡ 1 → ⊥) → s + 2 ^ k < 256) (λ n. omega (arith, n, h)) (λ n. omega (arith, n, h)) (λ n. omega (arith, n, h))
    (λ n. omega (arith, n, h)) (λ n. omega (arith, n, h)) (λ n. omega (arith, n, h)) (λ n. omega (arith, n, h)) (λ n. omega (arith, n, h)) k l

-- a term is in a set where its bit is 1
pub has_true : (s j : ℕ) → s / 2 ^ j % 2 ≡ 1 → has s j ≡ true
unfolding has
has_true s j e = eq-eqb (s / 2 ^ j % 2) 1 e

-- and is not where it is not
pub has_false : (s j : ℕ) → (s / 2 ^ j % 2 ≡ 1 → ⊥) → has s j ≡ false
unfolding has
has_false s j n = ne_eqb (s / 2 ^ j % 2) 1 n

module _ (known can : List ℕ) (i d paired row : ℕ) (e : row ≡ word known (600 + i)) where
  -- a pair that is struck out
  pub open_struck : row / 2 ^ (d - 1) % 2 ≡ 0 → IsOpen known can i d paired false
  open_struck z =
      struck
      (ap (λ (x : ℕ). has x (d - 1)) (sym e) ∙ has_false row (d - 1) (λ o. let x : ◌≡◌ {A = ℕ} 0 1 = sym z ∙ o in omega (arith, x)))

  -- a right term that is paired
  pub open_taken : paired / 2 ^ (d - 1) % 2 ≡ 1 → IsOpen known can i d paired false
  open_taken z = taken (has_true paired (d - 1) z)

  -- otherwise by the bit
  pub open_bit : (row / 2 ^ (d - 1) % 2 ≡ 0 → ⊥) → (paired / 2 ^ (d - 1) % 2 ≡ 1 → ⊥) → (s : ℕ) → s ≡ paired + 2 ^ (d - 1) → (r : Bool) →
      r ≡ bit_at can i s → IsOpen known can i d paired r
  open_bit x y s z true b =
      may (ap (λ (x : ℕ). has x (d - 1)) (sym e) ∙ has_true row (d - 1) (omega (arith, x))) (has_false paired (d - 1) y)
      (ap (bit_at can i) (sym z) ∙ sym b)
  open_bit x y s z false b = lost (has_false paired (d - 1) y) (ap (bit_at can i) (sym z) ∙ sym b)
