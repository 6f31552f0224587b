-- Numbers in decimal. Any number of digits above the number is enough, so the definition can be read digit by digit. Assumes nothing.
use Prim.Native.Nat.{ℕ, zero, suc, ◌+◌, ◌/◌, ◌%◌, ◌≤◌, ◌<◌}
use mathlib.Core.Logic.{dite}
use mathlib.Core.List.{List, [], ◌∷◌, ◌++◌}
use mathlib.Core.Path.{◌≡◌, refl, ap}
use native.Mathlib.Decide.{dec_lt}
use native.Mathlib.Omega.{arith}
use borrow.Author.Tests.{lt-ltb, le-ltb}
use Rattle.text.specs.Line.{decimal_within, decimal}

-- the last digit of a number
abbrev pub last_digit : ℕ → List ℕ
last_digit n = (48 + n % 10) ∷ []

-- how many digits are allowed does not matter, if they are enough
within_same : (k l n : ℕ) → n < k → n < l → decimal_within k n ≡ decimal_within l n
unfolding decimal_within
within_same zero l n g h = absurd (omega arith)
within_same (suc k) zero n g h = absurd (omega arith)
within_same (suc k) (suc l) n g h =
    dite (dec_lt n 10)
    (λ q. rw (lt-ltb n 10 q) refl)
    (λ q. rw (le-ltb n 10 (omega (arith, q)), within_same k l (n / 10) (omega (arith, q)) (omega (arith, q))) refl)

-- a number below ten is one digit
pub decimal_one : (n : ℕ) → n < 10 → decimal n ≡ last_digit n
unfolding decimal_within decimal
decimal_one n h = let e : n ≡ n % 10 = omega arith in rw (lt-ltb n 10 h) (ap (λ (d : ℕ). (48 + d) ∷ []) e)

-- any other is a tenth of it, and its last digit
pub decimal_more : (n : ℕ) → 10 ≤ n → decimal n ≡ decimal (n / 10) ++ last_digit n
unfolding decimal_within decimal
decimal_more n h =
    rw (le-ltb n 10 h) (ap (◌++ last_digit n) (within_same n (suc (n / 10)) (n / 10) (omega arith) (omega arith)))
