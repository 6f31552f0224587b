-- A set of eight terms is below 256, and stays so with one term more: by the laws of shifts and unions. Assumes nothing.
use Prim.Native.Nat.{ℕ, ◌*◌, ◌%◌, ◌^◌, ◌<◌}
use mathlib.Core.Path.{◌≡◌, ◌∙◌}
use native.Mathlib.Nat.{one-mul}
use native.Mathlib.Omega.{arith}
use lib.Bits.{bit_or, or_lt}
use lib.Pow.{pow-lt, shl_exact}

-- a set with one term more is below 256
pub set_with : (s j : ℕ) → s < 256 → j < 8 → bit_or s (1 * 2 ^ j % 2 ^ 64) < 256
set_with s j h k =
    let e : 1 * 2 ^ j % 2 ^ 64 ≡ 2 ^ j = shl_exact 1 j 64 (omega arith) (omega (arith, k)) ∙ one-mul (2 ^ j) in
    let p : 2 ^ j < 256 = pow-lt {i = j} {j = 8} k in
    or_lt 8 s (1 * 2 ^ j % 2 ^ 64) h (omega (arith, e, p))
