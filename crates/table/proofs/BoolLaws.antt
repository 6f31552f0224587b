-- What a test that is an `||` or an `&&` says of its parts. By cases. Assumes nothing.
use Prim.Native.Nat.{ℕ}
use mathlib.Core.Bool.{Bool, true, false, ◌&&◌, ◌||◌}
use mathlib.Core.Logic.{◌↔◌}
use mathlib.Core.Path.{◌≡◌, refl}
use borrow.Author.Tests.{eqb-true, eq-eqb}
use lib.Dec.{eqb}

pub or_false_left : (a b : Bool) → (a || b) ≡ false → a ≡ false
or_false_left true b e = e
or_false_left false b e = refl

pub or_false_right : (a b : Bool) → (a || b) ≡ false → b ≡ false
or_false_right true b e = let z : true ≡ false = e in cc
or_false_right false b e = e

pub or_both_false : (a b : Bool) → a ≡ false → b ≡ false → (a || b) ≡ false
or_both_false a b p q = cc

pub or_same : {a b c d : Bool} → a ≡ c → b ≡ d → (a || b) ≡ (c || d)
or_same p q = rw (p, q) refl

pub and_true_left : (a b : Bool) → (a && b) ≡ true → a ≡ true
and_true_left true b e = refl
and_true_left false b e = e

pub and_true_right : (a b : Bool) → (a && b) ≡ true → b ≡ true
and_true_right true b e = e
and_true_right false b e = let z : false ≡ true = e in cc

-- two tests for equality
pub both_equal : (a b c d : ℕ) → (eqb a b && eqb c d) ≡ true ↔ ((a ≡ b) × (c ≡ d))
both_equal a b c d = (
  (λ e. (eqb-true a b (and_true_left (eqb a b) (eqb c d) e), eqb-true c d (and_true_right (eqb a b) (eqb c d) e))),
  (λ r. rw (eq-eqb a b r.0, eq-eqb c d r.1)),
)
