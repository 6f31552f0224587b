-- Places that lead to one another: how a cursor goes on from one to the one before it. Assumes nothing.
use Prim.Native.Nat.{ℕ, ◌+◌, ◌<◌}
use mathlib.Core.List.{List}
use mathlib.Core.Logic.{◌⊎◌, inl, inr}
use mathlib.Core.Path.{◌≡◌, refl, sym, ◌∙◌}
use native.Mathlib.Omega.{arith}
use Rattle.std.proofs.Common.{Option, Some, None}
use Rattle.values.specs.Code.Applications.{at, Reached, here, onward}

-- How far a cursor has to fall.
abbrev pub height : Option ℕ → ℕ
height None = 0
height (Some q) = q + 1

-- from no place none is reached
pub none_reached : (earlier : List (Option ℕ)) (q : ℕ) → Reached earlier None q → ⊥
none_reached earlier q r = elim r [ ]

-- what is reached from a place is it, or is reached from the one before it
pub reached_first : (earlier : List (Option ℕ)) (p r : ℕ) → Reached earlier (Some p) r → (r ≡ p) ⊎ Reached earlier (at earlier p) r
reached_first earlier p r here = inl refl
reached_first earlier p r (onward x) = inr x

-- The cursor is at place q.
module _ (earlier : List (Option ℕ)) (cursor : Option ℕ) (p q : ℕ) (e : cursor ≡ Some p) (d : q ≡ p) where
  -- this is reached from it
  pub cursor_here : Reached earlier cursor q
  cursor_here = rw (e, d) here

  -- and so is what is reached from the one before it
  pub cursor_onward : (r : ℕ) → Reached earlier (at earlier q) r → Reached earlier cursor r
  cursor_onward r h = rw e (onward (rw d at h))

  -- so where q has a property, all has it that is not reached from the one before it
  pub cursor_passed : (P : ℕ → Type 0) → P q → (r : ℕ) → Reached earlier cursor r ⊎ P r → Reached earlier (at earlier q) r ⊎ P r
  cursor_passed P h r (inr x) = inr x
  cursor_passed P h r (inl x) = go (reached_first earlier p r (rw e at x))
    where
      go : (r ≡ p) ⊎ Reached earlier (at earlier p) r → Reached earlier (at earlier q) r ⊎ P r
      go (inl y) = inr (rw (y ∙ sym d) h)
      go (inr y) = inl (rw d y)

  -- and the cursor falls if places do
  pub cursor_falls : ((b : ℕ) → at earlier q ≡ Some b → b < q) → height (at earlier q) < height cursor
  cursor_falls f = rw e (go (at earlier q) refl)
    where
      go : (o : Option ℕ) → at earlier q ≡ o → height o < p + 1
      go None i = omega arith
      go (Some b) i = let l = f b i in omega (arith, l, d)
