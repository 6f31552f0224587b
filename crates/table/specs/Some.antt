-- Some number below n has the property, as a test that computes.
use Rattle.std.specs.Prelude.{ℕ, zero, suc, Bool, false, ◌||◌}

unfoldable pub some_below : ℕ → (ℕ → Bool) → Bool
some_below zero p = false
some_below (suc n) p = some_below n p || p n
