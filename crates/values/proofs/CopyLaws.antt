-- Lists copied place by place into others: one law for each way on. Assumes nothing.
use Prim.Native.Nat.{ℕ, ◌+◌, ◌<◌}
use mathlib.Core.List.{List, ◌++◌}
use mathlib.Core.Path.{◌≡◌, sym, ap, ◌∙◌}
use native.Mathlib.Numerals.{add-one}
use lib.ListN.{length, set, take, drop}
use lib.Seq.{paste, paste-suc, take-length}
use Rattle.table.specs.Layout.{word}

module _ (to from : List ℕ) where
  -- one place more, from place `at` on
  pub paste_next : (at j : ℕ) → at + j < length to → j < length from → set (paste to at from j) (at + j) (word from j) ≡ paste to at from (j + 1)
  paste_next at j h l = paste-suc to at from j 0 h l ∙ ap (paste to at from) (sym (add-one j))

  -- all places
  pub paste_all : (at j : ℕ) → j ≡ length from → paste to at from j ≡ take at to ++ from ++ drop (at + length from) to
  paste_all at j e =
      ap (paste to at from) e ∙ ap (λ (l : List ℕ). take at to ++ l ++ drop (at + length from) to) (take-length from)
