-- What stays in a list where numbers are written from the last place down, each over what stood in its slot.
use Rattle.std.specs.Prelude.{ℕ, ◌<◌, ◌≤◌, List, ◌≡◌}
use Rattle.table.specs.Layout.{word}
use Rattle.unification.specs.Words.{Least}

-- Place k, of those from i to n with P, is written at slot s.
abbrev pub WrittenAt : (ℕ → Type 0) → (ℕ → ℕ) → ℕ → ℕ → ℕ → ℕ → Type 0
WrittenAt P slot i n s k = (i ≤ k) × (k < n) × P k × (slot k ≡ s)

-- Each place from i to n with P has written its value at its slot: what stands there is the value of the least that has.
pub record Kept (P : ℕ → Type 0) (slot value : ℕ → ℕ) (i n : ℕ) (by : List ℕ) : Type 0 where
  pub kept : (j : ℕ) → i ≤ j → j < n → P j → (k : ℕ) × Least (WrittenAt P slot i n (slot j)) k × (word by (slot j) ≡ value k)
