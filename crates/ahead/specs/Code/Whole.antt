-- Where nothing is to be looked for: sides that do not fit by their numbers, and rows with every pair.
use Rattle.std.specs.Prelude.{ℕ, ◌+◌, ◌<◌, List, ◌≡◌}
use Rattle.table.specs.Layout.{word}
use Rattle.branches.specs.Code.Known.{left_count, right_count, left_labels, right_labels, every_in, KeepsKnown}

-- A side has more terms than the other, which has no labels.
pub data NotFit (known : List ℕ) : Type 0 where
  more_left : right_labels known ≡ 0 → right_count known < left_count known → NotFit known
  more_right : left_labels known ≡ 0 → left_count known < right_count known → NotFit known

-- The sets of the first i left terms have every right term, and all but the sets is as before.
pub record WholeTo (known known' : List ℕ) (i : ℕ) : Type 0 where
  pub keeps : KeepsKnown known known'
  pub rows : (q : ℕ) → q < i → word known' (600 + q) ≡ every_in known

-- So do those of all.
abbrev pub WholeRows : List ℕ → List ℕ → Type 0
WholeRows known known' = WholeTo known known' (left_count known)
