-- What has to be known before entries are printed.
use Rattle.std.specs.Prelude.{ℕ, ◌*◌, ◌≤◌, List, ◌≡◌, length}

-- The most bytes that are printed: 11 for each of the lent words, and 19 for the title.
abbrev pub most_printed : ℕ
most_printed = 180243

-- So many entries of so many words lie in the lent words. (Without words there is one at most.)
pub record Printable (width count : ℕ) (words : List ℕ) : Type 0 where
  pub lent : length words ≡ 16384
  pub inside : width * count ≤ 16384
  pub one : width ≡ 0 → count ≤ 1
