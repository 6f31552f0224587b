-- The bits of sets, row by row: a word of a row from the row after it, a whole row, and the rows from a left term on.
use Rattle.std.specs.Prelude.{ℕ, ◌+◌, ◌-◌, ◌*◌, ◌/◌, ◌%◌, ◌^◌, ◌≤◌, ◌<◌, Bool, true, false, List, ◌≡◌, length}
use Rattle.table.specs.Limits.{max_terms}
use Rattle.table.specs.Layout.{word}
use Rattle.branches.specs.Code.Known.{known_bytes, left_count, right_count, left_labels, right_labels, every_in}
use Rattle.branches.specs.Code.Ahead.{has, completes_from, bit_at, Completable}

-- The bits of `more` come to those of a word, if they may: none is lost.
pub record WithSets (sets more : ℕ) (may : Bool) (r : ℕ) : Type 0 where
  pub kept : (u : ℕ) → has sets u ≡ true → has r u ≡ true
  pub put : may ≡ true → (u : ℕ) → has more u ≡ true → has r u ≡ true

-- The bit of set s in the row whose words begin at t.
abbrev pub bit_from : List ℕ → ℕ → ℕ → Bool
bit_from can t s = has (word can (t + s / 64)) (s % 64)

-- Word x of a row, from the row that begins at t: it has every set that is in that one, if these stay, and every set to which one of the
-- first n right terms can be put, by the pairs of `row`, so that it is in that one.
pub record SetsBefore (can : List ℕ) (t x row n : ℕ) (stay : Bool) (r : ℕ) : Type 0 where
  pub stays : stay ≡ true → (s : ℕ) → s / 64 ≡ x → bit_from can t s ≡ true → has r (s % 64) ≡ true
  pub joined : (s j : ℕ) → s / 64 ≡ x → j < n → has row j ≡ true → has s j ≡ false → bit_from can t (s + 2 ^ j) ≡ true → has r (s % 64) ≡ true

-- So many words of the row that begins at t are filled from the row after it, which stays, with all behind it.
pub record FillsRow (can : List ℕ) (t words row : ℕ) (stay : Bool) (can' : List ℕ) : Type 0 where
  pub size : length can' ≡ length can
  pub kept : (p : ℕ) → t + 4 ≤ p → word can' p ≡ word can p
  pub filled : (x : ℕ) → x < words → SetsBefore can (t + 4) x row 8 stay (word can' (t + x))

-- What is needed of what is known.
pub record Sized (known : List ℕ) : Type 0 where
  pub size : length known ≡ known_bytes
  pub some : 0 < left_count known
  pub left_few : left_count known ≤ max_terms
  pub right_few : right_count known ≤ max_terms
  pub every : every_in known + 1 ≡ 2 ^ right_count known

-- Where the left terms after a term from k on can be placed, its bit is 1.
pub record CompletableFrom (known can : List ℕ) (k : ℕ) : Type 0 where
  pub size : length can ≡ 32
  pub bits : (i s : ℕ) → k ≤ i → i < left_count known → s < 2 ^ right_count known → completes_from known (i + 1) s ≡ true → bit_at can i s ≡ true

-- The row of the last left term has every set where there are left labels, and every row has where there are right ones too.
pub record Ready (known can : List ℕ) : Type 0 where
  pub size : length can ≡ 32
  pub ends : (left_labels known ≡ 0 → ⊥) → (s : ℕ) → s < 256 → bit_from can (4 * (left_count known - 1)) s ≡ true
  pub whole : (left_labels known ≡ 0 → ⊥) → (right_labels known ≡ 0 → ⊥) → (i s : ℕ) → i < 8 → s < 256 → bit_from can (4 * i) s ≡ true

-- The row that begins at t has the whole set, if it is to be written; otherwise all is as before.
pub record EndsRow (can : List ℕ) (t every : ℕ) (closed : Bool) (can' : List ℕ) : Type 0 where
  pub size : length can' ≡ length can
  pub whole : closed ≡ true → bit_from can' t every ≡ true
  pub same : closed ≡ false → can' ≡ can

-- The rows before the last are filled, and that one stays.
pub record FillsRows (known can can' : List ℕ) : Type 0 where
  pub completable : CompletableFrom known can' 0
  pub last : (p : ℕ) → 4 * (left_count known - 1) ≤ p → word can' p ≡ word can p

-- All rows are filled, and where the answer is false, there is no choice.
pub record Plans (known can can' : List ℕ) (r : Bool) : Type 0 where
  pub ready : Ready known can'
  pub completable : Completable known can'
  pub none : r ≡ false → completes_from known 0 0 ≡ false
