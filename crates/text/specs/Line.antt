-- Numbers and lines as bytes. 48 to 57 are the digits, 32 is a blank, 10 a line feed.
use Rattle.std.specs.Prelude.{ℕ, zero, suc, ◌+◌, ◌/◌, ◌%◌, cond, ltb}
use mathlib.Core.List.{List, [], ◌∷◌, ◌++◌, flat_map}

-- A number in decimal, the highest digit first, with at most so many digits.
unfoldable pub decimal_within : ℕ → ℕ → List ℕ
decimal_within zero n = []
decimal_within (suc digits) n =
    cond (ltb n 10) ((48 + n) ∷ []) (decimal_within digits (n / 10) ++ ((48 + n % 10) ∷ []))

-- A number in decimal. (It has no more digits than n + 1.)
unfoldable pub decimal : ℕ → List ℕ
decimal n = decimal_within (suc n) n

-- What stands after a word: a blank before each further word, and the line feed.
unfoldable pub after_word : List ℕ → List ℕ
after_word [] = 10 ∷ []
after_word (w ∷ ws) = 32 ∷ (decimal w ++ after_word ws)

-- "each entry as its words with one blank between; a line feed ends each line"
unfoldable pub line : List ℕ → List ℕ
line [] = 10 ∷ []
line (w ∷ ws) = decimal w ++ after_word ws

-- A line for each entry.
unfoldable pub lines : List (List ℕ) → List ℕ
lines es = flat_map line es

-- A text and a number, as a line.
unfoldable pub titled : List ℕ → ℕ → List ℕ
titled text n = text ++ decimal n ++ (10 ∷ [])
