-- The input of the program `list`: bytes, and the words that they stand for.
use Rattle.std.specs.Prelude.{ℕ, ◌+◌, ◌*◌, ◌%◌, Bool, ◌||◌, not, List, [], ◌∷◌, eqb, ltb}

-- "11: more than 6,288 bytes, or a number of bytes that four does not divide"
abbrev pub wrong_bytes : ℕ → Bool
wrong_bytes n = ltb 6288 n || not (eqb (n % 4) 0)

-- "four bytes a word, lowest byte first"
abbrev pub word_of_bytes : ℕ → ℕ → ℕ → ℕ → ℕ
word_of_bytes a b c d = a + 256 * b + 65536 * c + 16777216 * d

unfoldable pub words_of_bytes : List ℕ → List ℕ
words_of_bytes [] = []
words_of_bytes (a ∷ []) = []
words_of_bytes (a ∷ b ∷ []) = []
words_of_bytes (a ∷ b ∷ c ∷ []) = []
words_of_bytes (a ∷ b ∷ c ∷ d ∷ bytes) = word_of_bytes a b c d ∷ words_of_bytes bytes
