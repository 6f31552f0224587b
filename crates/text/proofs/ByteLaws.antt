-- Bytes and words say the same: words are read back from their bytes, and whole words of bytes have no other bytes. Assumes nothing.
use Prim.Native.Nat.{ℕ, ◌/◌, ◌%◌, ◌<◌}
use mathlib.Core.List.{List, [], ◌∷◌}
use mathlib.Core.Path.{◌≡◌, refl}
use native.Mathlib.Omega.{arith}
use Rattle.text.specs.Input.{word_of_bytes, words_of_bytes}

-- the bytes of words, four a word, lowest byte first
unfoldable pub bytes_of_words : List ℕ → List ℕ
bytes_of_words [] = []
bytes_of_words (w ∷ ws) = w % 256 ∷ w / 256 % 256 ∷ w / 65536 % 256 ∷ w / 16777216 ∷ bytes_of_words ws

-- words are read back
word_back : (w : ℕ) → word_of_bytes (w % 256) (w / 256 % 256) (w / 65536 % 256) (w / 16777216) ≡ w
word_back w = omega arith

pub words_back : (ws : List ℕ) → words_of_bytes (bytes_of_words ws) ≡ ws
unfolding words_of_bytes bytes_of_words
words_back [] = refl
words_back (w ∷ ws) = rw (word_back w, words_back ws) refl

-- bytes, four for each word
pub data Whole : List ℕ → Type 0 where
  none : Whole []
  word : {a b c d : ℕ} {bs : List ℕ} → a < 256 → b < 256 → c < 256 → d < 256 → Whole bs → Whole (a ∷ b ∷ c ∷ d ∷ bs)

byte_0 : (a b c d : ℕ) → a < 256 → word_of_bytes a b c d % 256 ≡ a
byte_0 a b c d p = omega arith

byte_1 : (a b c d : ℕ) → a < 256 → b < 256 → word_of_bytes a b c d / 256 % 256 ≡ b
byte_1 a b c d p q = omega arith

byte_2 : (a b c d : ℕ) → a < 256 → b < 256 → c < 256 → word_of_bytes a b c d / 65536 % 256 ≡ c
byte_2 a b c d p q r = omega arith

byte_3 : (a b c d : ℕ) → a < 256 → b < 256 → c < 256 → word_of_bytes a b c d / 16777216 ≡ d
byte_3 a b c d p q r = omega arith

-- so are bytes
pub bytes_back : {bs : List ℕ} → Whole bs → bytes_of_words (words_of_bytes bs) ≡ bs
unfolding words_of_bytes bytes_of_words
bytes_back none = refl
bytes_back (word {a} {b} {c} {d} p q r t w) =
    rw (byte_0 a b c d p, byte_1 a b c d p q, byte_2 a b c d p q r, byte_3 a b c d p q r, bytes_back w) refl
