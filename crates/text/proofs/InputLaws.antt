-- Words of bytes, four at a time: what the loop that reads them keeps. By induction on the bytes. Assumes nothing.
use Prim.Native.Nat.{ℕ, zero, suc, ◌+◌, ◌*◌, ◌/◌, ◌≤◌, ◌<◌}
use mathlib.Core.List.{List, [], ◌∷◌, ◌++◌, append-nil}
use mathlib.Core.Path.{◌≡◌, refl, sym, ap, ◌∙◌}
use native.Mathlib.Omega.{arith}
use native.Mathlib.Nat.{suc-add}
use native.Mathlib.Numerals.{add-one}
use lib.ListN.{length, take, drop, get_or, set, length-drop}
use lib.Seq.{take-suc-set, append_snoc}
use Rattle.text.specs.Input.{word_of_bytes, words_of_bytes}

-- the word whose lowest byte is at place i
abbrev pub word_from : List ℕ → ℕ → ℕ
word_from bs i = word_of_bytes (get_or bs i 0) (get_or bs (i + 1) 0) (get_or bs (i + 2) 0) (get_or bs (i + 3) 0)

-- the words from place i on are the word there and those from place i + 4 on
pub words_from : (bs : List ℕ) (i : ℕ) → i + 3 < length bs → words_of_bytes (drop i bs) ≡ word_from bs i ∷ words_of_bytes (drop (i + 4) bs)
unfolding words_of_bytes
words_from [] i h = absurd (omega arith)
words_from (a ∷ []) zero h = absurd (omega arith)
words_from (a ∷ b ∷ []) zero h = absurd (omega arith)
words_from (a ∷ b ∷ c ∷ []) zero h = absurd (omega arith)
words_from (a ∷ b ∷ c ∷ d ∷ bs) zero h = refl
words_from (a ∷ bs) (suc i) h = simp suc-add (words_from bs i (omega (arith, h)))

-- fewer than four bytes are no word
words_none : (bs : List ℕ) → length bs < 4 → words_of_bytes bs ≡ []
unfolding words_of_bytes
words_none [] h = refl
words_none (a ∷ []) h = refl
words_none (a ∷ b ∷ []) h = refl
words_none (a ∷ b ∷ c ∷ []) h = refl
words_none (a ∷ b ∷ c ∷ d ∷ bs) h = absurd (omega arith)

-- one word more
pub reading_goes_on : (bs ws vs : List ℕ) (i v : ℕ) → 4 * i + 3 < length bs → i < length ws → v ≡ word_from bs (4 * i) → vs ≡ set ws i v →
    take i ws ++ words_of_bytes (drop (4 * i) bs) ≡ words_of_bytes bs → take (i + 1) vs ++ words_of_bytes (drop (4 * (i + 1)) bs) ≡ words_of_bytes bs
reading_goes_on bs ws vs i v h l e f p =
    rw (f, add-one i, take-suc-set ws i v l)
    (let x : 4 * suc i ≡ 4 * i + 4 = omega arith in
    append_snoc (take i ws) v (words_of_bytes (drop (4 * suc i) bs))
    ∙ rw (x, e) (ap (take i ws ++◌) (sym (words_from bs (4 * i) h)) ∙ p))

-- fewer than four bytes are left
pub reading_ends : (bs ws : List ℕ) (i n : ℕ) → n ≡ length bs / 4 → i ≤ n → n ≤ i →
    take i ws ++ words_of_bytes (drop (4 * i) bs) ≡ words_of_bytes bs → take n ws ≡ words_of_bytes bs
reading_ends bs ws i n e g h p =
    let x : n ≡ i = omega arith in
    rw x (sym (append-nil (take i ws)) ∙ ap (take i ws ++◌) (sym (words_none (drop (4 * i) bs) (omega (arith, length-drop (4 * i) bs)))) ∙ p)
