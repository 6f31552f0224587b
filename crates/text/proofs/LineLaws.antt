-- Texts byte by byte, lines word by word, and entries line by line: what is left begins with the next piece, so there is room for it.
-- Assumes nothing.
use Prim.Native.Nat.{ℕ, zero, suc, ◌+◌, ◌-◌, ◌*◌, ◌≤◌, ◌<◌}
use mathlib.Core.List.{List, [], ◌∷◌, ◌++◌, append-nil, append_assoc, flat_map}
use mathlib.Core.Path.{◌≡◌, refl, sym, ap, ◌∙◌}
use mathlib.Core.Logic.{◌⊎◌, inl, inr, ⊎_elim, dite}
use native.Mathlib.Decide.{dec_lt}
use native.Mathlib.Omega.{arith}
use native.Mathlib.Nat.{mul-suc, mul-le-mul_left}
use native.Mathlib.Numerals.{add-one}
use lib.ListN.{length, get_or, take, drop, drop_of_length-le, length-append}
use lib.Seq.{drop-cons}
use Rattle.unification.specs.Node.{tabulate}
use Rattle.text.specs.Line.{decimal, after_word, line, lines, titled}
use Rattle.text.specs.Code.Writing.{Wrote, Writing, parts}
use Rattle.text.proofs.WritingLaws.{wrote_nothing, wrote_both, piece_fits}

-- a text from place i on is the byte there and what stands after it
pub text_next : (bs : List ℕ) (i : ℕ) → i < length bs → drop i bs ≡ (get_or bs i 0 ∷ []) ++ drop (i + 1) bs
text_next bs i h = rw (add-one i) (drop-cons bs i 0 h)

-- a word is left
pub word_next : (ws : List ℕ) (i : ℕ) → i < length ws → after_word (drop i ws) ≡ (32 ∷ decimal (get_or ws i 0)) ++ after_word (drop (i + 1) ws)
unfolding after_word
word_next ws i h = rw (add-one i) (ap after_word (drop-cons ws i 0 h))

-- none is left
pub word_none : (ws : List ℕ) (i : ℕ) → length ws ≤ i → after_word (drop i ws) ≡ (10 ∷ []) ++ []
unfolding after_word
word_none ws i h = ap after_word (drop_of_length-le ws h)

-- a line of no words, and one that begins with a word
pub line_none : (ws : List ℕ) → length ws ≡ 0 → line ws ≡ 10 ∷ []
unfolding line
line_none [] e = refl
line_none (w ∷ ws) e = absurd (omega arith)

pub line_first : (ws : List ℕ) → 0 < length ws → line ws ≡ decimal (get_or ws 0 0) ++ after_word (drop 1 ws)
unfolding line
line_first [] h = absurd (omega arith)
line_first (w ∷ ws) h = refl

module _ {o p : List ℕ} {i j : ℕ} where
  -- there is room for the next byte of a text
  pub byte_fits : (bs : List ℕ) (n : ℕ) → Writing o i bs p j (drop n bs) → n < length bs → i + length bs ≤ length o → j < length p
  byte_fits bs n v h r = let f = piece_fits (get_or bs n 0 ∷ []) (drop (n + 1) bs) v (text_next bs n h) r in omega arith

  -- for the next word of a line
  pub word_fits : (ws whole : List ℕ) (n : ℕ) → Writing o i whole p j (after_word (drop n ws)) → n < length ws → i + length whole ≤ length o →
      j + length (32 ∷ decimal (get_or ws n 0)) ≤ length p
  word_fits ws whole n v h r = piece_fits (32 ∷ decimal (get_or ws n 0)) (after_word (drop (n + 1) ws)) v (word_next ws n h) r

  -- and for its line feed
  pub feed_fits : (ws whole : List ℕ) (n : ℕ) → Writing o i whole p j (after_word (drop n ws)) → length ws ≤ n → i + length whole ≤ length o →
      j < length p
  feed_fits ws whole n v h r = let f = piece_fits (10 ∷ []) [] v (word_none ws n h) r in omega arith

-- a line in two pieces: its first word, and what stands after it
module _ (ws : List ℕ) where
  pub empty_line_fits : (i l : ℕ) → length ws ≡ 0 → i + length (line ws) ≤ l → i < l
  empty_line_fits i l e r = omega (arith, ap length (line_none ws e))

  pub wrote_empty_line : {o p : List ℕ} {i j : ℕ} → length ws ≡ 0 → Wrote o i (10 ∷ []) p j → Wrote o i (line ws) p j
  wrote_empty_line e w = rw (line_none ws e) w

  pub first_word_fits : (i l : ℕ) → 0 < length ws → i + length (line ws) ≤ l → i + length (decimal (get_or ws 0 0)) ≤ l
  first_word_fits i l h r = omega (arith, ap length (line_first ws h), length-append (decimal (get_or ws 0 0)) (after_word (drop 1 ws)))

  pub other_words_fit : {o p : List ℕ} {i j : ℕ} → 0 < length ws → i + length (line ws) ≤ length o → Wrote o i (decimal (get_or ws 0 0)) p j →
      j + length (after_word (drop 1 ws)) ≤ length p
  other_words_fit h r w =
      omega (arith, w.ends, w.kept, ap length (line_first ws h), length-append (decimal (get_or ws 0 0)) (after_word (drop 1 ws)))

  pub wrote_line : {o p q : List ℕ} {i j k : ℕ} → 0 < length ws → Wrote o i (decimal (get_or ws 0 0)) p j → Wrote p j (after_word (drop 1 ws)) q k →
      Wrote o i (line ws) q k
  wrote_line h v w = rw (line_first ws h) (wrote_both v w)

-- a title in three pieces
module _ (text : List ℕ) (n : ℕ) where
  pub titled_long : length (titled text n) ≡ length text + length (decimal n) + 1
  unfolding titled
  titled_long = length-append (text ++ decimal n) (10 ∷ []) ∙ ap (λ (l : ℕ). l + 1) (length-append text (decimal n))

  pub text_fits : (i l : ℕ) → i + length (titled text n) ≤ l → i + length text ≤ l
  text_fits i l r = omega (arith, titled_long)

  pub number_fits : {o p : List ℕ} {i j : ℕ} → i + length (titled text n) ≤ length o → Wrote o i text p j → j + length (decimal n) ≤ length p
  number_fits r v = omega (arith, titled_long, v.ends, v.kept)

  pub title_ends : {o p q : List ℕ} {i j k : ℕ} → i + length (titled text n) ≤ length o → Wrote o i text p j → Wrote p j (decimal n) q k →
      k < length q
  title_ends r v w = omega (arith, titled_long, v.ends, v.kept, w.ends, w.kept)

  pub wrote_title : {o p q r : List ℕ} {i j k l : ℕ} → Wrote o i text p j → Wrote p j (decimal n) q k → Wrote q k (10 ∷ []) r l →
      Wrote o i (titled text n) r l
  unfolding titled
  wrote_title u v w = wrote_both (wrote_both u v) w

-- lines, one part of the words after the other
lines_last : (es : List (List ℕ)) (e : List ℕ) → lines (es ++ (e ∷ [])) ≡ lines es ++ line e
unfolding lines flat_map
lines_last [] e = append-nil (line e)
lines_last (f ∷ es) e = ap (line f ++◌) (lines_last es e) ∙ sym (append_assoc (line f) (lines es) (line e))

-- a part lies inside the words
pub part_inside : (width count i from l : ℕ) → i < count → width * count ≤ l → from ≡ width * i → from + width ≤ l
part_inside width count i from l h r e =
    omega (arith, r, e, mul-suc width i, mul-le-mul_left {m = suc i} {n = count} width (omega arith))

-- the next one begins where it ends
pub next_part : (width i from : ℕ) → from ≡ width * i → from + width ≡ width * (i + 1)
next_part width i from e = rw (add-one i, mul-suc width i, e) refl

module _ (width : ℕ) (words : List ℕ) where
  abbrev pub part : ℕ → List ℕ
  part i = take width (drop (width * i) words)

  parts_last : (i : ℕ) → lines (parts width (suc i) words) ≡ lines (parts width i words) ++ line (part i)
  unfolding parts tabulate
  parts_last i = lines_last (parts width i words) (part i)

  pub part_long : (i : ℕ) → length (lines (parts width (suc i) words)) ≡ length (lines (parts width i words)) + length (line (part i))
  part_long i = ap length (parts_last i) ∙ length-append (lines (parts width i words)) (line (part i))

  parts_longer : (i k : ℕ) → i < k → length (lines (parts width i words)) + length (line (part i)) ≤ length (lines (parts width k words))
  parts_longer i zero h = absurd (omega arith)
  parts_longer i (suc k) h = ⊎_elim (λ q. omega (arith, parts_longer i k q, part_long k)) (λ (q : i ≡ k). rw q (omega (arith, part_long k)))
      (below i k h)
    where
      below : (i k : ℕ) → i < suc k → (i < k) ⊎ (i ≡ k)
      below i k h = dite (dec_lt i k) (λ q. inl q) (λ q. inr (omega (arith, q)))

  this_part : (i from : ℕ) → from ≡ width * i → take (from + width - from) (drop from words) ≡ part i
  this_part i from e = let x : from + width - from ≡ width = omega arith in rw (x, e) refl

  -- there is room for its line
  pub line_fits : (count i from : ℕ) {o p : List ℕ} {place j : ℕ} → i < count → place + length (lines (parts width count words)) ≤ length o →
      from ≡ width * i → Wrote o place (lines (parts width i words)) p j → j + length (line (take (from + width - from) (drop from words))) ≤ length p
  line_fits count i from h r e w = rw (this_part i from e) (omega (arith, parts_longer i count h, w.ends, w.kept))

  pub no_lines : (o : List ℕ) (place : ℕ) → Wrote o place (lines (parts width 0 words)) o place
  unfolding lines flat_map parts tabulate
  no_lines o place = wrote_nothing o place

  pub wrote_part : (i from : ℕ) {o p q : List ℕ} {place j k : ℕ} → from ≡ width * i → Wrote o place (lines (parts width i words)) p j →
      Wrote p j (line (take (from + width - from) (drop from words))) q k → Wrote o place (lines (parts width (i + 1) words)) q k
  wrote_part i from e v w = rw (add-one i, parts_last i) (wrote_both v (rw (this_part i from e) at w))

  pub wrote_parts : (i count : ℕ) {o p : List ℕ} {place j : ℕ} → i ≤ count → count ≤ i → Wrote o place (lines (parts width i words)) p j →
      Wrote o place (lines (parts width count words)) p j
  wrote_parts i count g h w = let e : count ≡ i = omega arith in rw e w
