-- How many bytes are printed at most: a word of 32 bits has ten digits at most. By induction on digits, words and lines.
-- Assumes nothing.
use Prim.Native.Nat.{ℕ, zero, suc, ◌+◌, ◌*◌, ◌/◌, ◌^◌, ◌≤◌, ◌<◌}
use mathlib.Core.List.{List, [], ◌∷◌, flat_map}
use mathlib.Core.Logic.{dite}
use mathlib.Core.Path.{◌≡◌, refl, ap, ◌∙◌}
use native.Mathlib.Decide.{dec_lt}
use native.Mathlib.Nat.{mul-suc, pow-suc, mul-le-mul_right}
use native.Mathlib.Omega.{arith}
use lib.ListN.{length, get_or, take, drop, length-append, length-drop}
use lib.Seq.{length-take-le}
use Rattle.unification.specs.Node.{tabulate}
use Rattle.text.specs.Line.{decimal, after_word, line, lines, titled}
use Rattle.text.specs.Code.Writing.{Wrote, parts}
use Rattle.list.specs.Code.Printing.{most_printed, Printable}
use Rattle.text.proofs.DecimalLaws.{last_digit, decimal_one, decimal_more}
use Rattle.text.proofs.LineLaws.{titled_long, part, part_long}

-- a number below a power of ten has no more digits than its exponent
decimal_short : (k n : ℕ) → n < 10 ^ suc k → length (decimal n) ≤ suc k
decimal_short zero n h = omega (arith, ap length (decimal_one n (omega (arith, h))))
decimal_short (suc k) n h =
    dite (dec_lt n 10)
    (λ q. omega (arith, ap length (decimal_one n q)))
    (λ q. omega (
      arith,
      ap length (decimal_more n (omega (arith, q))),
      length-append (decimal (n / 10)) (last_digit n),
      decimal_short k (n / 10) (omega (arith, h, pow-suc 10 (suc k))),
    ))

-- a word of 32 bits has ten at most
pub word_short : (n : ℕ) → n < 4294967296 → length (decimal n) ≤ 10
word_short n h = decimal_short 9 n (omega (arith, h))

-- words of 32 bits
data Small : List ℕ → Type 0 where
  none : Small []
  more : {w : ℕ} {ws : List ℕ} → w < 4294967296 → Small ws → Small (w ∷ ws)

small : (ws : List ℕ) → ((i : ℕ) → i < length ws → get_or ws i 0 < 4294967296) → Small ws
small [] h = none
small (w ∷ ws) h = more (h 0 (omega arith)) (small ws (λ i q. h (suc i) (omega arith)))

small_take : (k : ℕ) {ws : List ℕ} → Small ws → Small (take k ws)
small_take zero s = none
small_take (suc k) none = none
small_take (suc k) (more h s) = more h (small_take k s)

small_drop : (k : ℕ) {ws : List ℕ} → Small ws → Small (drop k ws)
small_drop zero s = s
small_drop (suc k) none = none
small_drop (suc k) (more h s) = small_drop k s

-- a word takes 11 bytes at most, with the blank or the line feed after it
rest_short : {ws : List ℕ} → Small ws → length (after_word ws) ≤ 11 * length ws + 1
unfolding after_word
rest_short none = omega arith
rest_short (more {w} {ws} h s) =
    omega (arith, word_short w h, rest_short s, length-append (decimal w) (after_word ws))

line_short : {ws : List ℕ} → Small ws → 0 < length ws → length (line ws) ≤ 11 * length ws
unfolding line
line_short none q = absurd (omega arith)
line_short (more {w} {ws} h s) q =
    omega (arith, word_short w h, rest_short s, length-append (decimal w) (after_word ws))

module _ (words : List ℕ) (s : Small words) where
  -- lines of words, as many as lie inside
  lines_short : (width i : ℕ) → 0 < width → width * i ≤ length words → length (lines (parts width i words)) ≤ 11 * (width * i)
  unfolding lines flat_map parts tabulate
  lines_short width zero q h = omega arith
  lines_short width (suc i) q h =
      let p : length (part width words i) ≡ width =
      length-take-le width (drop (width * i) words) (omega (arith, h, mul-suc width i, length-drop (width * i) words)) in
      omega (
        arith,
        part_long width words i,
        mul-suc width i,
        lines_short width i q (omega (arith, h, mul-suc width i)),
        line_short (small_take width (small_drop (width * i) s)) (omega (arith, p, q)),
        p,
      )

  -- lines without words
  lines_empty : (i : ℕ) → length (lines (parts 0 i words)) ≡ i
  unfolding lines flat_map parts tabulate line
  lines_empty zero = refl
  lines_empty (suc i) = part_long 0 words i ∙ omega (arith, lines_empty i)

  entries_short : (width count : ℕ) → Printable width count words → length (lines (parts width count words)) ≤ 180224
  entries_short zero count p = omega (arith, lines_empty count, p.one refl)
  entries_short (suc w) count p = omega (arith, lines_short (suc w) count (omega arith) (omega (arith, p.inside, p.lent)), p.inside)

-- there are no more entries than words
pub few_entries : (width count : ℕ) (words : List ℕ) → Printable width count words → count ≤ 16384
few_entries zero count words p = omega (arith, p.one refl)
few_entries (suc w) count words p =
    omega (arith, p.inside, mul-le-mul_right {m = 1} {n = suc w} count (omega arith))

-- a title has 19 bytes at most
pub title_short : (text : List ℕ) (n : ℕ) → length text ≤ 8 → n < 4294967296 → length (titled text n) ≤ 19
title_short text n h q = omega (arith, titled_long text n, word_short n q)

-- so there is room for a title, and for the lines behind it
pub title_fits : (text : List ℕ) (n l : ℕ) → length text ≤ 8 → n < 4294967296 → most_printed ≤ l → 0 + length (titled text n) ≤ l
title_fits text n l h q r = omega (arith, title_short text n h q)

pub lines_fit : (text words : List ℕ) (width count : ℕ) {o p : List ℕ} {j : ℕ} → length text ≤ 8 → Printable width count words →
    ((i : ℕ) → i < length words → get_or words i 0 < 4294967296) → most_printed ≤ length o → Wrote o 0 (titled text count) p j →
    (width * count ≤ length words) × (j + length (lines (parts width count words)) ≤ length p)
lines_fit text words width count h p f r w = (
  omega (arith, p.inside, p.lent),
  omega (
    arith,
    r,
    w.ends,
    w.kept,
    title_short text count h (omega (arith, few_entries width count words p)),
    entries_short words (small words f) width count p,
  ),
)
