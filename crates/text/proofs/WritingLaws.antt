-- Text that is written behind text: one byte, nothing, and one text after another.
-- Each follows from how `take` meets `◌++◌`. Assumes nothing.
use Prim.Native.Nat.{ℕ, ◌+◌, ◌/◌, ◌≤◌, ◌<◌}
use mathlib.Core.List.{List, [], ◌∷◌, ◌++◌, append_assoc, append-nil}
use mathlib.Core.Path.{◌≡◌, refl, sym, ap, ◌∙◌}
use native.Mathlib.Omega.{arith}
use native.Mathlib.Numerals.{add-one}
use lib.ListN.{length, take, set, length-append, length-set}
use lib.Seq.{take-suc-set}
use Rattle.text.specs.Line.{decimal}
use Rattle.text.specs.Code.Writing.{Wrote, Writing}
use Rattle.text.proofs.DecimalLaws.{last_digit, decimal_one, decimal_more}

-- a byte that is stored
pub wrote_byte : (out : List ℕ) (i b : ℕ) → i < length out → Wrote out i (b ∷ []) (set out i b) (i + 1)
wrote_byte out i b h =
    record {
      ends = refl;
      kept = length-set out i b;
      written = rw (add-one i) (take-suc-set out i b h);
    }

-- nothing, where the loop begins
pub wrote_nothing : (out : List ℕ) (i : ℕ) → Wrote out i [] out i
wrote_nothing out i = record { ends = omega arith; kept = refl; written = sym (append-nil (take i out)) }

-- one text, and then another behind it
pub wrote_both : {o p q s t : List ℕ} {i j k : ℕ} → Wrote o i s p j → Wrote p j t q k → Wrote o i (s ++ t) q k
wrote_both {o} {p} {q} {s} {t} {i} {j} {k} v w =
    record {
      ends = omega (arith, v.ends, w.ends, length-append s t);
      kept = w.kept ∙ v.kept;
      written = w.written ∙ ap (◌++ t) v.written ∙ append_assoc (take i o) s t;
    }

-- a text is written piece by piece: so the loop begins, goes on where a piece is left, and ends where nothing is
module _ {o : List ℕ} {i : ℕ} {whole : List ℕ} where
  pub writing_begins : Writing o i whole o i whole
  writing_begins = record { text = []; wrote = wrote_nothing o i; left = refl }

  pub piece_fits : {p left : List ℕ} {j : ℕ} (s rest : List ℕ) → Writing o i whole p j left → left ≡ s ++ rest → i + length whole ≤ length o →
      j + length s ≤ length p
  piece_fits {left = left} s rest v e h =
      let w = v.wrote in
      omega (arith, w.ends, w.kept, ap length v.left, ap length e, length-append v.text left, length-append s rest)

  pub writing_goes_on : {p q left s rest : List ℕ} {j k : ℕ} → Writing o i whole p j left → left ≡ s ++ rest → Wrote p j s q k →
      Writing o i whole q k rest
  writing_goes_on {s = s} {rest = rest} v e w =
      record {
        text = v.text ++ s;
        wrote = wrote_both v.wrote w;
        left = append_assoc v.text s rest ∙ ap (v.text ++◌) (sym e) ∙ v.left;
      }

  pub writing_ends : {p left : List ℕ} {j : ℕ} → Writing o i whole p j left → left ≡ [] → Wrote o i whole p j
  writing_ends v e =
      let x = sym (append-nil v.text) ∙ ap (v.text ++◌) (sym e) ∙ v.left in
      rw x at v.wrote

-- a number below ten is its last digit
pub one_digit_fits : (n i l : ℕ) → n < 10 → i + length (decimal n) ≤ l → i < l
one_digit_fits n i l h r = omega (arith, ap length (decimal_one n h))

pub wrote_one_digit : (n : ℕ) {o p : List ℕ} {i j : ℕ} → n < 10 → Wrote o i (last_digit n) p j → Wrote o i (decimal n) p j
wrote_one_digit n h w = rw (decimal_one n h) w

module _ (n : ℕ) where
  more_long : 10 ≤ n → length (decimal n) ≡ length (decimal (n / 10)) + 1
  more_long h = ap length (decimal_more n h) ∙ length-append (decimal (n / 10)) (last_digit n)

  -- any other is a tenth of it, and its last digit
  pub first_digits_fit : (i l : ℕ) → 10 ≤ n → i + length (decimal n) ≤ l → i + length (decimal (n / 10)) ≤ l
  first_digits_fit i l h r = omega (arith, more_long h)

  pub last_digit_fits : {o p : List ℕ} {i j : ℕ} → 10 ≤ n → i + length (decimal n) ≤ length o → Wrote o i (decimal (n / 10)) p j → j < length p
  last_digit_fits h r w = omega (arith, more_long h, w.ends, w.kept)

  pub wrote_last_digit : {o p q : List ℕ} {i j k : ℕ} → 10 ≤ n → Wrote o i (decimal (n / 10)) p j → Wrote p j (last_digit n) q k →
      Wrote o i (decimal n) q k
  wrote_last_digit h v w = rw (decimal_more n h) (wrote_both v w)
