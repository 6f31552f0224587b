-- What is printed for a table, by the answer of `listing::list` and the lent words: the entries lie in them one after the other, each
-- of the same number of words. Assumes nothing.
use Prim.Native.Nat.{ℕ, ◌-◌, ◌*◌, ◌≤◌, ◌<◌}
use mathlib.Core.Bool.{true, false, cond}
use mathlib.Core.List.{List, ◌++◌, append-nil, flatten, flat_map}
use mathlib.Core.Logic.{dite}
use mathlib.Core.Path.{◌≡◌, refl, sym, ap, ◌∙◌}
use native.Mathlib.Decide.{dec_lt}
use native.Mathlib.Nat.{mul_comm, sub-zero}
use native.Mathlib.Omega.{arith}
use borrow.Author.Tests.{eq-eqb, ne_eqb, lt-ltb, ltb-false}
use lib.Dec.{eqb}
use lib.ListN.{length, take, length-take}
use lib.Seq.{take_all}
use Rattle.table.specs.declared.Refusal.{Refusal}
use Rattle.table.specs.Answer.{number_of}
use Rattle.table.specs.Refusal.{conditions, first_held, refusal}
use Rattle.table.proofs.BoolLaws.{or_false_left}
use Rattle.table.proofs.AnswerLaws.{number_not}
use Rattle.unification.proofs.ListLaws.{length_none}
use Rattle.multiset_unification.specs.Problem.{problem_of}
use Rattle.multiset_unification.specs.Answer.{Told, entries_left, listed, lent_after, entry_words, entries_in}
use Rattle.multiset_unification.specs.Computed.Listing.{complete_listing}
use Rattle.multiset_unification.proofs.AnswerLaws.{finished_exactly, full_exactly, entries_left_lem, entries_fit, lent_long}
use Rattle.multiset_unification.proofs.LentLaws.{one_at_most, entries_lie, left_words}
use Rattle.multiset_unification.proofs.TableLaws.{held_posed, table_refusals}
use Rattle.text.specs.Line.{lines, titled}
use Rattle.list.specs.Printed.{entries_text, full_text, refused_text, title, printed_table, printed}
use Rattle.text.specs.Input.{wrong_bytes, words_of_bytes}
use Rattle.text.specs.Code.Writing.{Wrote, parts}
use Rattle.list.specs.Code.Printing.{Printable}

module _ (t lent words : List ℕ) (k width : ℕ) (long : length lent ≡ 16384)
    (left : words ≡ lent_after (conditions t) (complete_listing (problem_of t)) lent)
    (wide : width ≡ cond (eqb (refusal t) 0) (entry_words (problem_of t)) 0) where
  -- What is told of so many lent words, and the entries that are left.
  abbrev answered : Told
  answered = listed (conditions t) (complete_listing (problem_of t)) (length lent)

  abbrev entries_there : ℕ → List (List ℕ)
  entries_there = entries_left (conditions t) (complete_listing (problem_of t))

  module _ (z : first_held (conditions t) ≡ 0) (counted : k ≡ answered.entries) where
    width_right : width ≡ entry_words (problem_of t)
    unfolding refusal
    width_right = wide ∙ rw (eq-eqb (refusal t) 0 z) refl

    -- the entries that are left are so many
    count_right : length (take answered.entries (complete_listing (problem_of t))) ≡ k
    unfolding listed
    count_right = ap length (sym (entries_left_lem (conditions t) (complete_listing (problem_of t)) (length lent))) ∙ sym counted

    -- as many words as they have
    words_right : width * k ≡ length (flatten (entries_there (length lent)))
    words_right =
        rw (width_right, counted)
        (mul_comm (entry_words (problem_of t)) answered.entries ∙ sym (left_words (problem_of t) (held_posed t z) (conditions t) (length lent)))

    pub printable : Printable width k words
    printable =
        record {
          lent = ap length left ∙ lent_long (conditions t) (complete_listing (problem_of t)) lent ∙ long;
          inside = omega (arith, words_right, entries_fit (conditions t) (complete_listing (problem_of t)) (length lent), long);
          one =
              λ n. omega (
                arith,
                one_at_most (problem_of t) (held_posed t z) (sym width_right ∙ n),
                count_right,
                length-take answered.entries (complete_listing (problem_of t)),
              );
        }

    -- they lie in the words
    lie : parts width k words ≡ entries_there 16384
    unfolding parts entries_in
    lie = rw (width_right, counted, left) (entries_lie (problem_of t) (held_posed t z) (conditions t) lent ∙ ap entries_there long)

  finished_held : record { answer = 0; entries = k } ≡ answered → first_held (conditions t) ≡ 0
  finished_held e =
      ((finished_exactly (conditions t) (complete_listing (problem_of t)) (length lent) (table_refusals t)).0
      (ap (λ (w : Told). w.answer) (sym e))).0

  full_held : record { answer = 10; entries = k } ≡ answered → first_held (conditions t) ≡ 0
  full_held e =
      ((full_exactly (conditions t) (complete_listing (problem_of t)) (length lent) (table_refusals t)).0 (ap (λ (w : Told). w.answer) (sym e))).0

  -- a finished listing
  pub finished_printable : record { answer = 0; entries = k } ≡ answered → Printable width k words
  finished_printable e = printable (finished_held e) (ap (λ (w : Told). w.entries) e)

  pub finished_printed : {o p : List ℕ} {j : ℕ} → record { answer = 0; entries = k } ≡ answered →
      Wrote o 0 (titled entries_text k ++ lines (parts width k words)) p j → Wrote o 0 (printed_table t) p j
  unfolding printed_table title
  finished_printed e w =
      rw (← long, ← e) (rw (lie (finished_held e) (ap (λ (w : Told). w.entries) e), ← long) at w)

  -- a full one
  pub full_printable : record { answer = 10; entries = k } ≡ answered → Printable width k words
  full_printable e = printable (full_held e) (ap (λ (w : Told). w.entries) e)

  pub full_printed : {o p : List ℕ} {j : ℕ} → record { answer = 10; entries = k } ≡ answered →
      Wrote o 0 (titled full_text k ++ lines (parts width k words)) p j → Wrote o 0 (printed_table t) p j
  unfolding printed_table title
  full_printed e w =
      rw (← long, ← e) (rw (lie (full_held e) (ap (λ (w : Told). w.entries) e), ← long) at w)

-- a refused table
pub refused_printed : (t : List ℕ) (lent : ℕ) (r : Refusal) (n : ℕ) {o p : List ℕ} {j : ℕ} → lent ≡ 16384 →
    record { answer = number_of r; entries = 0 } ≡ listed (conditions t) (complete_listing (problem_of t)) lent → n ≡ number_of r →
    Wrote o 0 (titled refused_text n) p j → Wrote o 0 (printed_table t) p j
unfolding printed_table title listed lines flat_map
refused_printed t lent r n long e f w =
    let z = length_none (entries_left (conditions t) (complete_listing (problem_of t)) lent) (sym (ap (λ (w : Told). w.entries) e)) in
    rw (← long, z, ← ap (λ (w : Told). w.answer) e, ne_eqb (number_of r) 0 (number_not 0 refl r), ne_eqb (number_of r) 10 (number_not 10 refl r), ← f)
    (rw (append-nil (titled refused_text n)) w)

-- what is written from the first place on is all that is printed
pub wrote_all : {o s p : List ℕ} {j : ℕ} → Wrote o 0 s p j → (j ≤ length p) × (take j p ≡ s)
wrote_all {s = s} {p = p} {j = j} w = (omega (arith, w.ends, ap length w.written, length-take j p), w.written)

-- bytes that are refused, and bytes that are words
pub wrong_printed : (bs : List ℕ) {o p : List ℕ} {j : ℕ} → wrong_bytes (length bs) ≡ true → Wrote o 0 (titled refused_text 11) p j → (j ≤ length p) ×
    (take j p ≡ printed bs)
unfolding printed
wrong_printed bs e w = rw e (wrote_all w)

pub right_printed : (bs ws : List ℕ) (n : ℕ) {o p : List ℕ} {j : ℕ} → wrong_bytes (length bs) ≡ false → take n ws ≡ words_of_bytes bs →
    Wrote o 0 (printed_table (take (n - 0) ws)) p j → (j ≤ length p) × (take j p ≡ printed bs)
unfolding printed
right_printed bs ws n e f w = rw (e, ← f) (wrote_all (rw (sub-zero n) at w))

pub right_bytes : (n : ℕ) → wrong_bytes n ≡ false → n ≤ 6288
right_bytes n e = ltb-false 6288 n (or_false_left _ _ e)

-- 6,289 bytes of an input say what is printed for it, so the program reads no more
long_printed : (bs : List ℕ) → 6288 < length bs → printed bs ≡ titled refused_text 11
unfolding printed
long_printed bs h = rw (lt-ltb 6288 (length bs) h) refl

pub enough_read : (bs : List ℕ) → printed (take 6289 bs) ≡ printed bs
enough_read bs =
    dite (dec_lt 6289 (length bs))
    (λ q. long_printed (take 6289 bs) (omega (arith, q, length-take 6289 bs)) ∙ sym (long_printed bs (omega (arith, q))))
    (λ q. ap printed (take_all 6289 bs (omega (arith, q))))
