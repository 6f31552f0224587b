-- A number in decimal is the one list of digits that is read as the number and has no zero in front. By induction on the digits.
-- Assumes nothing.
use Prim.Native.Nat.{ℕ, zero, suc, ◌+◌, ◌-◌, ◌*◌, ◌/◌, ◌%◌, ◌≤◌, ◌<◌}
use mathlib.Core.List.{List, [], ◌∷◌, ◌++◌}
use mathlib.Core.Logic.{dite}
use mathlib.Core.Path.{◌≡◌, refl, sym, ap, ◌∙◌}
use native.Mathlib.Decide.{dec_lt}
use native.Mathlib.Omega.{arith}
use lib.ListN.{length, get_or, length-append, get_or-append}
use Rattle.text.specs.Line.{decimal}
use Rattle.text.proofs.DecimalLaws.{last_digit, decimal_one, decimal_more}

-- digits behind a number, and digits alone
unfoldable pub read_behind : ℕ → List ℕ → ℕ
read_behind n [] = n
read_behind n (d ∷ ds) = read_behind (10 * n + (d - 48)) ds

abbrev pub read_number : List ℕ → ℕ
read_number ds = read_behind 0 ds

-- bytes that are digits
pub data Digits : List ℕ → Type 0 where
  none : Digits []
  more : {d : ℕ} {ds : List ℕ} → 48 ≤ d → d ≤ 57 → Digits ds → Digits (d ∷ ds)

-- one digit or more, and no zero in front of others
pub record IsNumeral (ds : List ℕ) : Type 0 where
  pub there : 0 < length ds
  pub digits : Digits ds
  pub no_zero : 1 < length ds → 48 < get_or ds 0 0

read_last : (n d : ℕ) (ds : List ℕ) → read_behind n (ds ++ (d ∷ [])) ≡ 10 * read_behind n ds + (d - 48)
unfolding read_behind
read_last n d [] = refl
read_last n d (e ∷ ds) = read_last (10 * n + (e - 48)) d ds

-- a number in decimal is read as the number
pub decimal_reads : (n : ℕ) → read_number (decimal n) ≡ n
unfolding read_behind
decimal_reads n = within (suc n) n (omega arith)
  where
    one : (n : ℕ) → n < 10 → read_number (decimal n) ≡ n
    one n q = ap read_number (decimal_one n q) ∙ read_last 0 (48 + n % 10) [] ∙ omega arith

    more : (n : ℕ) → 10 ≤ n → read_number (decimal (n / 10)) ≡ n / 10 → read_number (decimal n) ≡ n
    more n q e =
        ap read_number (decimal_more n q) ∙ read_last 0 (48 + n % 10) (decimal (n / 10)) ∙ omega (arith, e)

    within : (k n : ℕ) → n < k → read_number (decimal n) ≡ n
    within zero n h = absurd (omega arith)
    within (suc k) n h = dite (dec_lt n 10) (λ q. one n q) (λ q. more n (omega (arith, q)) (within k (n / 10) (omega (arith, q))))

digits_last : {ds : List ℕ} {d : ℕ} → Digits ds → 48 ≤ d → d ≤ 57 → Digits (ds ++ (d ∷ []))
digits_last none g h = more g h none
digits_last (more a b s) g h = more a b (digits_last s g h)

-- a number in decimal is a numeral; only that of 0 begins with a zero
record Spelt (n : ℕ) (ds : List ℕ) : Type 0 where
  numeral : IsNumeral ds
  first : 0 < n → 48 < get_or ds 0 0

spelt_one : (n : ℕ) → n < 10 → Spelt n (decimal n)
spelt_one n q =
    rw (decimal_one n q)
    record {
      numeral = record {
        there = omega arith;
        digits = more {d = 48 + n % 10} (omega arith) (omega arith) none;
        no_zero =
            λ h. absurd (omega (arith, h));
      };
      first = λ h. omega arith;
    }

spelt_more : (n : ℕ) → 10 ≤ n → Spelt (n / 10) (decimal (n / 10)) → Spelt n (decimal n)
spelt_more n q s =
    let m = s.numeral in
    let f : 48 < get_or (decimal (n / 10) ++ last_digit n) 0 0 =
    rw (get_or-append (decimal (n / 10)) (last_digit n) 0 0 m.there) (s.first (omega arith)) in
    rw (decimal_more n q)
    record {
      numeral =
          record {
            there = omega (arith, length-append (decimal (n / 10)) (last_digit n));
            digits = digits_last m.digits (omega arith) (omega arith);
            no_zero = λ h. f;
          };
      first = λ h. f;
    }

pub decimal_numeral : (n : ℕ) → IsNumeral (decimal n)
decimal_numeral n = (within (suc n) n (omega arith)).numeral
  where
    within : (k n : ℕ) → n < k → Spelt n (decimal n)
    within zero n h = absurd (omega arith)
    within (suc k) n h =
        dite (dec_lt n 10) (λ q. spelt_one n q) (λ q. spelt_more n (omega (arith, q)) (within k (n / 10) (omega (arith, q))))

-- digits, by the last of them
data Ended : List ℕ → Type 0 where
  ended : (ds : List ℕ) (d : ℕ) → Digits ds → 48 ≤ d → d ≤ 57 → Ended (ds ++ (d ∷ []))

end_of : (ds : List ℕ) → 0 < length ds → Digits ds → Ended ds
end_of [] h s = absurd (omega arith)
end_of (d ∷ []) h (more a b s) = ended [] d none a b
end_of (d ∷ e ∷ ds) h (more a b s) = behind (end_of (e ∷ ds) (omega arith) s)
  where
    behind : {es : List ℕ} → Ended es → Ended (d ∷ es)
    behind (ended es f t g h) = ended (d ∷ es) f (more a b t) g h

-- a numeral of one digit, and one of more
one_only : (d : ℕ) → 48 ≤ d → d ≤ 57 → decimal (read_number (d ∷ [])) ≡ d ∷ []
unfolding read_behind
one_only d a b =
    let r : ℕ = 10 * 0 + (d - 48) in
    let e : 48 + r % 10 ≡ d = omega arith in
    decimal_one r (omega arith) ∙ ap (◌∷ []) e

module _ (es : List ℕ) (d : ℕ) (low : 48 ≤ d) (high : d ≤ 57) where
  begins : 0 < length es → IsNumeral (es ++ (d ∷ [])) → 48 < get_or es 0 0
  begins h m =
      rw (get_or-append es (d ∷ []) 0 0 h) at (m.no_zero (omega (arith, length-append es (d ∷ []))))

  before_last : 0 < length es → Digits es → IsNumeral (es ++ (d ∷ [])) → IsNumeral es
  before_last h s m = record { there = h; digits = s; no_zero = λ q. begins h m }

  not_nought : decimal (read_number es) ≡ es → 48 < get_or es 0 0 → 0 < read_number es
  not_nought e f =
      dite (dec_lt 0 (read_number es))
      (λ q. q)
      (λ q. let z : read_number es ≡ 0 = omega (arith, q) in
      absurd (omega (arith, f, ap (λ (l : List ℕ). get_or l 0 0) (sym (decimal_one 0 (omega arith)) ∙ ap decimal (sym z) ∙ e))))

  more_only : decimal (read_number es) ≡ es → 48 < get_or es 0 0 → decimal (read_number (es ++ (d ∷ []))) ≡ es ++ (d ∷ [])
  more_only e f =
      let r = read_number (es ++ (d ∷ [])) in
      let v = read_last 0 d es in
      let n = not_nought e f in
      let t : r / 10 ≡ read_number es = omega arith in
      let l : 48 + r % 10 ≡ d = omega arith in
      decimal_more r (omega arith) ∙ rw (t, e, l) refl

only_step : (k : ℕ) → ((es : List ℕ) → length es < k → IsNumeral es → decimal (read_number es) ≡ es) → {ds : List ℕ} → Ended ds → length ds < suc k →
    IsNumeral ds → decimal (read_number ds) ≡ ds
only_step k only (ended [] d s a b) h m = one_only d a b
only_step k only (ended (e ∷ es) d s a b) h m =
    let p : 0 < length (e ∷ es) = omega arith in
    more_only (e ∷ es) d a b (only (e ∷ es) (omega (arith, h, length-append (e ∷ es) (d ∷ []))) (before_last (e ∷ es) d a b p s m))
    (begins (e ∷ es) d a b p m)

-- a numeral is the number that it is read as, in decimal
pub decimal_only : (ds : List ℕ) → IsNumeral ds → decimal (read_number ds) ≡ ds
decimal_only ds m = within (suc (length ds)) ds (omega arith) m
  where
    within : (k : ℕ) (ds : List ℕ) → length ds < k → IsNumeral ds → decimal (read_number ds) ≡ ds
    within zero ds h m = absurd (omega arith)
    within (suc k) ds h m = only_step k (λ es q n. within k es q n) (end_of ds m.there m.digits) h m
