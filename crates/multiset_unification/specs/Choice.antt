-- Document 01's choices, by their digits.
use Rattle.std.specs.Prelude.{ℕ, suc, ◌+◌, ◌-◌, ◌<◌, ◌≤◌, cond, List, [], ◌∷◌, ◌↔◌, ◌≡◌, eqb, leb, length, drop}
use Rattle.table.specs.Layout.{word}

-- The digits of a choice. "Let there be n left and m right terms", and k left and l right labels.
pub record IsChoice (n m k l : ℕ) (ds : List ℕ) : Type 0 where
  -- "A choice has a digit for each left term"; "Then it has a digit for each right term"
  pub long : length ds ≡ n + m
  -- "1 to m pairs it with that right term, m + q puts it in right label q, counted from 1 in table order"
  pub left_digits : (i : ℕ) → i < n → (0 < word ds i) × (word ds i ≤ m + l)
  -- "p for left label p"
  pub right_digits : (j : ℕ) → j < m → word ds (n + j) ≤ k
  -- "No right term is paired twice."
  pub once : (i i' : ℕ) → i < i' → i' < n → word ds i ≡ word ds i' → m < word ds i
  -- "0 if paired"; "Each right term without a partner has a digit above 0."
  pub paired : (j : ℕ) → j < m → word ds (n + j) ≡ 0 ↔ ((i : ℕ) × (i < n) × (word ds i ≡ suc j))

-- The pairs of a choice ds of the terms ls and rs of two sides: "1 to m pairs it with that right term". No left digit of a choice is 0.
unfoldable pub pairs : List ℕ → List ℕ → List ℕ → List (ℕ × ℕ)
pairs [] rs ds = []
pairs (a ∷ ls) rs [] = []
pairs (a ∷ ls) rs (d ∷ ds) = cond (leb d (length rs)) ((a, word rs (d - 1)) ∷ pairs ls rs ds) (pairs ls rs ds)

-- Of a list of terms, those whose digit is d.
unfoldable pub with_digit : ℕ → List ℕ → List ℕ → List ℕ
with_digit d [] ds = []
with_digit d (a ∷ ts) [] = []
with_digit d (a ∷ ts) (e ∷ ds) = cond (eqb e d) (a ∷ with_digit d ts ds) (with_digit d ts ds)

-- What a choice puts in the right label at place q, from 0: "m + q puts it in right label q, counted from 1".
unfoldable pub in_right : List ℕ → List ℕ → List ℕ → ℕ → List ℕ
in_right ls rs ds q = with_digit (length rs + suc q) ls ds

-- What it puts in the left label at place p, from 0: "p for left label p".
unfoldable pub in_left : List ℕ → List ℕ → List ℕ → ℕ → List ℕ
in_left ls rs ds p = with_digit (suc p) rs (drop (length ls) ds)

-- "rising order of their digits, compared from the first"
pub data Before : List ℕ → List ℕ → Type 0 where
  here : {d e : ℕ} {ds es : List ℕ} → d < e → Before (d ∷ ds) (e ∷ es)
  later : {d : ℕ} {ds es : List ℕ} → Before ds es → Before (d ∷ ds) (d ∷ es)
