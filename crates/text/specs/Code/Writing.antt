-- What a function that writes text into lent bytes ensures.
use Rattle.std.specs.Prelude.{ℕ, ◌+◌, ◌*◌, List, ◌++◌, ◌≡◌, length, take, drop}
use Rattle.unification.specs.Node.{tabulate}

-- The text is written behind the first bytes of a list, and `next` is the place after it.
pub record Wrote (before : List ℕ) (place : ℕ) (text : List ℕ) (after : List ℕ) (next : ℕ) : Type 0 where
  pub ends : next ≡ place + length text
  pub kept : length after ≡ length before
  pub written : take next after ≡ take place before ++ text

-- All but the rest of a text is written behind the first bytes of a list.
pub record Writing (before : List ℕ) (place : ℕ) (whole : List ℕ) (after : List ℕ) (next : ℕ) (rest : List ℕ) : Type 0 where
  pub text : List ℕ
  pub wrote : Wrote before place text after next
  pub left : text ++ rest ≡ whole

-- The first parts of words, each of so many words, one after the other.
unfoldable pub parts : ℕ → ℕ → List ℕ → List (List ℕ)
parts width count words = tabulate count (λ i. take width (drop (width * i) words))
