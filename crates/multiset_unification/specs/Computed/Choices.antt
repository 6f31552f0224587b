-- The choices in rising order (`choices_are`, `choices_rise`, `choices_one`).
use Rattle.std.specs.Prelude.{ℕ, zero, suc, ◌+◌, Bool, false, cond, ◌&&◌, ◌||◌, List, [], ◌∷◌, ◌++◌, map, eqb, leb}

-- A number is in a list.
unfoldable pub among : ℕ → List ℕ → Bool
among d [] = false
among d (e ∷ es) = eqb d e || among d es

-- Each of k digits from d on, followed by each string that f has for it.
unfoldable pub branch : ℕ → ℕ → (ℕ → List (List ℕ)) → List (List ℕ)
branch d zero f = []
branch d (suc k) f = map (d ∷◌) (f d) ++ branch (suc d) k f

-- The digits of the right terms from place j on, r of them, where the left digits are in used: 0 if paired, otherwise 1 to k.
unfoldable pub rights : ℕ → List ℕ → ℕ → ℕ → List (List ℕ)
rights k used j zero = [] ∷ []
rights k used j (suc r) =
    cond (among (suc j) used)
    (branch 0 1 (λ d. rights k used (suc j) r))
    (branch 1 k (λ d. rights k used (suc j) r))

-- The digits of n more left terms, after those in used, and then of all m right terms.
unfoldable pub lefts : ℕ → ℕ → ℕ → List ℕ → ℕ → List (List ℕ)
lefts m k l used zero = rights k used 0 m
lefts m k l used (suc n) =
    branch 1 (m + l) (λ d. cond (leb d m && among d used) [] (lefts m k l (d ∷ used) n))

-- All choices.
unfoldable pub choices : ℕ → ℕ → ℕ → ℕ → List (List ℕ)
choices n m k l = lefts m k l [] n
