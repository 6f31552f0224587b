-- Multisets of terms: lists, of which only matters how often each term occurs.
use Rattle.std.specs.Prelude.{ℕ, ◌+◌, cond, List, [], ◌∷◌, ◌≡◌}
use Rattle.terms.specs.Term.{Term, equal}

-- How often a term occurs.
unfoldable pub occurrences : Term → List Term → ℕ
occurrences t [] = 0
occurrences t (u ∷ us) = cond (equal t u) 1 0 + occurrences t us

-- "equal if every term occurs equally often in both"
abbrev pub Same : List Term → List Term → Type 0
Same us vs = (t : Term) → occurrences t us ≡ occurrences t vs
