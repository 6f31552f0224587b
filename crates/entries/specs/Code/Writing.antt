-- Entries as they are written into the lent words, one behind the other.
use Rattle.std.specs.Prelude.{ℕ, zero, suc, ◌+◌, ◌-◌, ◌≤◌, ◌<◌, cond, ◌≡◌, eqb, ltb, length, take, drop, set, Result, Ok, Err}
use mathlib.Core.List.{List, [], ◌∷◌, ◌++◌, map, flatten, Memᴰ}
use Rattle.table.specs.Layout.{word}
use Rattle.multiset_unification.specs.Answer.{fitting}
use Rattle.multiset_unification.specs.Computed.Choices.{branch}
use Rattle.entries.specs.declared.writing.Full.{Full}

-- Words xs in the place of as many lent words from `at` on.
unfoldable pub put : ℕ → List ℕ → List ℕ → List ℕ
put at xs lent = take at lent ++ xs ++ drop (at + length xs) lent

-- An entry did not fit.
abbrev pub full : Full
full = record {}

-- Of entries es as many are written as fit into the lent words from `at` on; r is how many words are used then, or that one did not fit.
pub record Writes (es : List (List ℕ)) (lent : List ℕ) (at : ℕ) (lent' : List ℕ) (r : Result ℕ Full) : Type 0 where
  pub words : lent' ≡ put at (flatten (fitting (length lent - at) es)) lent
  pub used : r ≡ cond (ltb (length lent - at) (length (flatten es))) (Err full) (Ok (at + length (flatten es)))

-- Where the entries `rest` are written from `at` on, all of es are written from at₀ on.
pub record Remains (es : List (List ℕ)) (lent₀ : List ℕ) (at₀ : ℕ) (rest : List (List ℕ)) (lent : List ℕ) (at : ℕ) : Type 0 where
  pub size : length lent ≡ length lent₀
  pub within : at ≤ length lent
  pub closes : (lent' : List ℕ) (r : Result ℕ Full) → Writes rest lent at lent' r → Writes es lent₀ at₀ lent' r

-- Entries es, of so many words each, stand in the lent words from `from` up to `to`.
pub record Block (es : List (List ℕ)) (width : ℕ) (lent : List ℕ) (from to : ℕ) : Type 0 where
  pub wide : (e : List ℕ) → Memᴰ e es → length e ≡ width
  pub end : to ≡ from + length (flatten es)
  pub within : to ≤ length lent
  pub there : take (length (flatten es)) (drop from lent) ≡ flatten es

-- Entries with each of c digits from d on at place p.
unfoldable pub repeated : ℕ → ℕ → ℕ → List (List ℕ) → List (List ℕ)
repeated p d zero es = []
repeated p d (suc c) es = map (λ e. set e p d) es ++ repeated p (suc d) c es

-- The strings of right digits by marks: 0 where the right term is paired, otherwise 1 to k.
unfoldable pub marked : ℕ → List ℕ → List (List ℕ)
marked k [] = [] ∷ []
marked k (z ∷ zs) = cond (eqb z 0) (branch 0 1 (λ d. marked k zs)) (branch 1 k (λ d. marked k zs))

-- The marks of an entry from place p up to `end`.
abbrev pub marks_from : List ℕ → ℕ → ℕ → List ℕ
marks_from e p end = take (end - p) (drop p e)

-- The entries that differ from e in their right digits from place p up to `end`.
unfoldable pub right_entries : ℕ → List ℕ → ℕ → ℕ → List (List ℕ)
right_entries k e p end = map (λ ds. take p e ++ ds ++ drop end e) (marked k (marks_from e p end))

-- The marks of an entry from place p up to `end` are 0 or 1, and 0 where there are no left labels: it is the first of those entries.
pub record Least (k : ℕ) (e : List ℕ) (p end : ℕ) : Type 0 where
  pub small : (j : ℕ) → p ≤ j → j < end → word e j ≤ 1
  pub noughts : k ≡ 0 → (j : ℕ) → p ≤ j → j < end → word e j ≡ 0
