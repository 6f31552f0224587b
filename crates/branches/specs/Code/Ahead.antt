-- What can still be completed: sets of right terms, the pairs that may be, and a bit for each left term and each set of paired right terms.
use Rattle.std.specs.Prelude.{ℕ, ◌+◌, ◌*◌, ◌/◌, ◌%◌, ◌^◌, ◌<◌, Bool, true, false, not, ◌&&◌, ◌||◌, List, [], ◌∷◌, ◌≡◌, eqb, length, drop}
use Rattle.table.specs.Some.{some_below}
use Rattle.table.specs.Layout.{word}
use Rattle.terms.specs.Substitution.{Substitution}
use Rattle.unification.specs.Node.{Node, nodes_from}
use Rattle.unification.specs.Unifier.{Unifies}
use Rattle.branches.specs.Code.Known.{left_count, right_count, left_labels, right_labels, rows_in}

-- Whether right term j is in a set: its bit is 1.
unfoldable pub has : ℕ → ℕ → Bool
has s j = eqb (s / 2 ^ j % 2) 1

-- A left term whose partners may be those of `row` can be paired with right term j, which is not in set s, so that f holds of the set with it.
unfoldable pub partner_at : ℕ → ℕ → (ℕ → Bool) → ℕ → Bool
partner_at row s f j = has row j && not (has s j) && f (s + 2 ^ j)

-- Whether left terms can be placed by pairs that may be, and in right labels, where the right terms of set s are paired already, so that
-- without left labels all m of them are paired in the end; k and l are the numbers of left and right labels.
unfoldable pub completes : ℕ → ℕ → ℕ → List ℕ → ℕ → Bool
completes m k l [] s = not (eqb k 0) || eqb (s + 1) (2 ^ m)
completes m k l (row ∷ rows) s = not (eqb l 0) && completes m k l rows s || some_below m (partner_at row s (completes m k l rows))

-- The same for the left terms from term i on, by what is known.
abbrev pub completes_from : List ℕ → ℕ → ℕ → Bool
completes_from known i s = completes (right_count known) (left_labels known) (right_labels known) (drop i (rows_in known)) s

-- The bit of left term i and set s: four words a left term.
unfoldable pub bit_at : List ℕ → ℕ → ℕ → Bool
bit_at can i s = has (word can (4 * i + s / 64)) (s % 64)

-- Where the left terms after term i can be placed, its bit is 1.
pub record Completable (known can : List ℕ) : Type 0 where
  pub size : length can ≡ 32
  pub bits : (i s : ℕ) → i < left_count known → s < 2 ^ right_count known → completes_from known (i + 1) s ≡ true → bit_at can i s ≡ true

-- No substitution unifies the pairs ps and the pair of a and b.
abbrev pub NeverOn : List Node → List (ℕ × ℕ) → ℕ → ℕ → Type 0
NeverOn ns ps a b = (σ : Substitution) → Unifies ns ((a, b) ∷ ps) σ → ⊥

-- Left and right terms that are no pair of the sets have no common value on top of the pairs ps.
pub record MayPair (nodes arguments known : List ℕ) (ps : List (ℕ × ℕ)) : Type 0 where
  pub never : (i j : ℕ) → i < left_count known → j < right_count known → has (word known (600 + i)) j ≡ false →
      NeverOn (nodes_from nodes arguments) ps (word known (584 + i)) (word known (592 + j))

-- Set s has the right terms whose marks are 0.
pub record PairedSet (marks : List ℕ) (s : ℕ) : Type 0 where
  pub within : s < 2 ^ length marks
  pub paired : (j : ℕ) → j < length marks → has s j ≡ eqb (word marks j) 0
