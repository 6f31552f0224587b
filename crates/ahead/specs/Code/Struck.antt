-- Pairs that are struck out: they have no common value on top of whatever pairs the classes stand for.
use Rattle.std.specs.Prelude.{ℕ, ◌+◌, ◌^◌, ◌<◌, false, List, ◌≡◌}
use Rattle.table.specs.Layout.{word}
use Rattle.unification.specs.Node.{nodes_from}
use Rattle.branches.specs.Code.Known.{right_count}
use Rattle.branches.specs.Code.Ahead.{has, NeverOn}
use Rattle.branches.specs.Code.Walk.{Standing}

-- The pair of a and b has no common value on top of whatever pairs the classes stand for.
abbrev pub NeverJoins : List ℕ → List ℕ → List ℕ → ℕ → ℕ → Type 0
NeverJoins nodes arguments heads a b =
    (ps : List (ℕ × ℕ)) → Standing nodes arguments heads ps → NeverOn (nodes_from nodes arguments) ps a b

-- Of the first n right terms the set `row` lacks only those that never join left term i.
pub record RowTo (nodes arguments known heads : List ℕ) (i n row : ℕ) : Type 0 where
  pub within : row < 2 ^ n
  pub never : (j : ℕ) → j < n → has row j ≡ false → NeverJoins nodes arguments heads (word known (584 + i)) (word known (592 + j))

-- So do the sets of the first i left terms, of all right terms.
pub record RowsTo (nodes arguments known heads : List ℕ) (i : ℕ) : Type 0 where
  pub never : (q j : ℕ) → q < i → j < right_count known → has (word known (600 + q)) j ≡ false →
      NeverJoins nodes arguments heads (word known (584 + q)) (word known (592 + j))
