-- What has to be known of a table before a part of it is read.
use Rattle.std.specs.Prelude.{ℕ, ◌+◌, ◌*◌, ◌≤◌, ◌<◌, List, length}
use Rattle.table.specs.Layout.{offset, size, first_of, count_of, node_count}

-- Pair k lies in the table.
pub record HasPair (t : List ℕ) (k : ℕ) : Type 0 where
  pub there : 2 * k + 1 < length t

-- Section k lies inside the table.
pub record HasSection (t : List ℕ) (k : ℕ) : Type 0 where
  pub pair : HasPair t k
  pub inside : offset t k + size t k ≤ length t

-- The arguments of each node are a run inside the arguments section.
pub record RunsInside (ns args : List ℕ) : Type 0 where
  pub run : (i : ℕ) → i < node_count ns → first_of ns i + count_of ns i ≤ length args
