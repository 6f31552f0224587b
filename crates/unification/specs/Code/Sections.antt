-- The nodes section and the arguments section of an accepted table, which the code reads.
use Rattle.std.specs.Prelude.{ℕ, ◌+◌, ◌*◌, ◌≤◌, ◌<◌, Bool, not, ◌&&◌, List, ◌≡◌, eqb, length}
use Rattle.table.specs.Limits.{node_words, max_nodes, max_variable, max_count}
use Rattle.table.specs.Layout.{kind_of, name_of, first_of, count_of, node_count, argument_of}

-- Whether applications g and h have one symbol.
abbrev pub symbol_test : List ℕ → ℕ → ℕ → Bool
symbol_test nodes g h = eqb (name_of nodes g) (name_of nodes h) && eqb (count_of nodes g) (count_of nodes h)

-- Whether nodes g and h are applications of different symbols.
abbrev pub differ_test : List ℕ → ℕ → ℕ → Bool
differ_test nodes g h = not (eqb (kind_of nodes g) 0) && not (eqb (kind_of nodes h) 0) && not (symbol_test nodes g h)

-- What the code needs to know of the two sections (`sections_of`).
pub record Sections (nodes arguments : List ℕ) : Type 0 where
  pub limit : length nodes ≤ node_words * max_nodes
  pub kind : (i : ℕ) → i < node_count nodes → kind_of nodes i ≤ 1
  pub variable_name : (i : ℕ) → i < node_count nodes → kind_of nodes i ≡ 0 → name_of nodes i ≤ max_variable
  pub variable_count_lem : (i : ℕ) → i < node_count nodes → kind_of nodes i ≡ 0 → count_of nodes i ≡ 0
  pub count : (i : ℕ) → i < node_count nodes → count_of nodes i ≤ max_count
  pub run : (i : ℕ) → i < node_count nodes → first_of nodes i + count_of nodes i ≤ length arguments
  pub smaller : (i j : ℕ) → i < node_count nodes → j < count_of nodes i → argument_of nodes arguments i j < i
