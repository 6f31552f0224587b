-- Names for the values of classes: as `Valued`, over the words that the code reads.
use Rattle.std.specs.Prelude.{ℕ, ◌<◌, List, ◌≡◌, length}
use Rattle.table.specs.Layout.{word, kind_of, name_of, count_of, node_count, argument_of}
use Rattle.unification.specs.Computed.Classes.{class_of}
use Rattle.unification.specs.Code.Sections.{Sections}
use Rattle.unification.specs.Code.Heads.{Partition}

-- The name of the value of node i, given the names of heads.
abbrev pub value_name : List ℕ → List ℕ → ℕ → ℕ
value_name heads names i = word names (class_of heads i)

-- The sections, the heads of the nodes, and as many names as nodes.
pub record Readable (nodes arguments heads names : List ℕ) : Type 0 where
  pub sections : Sections nodes arguments
  pub partition : Partition (node_count nodes) heads
  pub long : length names ≡ node_count nodes

-- Applications g and h have one symbol, and their first k arguments have the same names.
pub record AlikeUpTo (nodes arguments heads names : List ℕ) (g h k : ℕ) : Type 0 where
  pub name : name_of nodes g ≡ name_of nodes h
  pub count : count_of nodes g ≡ count_of nodes h
  pub per_argument : (j : ℕ) → j < k → value_name heads names (argument_of nodes arguments g j) ≡ value_name heads names (argument_of nodes arguments h j)

-- Applications g and h have one symbol, and their arguments have the same names.
abbrev pub Alike : List ℕ → List ℕ → List ℕ → List ℕ → ℕ → ℕ → Type 0
Alike nodes arguments heads names g h = AlikeUpTo nodes arguments heads names g h (count_of nodes g)

-- The head of node i is an application.
abbrev pub Applied : List ℕ → List ℕ → ℕ → Type 0
Applied nodes heads i = kind_of nodes (class_of heads i) ≡ 0 → ⊥

-- Names of classes: a variable that is a head names itself, and classes of applications have one name exactly if their heads
-- are alike.
pub record Named (nodes arguments heads names : List ℕ) : Type 0 where
  pub node : (i : ℕ) → i < node_count nodes → value_name heads names i < node_count nodes
  pub variable : (i : ℕ) → i < node_count nodes → kind_of nodes (class_of heads i) ≡ 0 → value_name heads names i ≡ class_of heads i
  pub application : (i : ℕ) → i < node_count nodes → Applied nodes heads i → kind_of nodes (value_name heads names i) ≡ 0 → ⊥
  pub composed : (i j : ℕ) → i < node_count nodes → j < node_count nodes → Applied nodes heads i → Applied nodes heads j →
      Alike nodes arguments heads names (class_of heads i) (class_of heads j) → value_name heads names i ≡ value_name heads names j
  pub taken_apart : (i j : ℕ) → i < node_count nodes → j < node_count nodes → Applied nodes heads i → Applied nodes heads j →
      value_name heads names i ≡ value_name heads names j → Alike nodes arguments heads names (class_of heads i) (class_of heads j)

-- Each number names itself.
pub record Themselves (names : List ℕ) : Type 0 where
  pub itself : (i : ℕ) → i < length names → word names i ≡ i
