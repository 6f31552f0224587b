-- Open and closed applications: how many arguments of a node are looked at, and the heads that closed nodes keep.
use Rattle.std.specs.Prelude.{ℕ, ◌<◌, ◌≤◌, Bool, not, ◌&&◌, List, ◌⊎◌, ◌≡◌, eqb, length}
use Rattle.table.specs.Layout.{word, kind_of, count_of, node_count, argument_of}
use Rattle.terms.specs.Term.{var}
use Rattle.unification.specs.Unifier.{value}
use Rattle.unification.specs.Computed.Classes.{class_of}
use Rattle.unification.specs.Node.{nodes_from}

-- Node i is a closed application: none of its arguments is looked at.
pub record IsClosed (nodes counts : List ℕ) (i : ℕ) : Type 0 where
  pub node : i < node_count nodes
  pub applied : kind_of nodes i ≡ 0 → ⊥
  pub none : word counts i ≡ 0

-- The test for it.
unfoldable pub closed_test : List ℕ → List ℕ → ℕ → Bool
closed_test nodes counts i = not (eqb (kind_of nodes i) 0) && eqb (word counts i) 0

-- How many arguments of each node before node n are looked at: all, or none, and none exactly if the arguments are closed applications.
pub record Counts (nodes arguments counts : List ℕ) (n : ℕ) : Type 0 where
  pub enough : node_count nodes ≤ length counts
  pub some : (i : ℕ) → i < n → (word counts i ≡ 0) ⊎ (word counts i ≡ count_of nodes i)
  pub below : (i : ℕ) → i < n → IsClosed nodes counts i → (j : ℕ) → j < count_of nodes i → IsClosed nodes counts (argument_of nodes arguments i j)
  pub above : (i : ℕ) → i < n → ((j : ℕ) → j < count_of nodes i → IsClosed nodes counts (argument_of nodes arguments i j)) → word counts i ≡ 0

-- What the count of node i is, given those of the nodes before it.
pub record CountedAt (nodes arguments counts : List ℕ) (i r : ℕ) : Type 0 where
  pub some : (r ≡ 0) ⊎ (r ≡ count_of nodes i)
  pub below : r ≡ 0 → (j : ℕ) → j < count_of nodes i → IsClosed nodes counts (argument_of nodes arguments i j)
  pub above : ((j : ℕ) → j < count_of nodes i → IsClosed nodes counts (argument_of nodes arguments i j)) → r ≡ 0

-- The test whether node i is a closed application with arguments and the head of its class.
unfoldable pub closed_head_test : List ℕ → List ℕ → List ℕ → ℕ → Bool
closed_head_test nodes counts heads i = closed_test nodes counts i && not (eqb (count_of nodes i) 0) && eqb (class_of heads i) i

-- Closed applications have closed heads, not after them and of the same term; those of one term have one head.
pub record ClosedHeads (nodes arguments counts heads : List ℕ) : Type 0 where
  pub closed : (i : ℕ) → IsClosed nodes counts i → IsClosed nodes counts (class_of heads i)
  pub least : (i : ℕ) → IsClosed nodes counts i → class_of heads i ≤ i
  pub valued : (i : ℕ) → IsClosed nodes counts i → value (nodes_from nodes arguments) var (class_of heads i) ≡ value (nodes_from nodes arguments) var i
  pub shared : (i j : ℕ) → IsClosed nodes counts i → IsClosed nodes counts j →
      value (nodes_from nodes arguments) var i ≡ value (nodes_from nodes arguments) var j → class_of heads i ≡ class_of heads j

-- Closed applications have the heads that they had.
abbrev pub KeepsClosed : List ℕ → List ℕ → List ℕ → List ℕ → Type 0
KeepsClosed nodes counts heads heads' = (i : ℕ) → IsClosed nodes counts i → class_of heads' i ≡ class_of heads i

-- Open applications: every node with arguments that are looked at stands in the list.
pub record OpenListed (nodes counts opens : List ℕ) : Type 0 where
  pub node : (p : ℕ) → p < length opens → word opens p < node_count nodes
  pub applied : (p : ℕ) → p < length opens → kind_of nodes (word opens p) ≡ 0 → ⊥
  pub whole : (i : ℕ) → i < node_count nodes → 0 < word counts i → (p : ℕ) × (p < length opens) × (word opens p ≡ i)
