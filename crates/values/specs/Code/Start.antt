-- What is begun with, node by node: each node's head is the least node with its term, found by the heads of its arguments.
use Rattle.std.specs.Prelude.{ℕ, ◌+◌, ◌<◌, ◌≤◌, List, ◌≡◌, length, set}
use Rattle.table.specs.Layout.{word, kind_of, node_count}
use Rattle.terms.specs.Substitution.{Substitution}
use Rattle.unification.specs.Unifier.{Unifies}
use Rattle.unification.specs.Node.{nodes_from, term_of}
use Rattle.unification.specs.Code.Sections.{Sections}
use Rattle.nodes.specs.Code.Open.{Counts}
use Rattle.nodes.specs.Code.Circle.{HeadsFirst, CirclesBefore}
use Rattle.nodes.specs.Code.Formed.{Formed, Stands}
use Rattle.values.specs.declared.applications.Applications.{Applications}
use Rattle.values.specs.Code.Applications.{Chained}
use Rattle.values.specs.Code.Naming.{key_of}

-- Node h is the least with the term of node i.
pub record LeastOfTerm (nodes arguments : List ℕ) (i h : ℕ) : Type 0 where
  pub low : h ≤ i
  pub same : term_of (nodes_from nodes arguments) h ≡ term_of (nodes_from nodes arguments) i
  pub least : (k : ℕ) → k < i → term_of (nodes_from nodes arguments) k ≡ term_of (nodes_from nodes arguments) i → h ≤ k

-- The heads of the nodes before node i.
pub record HeadsBefore (nodes arguments heads : List ℕ) (i : ℕ) : Type 0 where
  pub sections : Sections nodes arguments
  pub size : length heads ≡ node_count nodes
  pub head : (k : ℕ) → k < i → LeastOfTerm nodes arguments k (word heads k)

-- Node q is an application that is its own head.
pub record OwnHead (nodes heads : List ℕ) (q : ℕ) : Type 0 where
  pub applied : kind_of nodes q ≡ 0 → ⊥
  pub itself : word heads q ≡ q

-- The same with a table of the applications among them that are heads, by the heads of their arguments.
pub record Sharing (nodes arguments heads : List ℕ) (t : Applications) (i : ℕ) : Type 0 where
  pub before : HeadsBefore nodes arguments heads i
  pub chained : Chained (OwnHead nodes heads) (key_of nodes arguments heads heads) t i

-- Node i has got head h, and stands in the circle of that.
pub record PutHead (heads next : List ℕ) (i h : ℕ) (heads' next' : List ℕ) : Type 0 where
  pub headed : heads' ≡ set heads i h
  pub circles : CirclesBefore heads' next' (i + 1)

-- Classes in which nodes of one term are together: as `BeginsShared` of `Stands`, with no variables.
pub record Together (nodes arguments heads : List ℕ) : Type 0 where
  pub formed : (counts : List ℕ) → Counts nodes arguments counts (node_count nodes) → Formed nodes arguments counts heads
  pub pairs : List (ℕ × ℕ)
  pub stands : Stands nodes arguments heads pairs
  pub same : (σ : Substitution) → Unifies (nodes_from nodes arguments) pairs σ
  pub first : HeadsFirst (node_count nodes) heads
