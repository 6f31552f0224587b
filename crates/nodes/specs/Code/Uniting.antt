-- Two heads of which one goes: how strong heads are, and what becomes of the classes and their circles.
use Rattle.std.specs.Prelude.{ℕ, ◌<◌, ◌≤◌, cond, List, ◌≡◌, eqb, length, set}
use Rattle.table.specs.Layout.{word, kind_of}
use Rattle.unification.specs.Computed.Classes.{class_of}
use Rattle.unification.specs.Code.Heads.{Partition}
use Rattle.nodes.specs.Code.Circle.{Follows, Circles}

-- How strong head i is: an application is stronger than a variable, a closed one than an open one.
unfoldable pub strength_of : List ℕ → List ℕ → ℕ → ℕ
strength_of nodes counts i = cond (eqb (kind_of nodes i) 0) 0 (cond (eqb (word counts i) 0) 2 1)

-- Node g of n can be come back to: the next of each node is a node, and g follows on the one after it.
pub record Circling (n : ℕ) (next : List ℕ) (g : ℕ) : Type 0 where
  pub inside : g < n
  pub size : n ≤ length next
  pub below : (i : ℕ) → i < n → word next i < n
  pub back : Follows next (word next g) g

-- The nodes of the circle of node g get head h.
pub record Relabels (next : List ℕ) (g h : ℕ) (heads heads' : List ℕ) : Type 0 where
  pub size : length heads' ≡ length heads
  pub circle : (k : ℕ) → Follows next g k → class_of heads' k ≡ h
  pub others : (k : ℕ) → (Follows next g k → ⊥) → class_of heads' k ≡ class_of heads k

-- Heads g and h of two of the classes of n nodes.
pub record TwoHeads (n : ℕ) (heads next : List ℕ) (g h : ℕ) : Type 0 where
  pub partition : Partition n heads
  pub circles : Circles n heads next
  pub first : g < n
  pub second : h < n
  pub first_own : class_of heads g ≡ g
  pub second_own : class_of heads h ≡ h
  pub apart : g ≡ h → ⊥

-- Nodes g and h exchange the ones after them.
unfoldable pub exchanged : List ℕ → ℕ → ℕ → List ℕ
exchanged next g h = set (set next g (word next h)) h (word next g)
