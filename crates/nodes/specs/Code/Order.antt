-- An order of the classes in which those of arguments come first, or a class that leads to itself. So many arguments of each node are
-- looked at as `due` says.
use Rattle.std.specs.Prelude.{ℕ, ◌<◌, Bool, true, false, List, ◌≡◌, length}
use Rattle.table.specs.Layout.{word, node_count, argument_of}
use Rattle.unification.specs.Computed.Classes.{class_of}

-- Node h leads to node g: g is the head of an argument of h, or what such a head leads to.
pub data Leads (nodes arguments : List ℕ) (due : ℕ → ℕ) (heads : List ℕ) : ℕ → ℕ → Type 0 where
  next : {h g : ℕ} (j : ℕ) → h < node_count nodes → j < due h → class_of heads (argument_of nodes arguments h j) ≡ g →
      Leads nodes arguments due heads h g
  further : {h g k : ℕ} → Leads nodes arguments due heads h g → Leads nodes arguments due heads g k → Leads nodes arguments due heads h k

-- Some node leads to itself.
abbrev pub Looped : List ℕ → List ℕ → (ℕ → ℕ) → List ℕ → Type 0
Looped nodes arguments due heads = (h : ℕ) × (h < node_count nodes) × Leads nodes arguments due heads h h

-- No argument of node g is looked at, or it stands before place p.
pub data Met (due : ℕ → ℕ) (order : List ℕ) (p g : ℕ) : Type 0 where
  leaf : due g ≡ 0 → Met due order p g
  before : (q : ℕ) → q < p → word order q ≡ g → Met due order p g

-- Nodes with arguments that are looked at, no node twice, and the heads of a node's arguments are met before it.
pub record Listed (nodes arguments : List ℕ) (due : ℕ → ℕ) (heads order : List ℕ) : Type 0 where
  pub node : (p : ℕ) → p < length order → word order p < node_count nodes
  pub compound : (p : ℕ) → p < length order → 0 < due (word order p)
  pub once : (p q : ℕ) → p < q → q < length order → word order p ≡ word order q → ⊥
  pub first : (p : ℕ) → p < length order → (j : ℕ) → j < due (word order p) →
      Met due order p (class_of heads (argument_of nodes arguments (word order p) j))

-- Every head with arguments that are looked at stands in such an order.
pub record Ordered (nodes arguments : List ℕ) (due : ℕ → ℕ) (heads order : List ℕ) : Type 0 where
  pub listed : Listed nodes arguments due heads order
  pub whole : (i : ℕ) → i < node_count nodes → Met due order (length order) (class_of heads i)

-- Such an order of the head of node a and whatever that leads to.
pub record OrderedBelow (nodes arguments : List ℕ) (due : ℕ → ℕ) (heads : List ℕ) (a : ℕ) : Type 0 where
  pub order : List ℕ
  pub listed : Listed nodes arguments due heads order
  pub from : Met due order (length order) (class_of heads a)

-- What the search from the class of node a answers: whether some class leads to itself, and otherwise there is an order.
pub record Searched (nodes arguments : List ℕ) (due : ℕ → ℕ) (heads : List ℕ) (a : ℕ) (r : Bool) : Type 0 where
  pub cycle : r ≡ true → Looped nodes arguments due heads
  pub ordered : r ≡ false → OrderedBelow nodes arguments due heads a
