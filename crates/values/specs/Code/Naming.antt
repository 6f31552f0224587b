-- Naming the values of classes, place by place of an order, with a table of the applications named by themselves.
use Rattle.std.specs.Prelude.{ℕ, zero, suc, ◌+◌, ◌*◌, ◌/◌, ◌%◌, ◌<◌, ◌≤◌, Bool, true, false, List, ◌⊎◌, ◌≡◌, length}
use Rattle.table.specs.Layout.{word, kind_of, name_of, count_of, node_count, argument_of}
use Rattle.unification.specs.Computed.Classes.{class_of}
use Rattle.nodes.specs.Code.Named.{value_name, Readable, Alike, Applied, Named}
use Rattle.nodes.specs.Code.Formed.{OneConstant}
use Rattle.values.specs.declared.applications.Applications.{Applications}
use Rattle.values.specs.Code.Applications.{keys, Chained}

-- Nodes in an order, no node twice: while a node is named, no name changes of an argument of it or of a node before it.
pub record Nameable (nodes arguments heads order : List ℕ) : Type 0 where
  pub node : (p : ℕ) → p < length order → word order p < node_count nodes
  pub once : (p q : ℕ) → p < q → q < length order → word order p ≡ word order q → ⊥
  pub first : (p q j : ℕ) → q ≤ p → p < length order → j < count_of nodes (word order q) →
      class_of heads (argument_of nodes arguments (word order q) j) ≡ word order p → ⊥

-- Node g stands at some place of the order.
abbrev pub IsPlaced : List ℕ → ℕ → Type 0
IsPlaced order g = (p : ℕ) × (p < length order) × (word order p ≡ g)

-- Nodes with arguments stand in the order, among them every head that has some. The others name themselves, and constants of one
-- name have one head.
pub record Compounds (nodes heads order names : List ℕ) : Type 0 where
  pub compound : (p : ℕ) → p < length order → 0 < count_of nodes (word order p)
  pub placed : (i : ℕ) → i < node_count nodes → 0 < count_of nodes (class_of heads i) → IsPlaced order (class_of heads i)
  pub itself : (i : ℕ) → i < node_count nodes → count_of nodes i ≡ 0 → word names i ≡ i
  pub constants : OneConstant nodes heads

-- The key of the symbol of node h.
abbrev pub symbol_key : List ℕ → ℕ → ℕ
symbol_key nodes h = (name_of nodes h * 40503 % 65536 / 256 + count_of nodes h) % keys

-- A key with one argument more, by the name of its value.
abbrev pub longer_key : ℕ → ℕ → ℕ
longer_key key name = (key * 157 + name + 1) % keys

-- The key of node h, made of its symbol and the names of its first j arguments.
unfoldable pub key_up_to : List ℕ → List ℕ → List ℕ → List ℕ → ℕ → ℕ → ℕ
key_up_to nodes arguments heads names h zero = symbol_key nodes h
key_up_to nodes arguments heads names h (suc j) =
    longer_key (key_up_to nodes arguments heads names h j) (value_name heads names (argument_of nodes arguments h j))

-- The key of node h.
unfoldable pub key_of : List ℕ → List ℕ → List ℕ → List ℕ → ℕ → ℕ
key_of nodes arguments heads names h = key_up_to nodes arguments heads names h (count_of nodes h)

-- Nodes g and h have one symbol, and their first k arguments have the same values.
pub record AlikeBy (nodes arguments : List ℕ) (value : ℕ → ℕ) (g h k : ℕ) : Type 0 where
  pub name : name_of nodes g ≡ name_of nodes h
  pub count : count_of nodes g ≡ count_of nodes h
  pub per_argument : (j : ℕ) → j < k → value (argument_of nodes arguments g j) ≡ value (argument_of nodes arguments h j)

-- Whether they have one symbol, and all their arguments have the same values.
pub record ComparedBy (nodes arguments : List ℕ) (value : ℕ → ℕ) (g h : ℕ) (r : Bool) : Type 0 where
  pub alike : r ≡ true → AlikeBy nodes arguments value g h (count_of nodes g)
  pub different : r ≡ false → AlikeBy nodes arguments value g h (count_of nodes g) → ⊥

-- Whether nodes g and h are alike.
pub record Compared (nodes arguments heads names : List ℕ) (g h : ℕ) (r : Bool) : Type 0 where
  pub alike : r ≡ true → Alike nodes arguments heads names g h
  pub different : r ≡ false → Alike nodes arguments heads names g h → ⊥

-- At place q stands an application that is named by itself.
pub record Representative (nodes order names : List ℕ) (q : ℕ) : Type 0 where
  pub application : kind_of nodes (word order q) ≡ 0 → ⊥
  pub itself : word names (word order q) ≡ word order q

-- The key of the node at place q.
unfoldable pub key_at : List ℕ → List ℕ → List ℕ → List ℕ → List ℕ → ℕ → ℕ
key_at nodes arguments heads order names q = key_of nodes arguments heads names (word order q)

-- The node at place q has the name of a representative that is alike.
pub record Represented (nodes arguments heads order names : List ℕ) (q : ℕ) : Type 0 where
  pub place : ℕ
  pub before : place ≤ q
  pub representative : Representative nodes order names place
  pub named : word names (word order q) ≡ word order place
  pub alike : Alike nodes arguments heads names (word order place) (word order q)

-- The nodes before place p have their names.
pub record NamedBefore (nodes arguments heads order names : List ℕ) (p : ℕ) : Type 0 where
  pub variable : (q : ℕ) → q < p → kind_of nodes (word order q) ≡ 0 → word names (word order q) ≡ word order q
  pub application : (q : ℕ) → q < p → (kind_of nodes (word order q) ≡ 0 → ⊥) → Represented nodes arguments heads order names q
  pub apart : (q r : ℕ) → q < p → r < p → Representative nodes order names q → Representative nodes order names r →
      Alike nodes arguments heads names (word order q) (word order r) → q ≡ r

-- The nodes before place p have their names, and the representatives among them are in the table.
pub record Naming (nodes arguments heads order names : List ℕ) (t : Applications) (p : ℕ) : Type 0 where
  pub readable : Readable nodes arguments heads names
  pub ordered : Nameable nodes arguments heads order
  pub whole : Compounds nodes heads order names
  pub named : NamedBefore nodes arguments heads order names p
  pub chained : Chained (Representative nodes order names) (key_at nodes arguments heads order names) t p

-- Each node of the order has the name of one that stands not after it and names itself.
pub record NamedEarlier (order names : List ℕ) : Type 0 where
  pub earlier : (q : ℕ) → q < length order → (r : ℕ) × (r ≤ q) × (word names (word order q) ≡ word order r) × (word names (word order r) ≡ word order r)

-- What naming comes to: a head that does not stand in the order names itself, and the name of an application is alike its head.
pub record NamedAlong (nodes arguments heads order names : List ℕ) : Type 0 where
  pub named : Named nodes arguments heads names
  pub along : NamedEarlier order names
  pub outside : (i : ℕ) → i < node_count nodes → IsPlaced order (class_of heads i) ⊎ (value_name heads names i ≡ class_of heads i)
  pub alike : (i : ℕ) → i < node_count nodes → Applied nodes heads i → Alike nodes arguments heads names (value_name heads names i) (class_of heads i)
