-- Open applications, listed behind the counts, and heads of closed ones with arguments, listed with a table of them.
use Rattle.std.specs.Prelude.{ℕ, ◌+◌, ◌-◌, ◌<◌, ◌≤◌, List, ◌≡◌, length, take, set}
use Rattle.table.specs.Limits.{max_nodes}
use Rattle.table.specs.Layout.{word, count_of, node_count}
use Rattle.unification.specs.Computed.Classes.{class_of}
use Rattle.nodes.specs.Code.Open.{IsClosed, Counts}
use Rattle.nodes.specs.Code.Named.{Themselves}
use Rattle.values.specs.declared.applications.Applications.{Applications}
use Rattle.values.specs.Code.Applications.{Sizes, with_place, Chained}
use Rattle.values.specs.Code.Naming.{key_of, key_at, Representative}

-- The heads of closed applications with arguments, in rising order.
pub record ClosedListed (nodes counts heads closed : List ℕ) : Type 0 where
  pub is_closed : (p : ℕ) → p < length closed → IsClosed nodes counts (word closed p)
  pub compound : (p : ℕ) → p < length closed → 0 < count_of nodes (word closed p)
  pub own : (p : ℕ) → p < length closed → class_of heads (word closed p) ≡ word closed p
  pub rising : (p q : ℕ) → p < q → q < length closed → word closed p < word closed q
  pub whole : (i : ℕ) → IsClosed nodes counts i → 0 < count_of nodes i → class_of heads i ≡ i → (p : ℕ) × (p < length closed) × (word closed p ≡ i)

-- A table of these, by the heads of their arguments, as each names itself.
pub record ClosedTable (nodes arguments heads closed : List ℕ) (t : Applications) : Type 0 where
  pub chained : (names : List ℕ) → length names ≡ node_count nodes → Themselves names →
      Chained (Representative nodes closed names) (key_at nodes arguments heads closed names) t (length closed)

-- The words from a start on are the numbers below i with a property, in rising order.
pub record Gathered (P : ℕ → Type 0) (start : ℕ) (prepared : List ℕ) (count i : ℕ) : Type 0 where
  pub few : count ≤ i
  pub below : (p : ℕ) → p < count → word prepared (start + p) < i
  pub has : (p : ℕ) → p < count → P (word prepared (start + p))
  pub rising : (p q : ℕ) → p < q → q < count → word prepared (start + p) < word prepared (start + q)
  pub whole : (k : ℕ) → k < i → P k → (p : ℕ) × (p < count) × (word prepared (start + p) ≡ k)

-- Arguments of node k are looked at.
abbrev pub IsOpen : List ℕ → ℕ → Type 0
IsOpen counts k = 0 < word counts k

-- Of the nodes before node i, the arguments that are looked at are counted, and the open applications listed behind the counts. Node 0 is none.
pub record OpenBefore (nodes arguments counts₀ counts : List ℕ) (opens i : ℕ) : Type 0 where
  pub size : length counts ≡ length counts₀
  pub counted : Counts nodes arguments counts i
  pub gathered : Gathered (IsOpen counts) 256 counts opens i
  pub fewer : opens ≤ i - 1
  pub behind : (k : ℕ) → 512 ≤ k → word counts k ≡ word counts₀ k

-- What noting the count of node i comes to: a node with arguments that are looked at is also put behind the first `opens` open applications.
pub data CountNoted (counts : List ℕ) (i count opens r : ℕ) (counts' : List ℕ) : Type 0 where
  none_looked_at : count ≡ 0 → r ≡ opens → counts' ≡ set counts i count → CountNoted counts i count opens r counts'
  some_looked_at : (count ≡ 0 → ⊥) → r ≡ opens + 1 → counts' ≡ set (set counts i count) (256 + opens) i → CountNoted counts i count opens r counts'

-- Closed application i is put at a place of an order, and in front of those with its key.
pub record ClosedNoted (nodes arguments heads names order : List ℕ) (t : Applications) (place i : ℕ) (order' : List ℕ) (t' : Applications) : Type 0 where
  pub sizes : Sizes t
  pub placed : order' ≡ set order place i
  pub chained : t' ≡ with_place t place (key_of nodes arguments heads names i)

-- The closed applications are the first r of an order, with a table.
pub record ListsClosed (nodes arguments counts heads : List ℕ) (r : ℕ) (order : List ℕ) (t : Applications) : Type 0 where
  pub few : r ≤ max_nodes
  pub listed : ClosedListed nodes counts heads (take r order)
  pub chained : ClosedTable nodes arguments heads (take r order) t
