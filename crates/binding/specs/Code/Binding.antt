-- The binding words by the names of values: where each name's least application or least variable is noted, and what is read there.
use Rattle.std.specs.Prelude.{ℕ, ◌<◌, ◌≤◌, cond, List, ◌++◌, map, ◌≡◌, eqb, ltb, length, set, drop}
use Rattle.table.specs.Limits.{max_nodes}
use Rattle.table.specs.Layout.{word, kind_of, count_of, node_count}
use Rattle.unification.specs.Words.{Least}
use Rattle.unification.specs.Computed.Classes.{class_of}
use Rattle.values.specs.Code.Kept.{Kept}
use Rattle.nodes.specs.Code.Open.{IsClosed}
use Rattle.nodes.specs.Code.Named.{value_name, Readable, Alike, Applied, Named}

-- The sections, the heads of the nodes, and the names of the heads.
pub record HeadNames (nodes arguments heads names : List ℕ) : Type 0 where
  pub readable : Readable nodes arguments heads names
  pub named : Named nodes arguments heads names

-- A list by name, after application i was noted in it: at its name, if no smaller node stands there.
unfoldable pub application_noted : List ℕ → List ℕ → List ℕ → ℕ → List ℕ
application_noted heads names by i = cond (ltb i (word by (value_name heads names i))) (set by (value_name heads names i) i) by

-- A list by name, after the node at place k of a list was noted in it: one whose head is a variable is, at its name.
unfoldable pub free_noted : List ℕ → List ℕ → List ℕ → List ℕ → List ℕ → ℕ → List ℕ
free_noted nodes heads names list by k =
    cond (eqb (kind_of nodes (class_of heads (word list k))) 0)
    (set by (value_name heads names (word list k)) (word list k))
    by

-- Node j is an application.
abbrev pub IsApplied : List ℕ → ℕ → Type 0
IsApplied nodes j = kind_of nodes j ≡ 0 → ⊥

-- The head of the node at place k of a list is a variable.
abbrev pub IsFree : List ℕ → List ℕ → List ℕ → ℕ → Type 0
IsFree nodes heads list k = kind_of nodes (class_of heads (word list k)) ≡ 0

-- The name of the node at place k of a list.
abbrev pub name_at : List ℕ → List ℕ → List ℕ → ℕ → ℕ
name_at heads names list k = value_name heads names (word list k)

-- All these are applications.
pub record AreApplied (nodes list : List ℕ) : Type 0 where
  pub node : (p : ℕ) → p < length list → word list p < node_count nodes
  pub applied : (p : ℕ) → p < length list → IsApplied nodes (word list p)

-- The name of an application is alike its head, and a closed application's is not after it.
pub record NamesLeast (nodes arguments counts heads names : List ℕ) : Type 0 where
  pub alike : (i : ℕ) → i < node_count nodes → Applied nodes heads i → Alike nodes arguments heads names (value_name heads names i) (class_of heads i)
  pub least : (i : ℕ) → IsClosed nodes counts i → value_name heads names i ≤ i

-- At an application that names itself stands one of its name, not after it, nor after the first k of a list of open applications where
-- they have that name.
pub record OpenNoted (nodes heads names opens by : List ℕ) (k : ℕ) : Type 0 where
  pub long : length by ≡ node_count nodes
  pub named : (s : ℕ) → s < node_count nodes → IsApplied nodes s → value_name heads names s ≡ s →
      (word by s < node_count nodes) × IsApplied nodes (word by s) × (value_name heads names (word by s) ≡ s) × (word by s ≤ s)
  pub least : (p : ℕ) → p < k → word by (value_name heads names (word opens p)) ≤ word opens p

-- At the name of an application stands the least of that name.
pub record ApplicationsNoted (nodes heads names by : List ℕ) : Type 0 where
  pub least : (i : ℕ) → i < node_count nodes → Applied nodes heads i →
      Least (λ k. (k < node_count nodes) × IsApplied nodes k × (value_name heads names k ≡ value_name heads names i)) (word by (value_name heads names i))

-- The nodes from place k on whose heads are variables are noted, and what stands at applications is as it was.
pub record FreeFrom (nodes heads names list by by' : List ℕ) (k : ℕ) : Type 0 where
  pub long : length by' ≡ node_count nodes
  pub kept : Kept (IsFree nodes heads list) (name_at heads names list) (word list) k (length list) by'
  pub applied : (s : ℕ) → IsApplied nodes s → word by' s ≡ word by s

-- What stands at the names of a list of nodes.
unfoldable pub read_at : List ℕ → List ℕ → List ℕ → List ℕ → List ℕ
read_at heads names by list = map (λ v. word by (value_name heads names v)) list

-- All these are nodes.
pub record AreNodes (nodes list : List ℕ) : Type 0 where
  pub node : (k : ℕ) → k < length list → word list k < node_count nodes

-- All these numbers are below n.
pub record AllBelow (n : ℕ) (xs : List ℕ) : Type 0 where
  pub below : (k : ℕ) → k < length xs → word xs k < n

-- The words of a list of nodes, found by names and a list of open applications.
pub record WordsFound (nodes heads names opens list out out' : List ℕ) : Type 0 where
  pub applications : List ℕ
  pub all : List ℕ
  pub noted : OpenNoted nodes heads names opens applications (length opens)
  pub free : FreeFrom nodes heads names list applications all 0
  pub words_read : out' ≡ read_at heads names all list ++ drop (length list) out

-- None of the first n of a list of open applications has an open head.
pub record NoneLeads (counts opens heads : List ℕ) (n : ℕ) : Type 0 where
  pub none : (p : ℕ) → p < n → word counts (class_of heads (word opens p)) ≡ 0

-- The head of the node at place k of a list.
abbrev pub head_at : List ℕ → List ℕ → ℕ → ℕ
head_at heads list k = class_of heads (word list k)

-- The heads of the first n of a list of nodes have no arguments.
pub record AreBare (nodes heads list : List ℕ) (n : ℕ) : Type 0 where
  pub bare : (k : ℕ) → k < n → count_of nodes (head_at heads list k) ≡ 0

-- At the head of each node from place k of a list on stands the first of them with that head.
pub record HeadsFrom (heads list by : List ℕ) (k : ℕ) : Type 0 where
  pub long : length by ≡ max_nodes
  pub kept : Kept (λ j. j < length list) (head_at heads list) (word list) k (length list) by

-- The word of node v by its head: an application, or what stands at a variable.
unfoldable pub plain_word : List ℕ → List ℕ → List ℕ → ℕ → ℕ
plain_word nodes heads by v = cond (eqb (kind_of nodes (class_of heads v)) 0) (word by (class_of heads v)) (class_of heads v)

-- Those of a list of nodes.
unfoldable pub plain_at : List ℕ → List ℕ → List ℕ → List ℕ → List ℕ
plain_at nodes heads by list = map (plain_word nodes heads by) list

-- The words of a list of nodes, found by heads alone.
pub record PlainFound (nodes heads list out out' : List ℕ) : Type 0 where
  pub by : List ℕ
  pub noted : HeadsFrom heads list by 0
  pub words_read : out' ≡ plain_at nodes heads by list ++ drop (length list) out
