-- Putting the heads that have arguments in order by depth-first search: what is marked and listed, and what a visit leaves. And following
-- the only argument that leads on, from head to head.
use Rattle.std.specs.Prelude.{ℕ, ◌<◌, ◌≤◌, Bool, true, false, List, ◌⊎◌, ◌≡◌, length, slice_index_or, Option, Some, None, Result, MatchResult}
use Rattle.table.specs.Layout.{word, node_count, argument_of}
use Rattle.unification.specs.Computed.Classes.{class_of}
use Rattle.unification.specs.Code.Heads.{Partition, count_below}
use Rattle.unification.specs.Code.Sections.{Sections}
use Rattle.table.specs.declared.Node.{Node}
use Rattle.classes.specs.declared.order.Cycle.{Cycle}
use Rattle.classes.specs.declared.order.Mark.{Mark}
use Rattle.classes.specs.declared.order.Mark.TheVariants.{New, Open, Done}
use Rattle.nodes.specs.Code.Open.{Counts}
use Rattle.nodes.specs.Code.Order.{Leads, Looped, Met, Listed}

-- The mark of node k.
abbrev pub mark_at : List Mark → ℕ → Mark
mark_at marks k = slice_index_or marks k New

-- The tests of a mark.
abbrev pub new_test : Mark → Bool
new_test New = true
new_test Open = false
new_test Done = false

abbrev pub done_test : Mark → Bool
done_test New = false
done_test Open = false
done_test Done = true

-- Node k is not visited yet.
unfoldable pub is_new : List Mark → ℕ → Bool
is_new marks k = new_test (mark_at marks k)

-- Node k stands in the order.
unfoldable pub is_done : List Mark → ℕ → Bool
is_done marks k = done_test (mark_at marks k)

-- The first places of the order hold the nodes that are done, which have arguments, those of arguments first.
pub record Ordering (nodes arguments : List ℕ) (due : ℕ → ℕ) (heads : List ℕ) (marks : List Mark) (order : List ℕ) (count : ℕ) : Type 0 where
  pub marks_size : length marks ≡ node_count nodes
  pub order_size : length order ≡ node_count nodes
  pub listed : (p : ℕ) → p < count → (word order p < node_count nodes) × (mark_at marks (word order p) ≡ Done)
  pub compound : (p : ℕ) → p < count → 0 < due (word order p)
  pub once : (p q : ℕ) → p < q → q < count → word order p ≡ word order q → ⊥
  pub first : (p : ℕ) → p < count → (j : ℕ) → j < due (word order p) → Met due order p (class_of heads (argument_of nodes arguments (word order p) j))
  pub done : (k : ℕ) → k < node_count nodes → mark_at marks k ≡ Done → (p : ℕ) × (p < count) × (word order p ≡ k)
  pub room : count ≤ count_below (node_count nodes) (is_done marks)

-- What a visit of node h asks: it has arguments, and every open node leads to it.
pub record Visiting (nodes arguments counts heads : List ℕ) (marks : List Mark) (order : List ℕ) (placed h : ℕ) : Type 0 where
  pub sections : Sections nodes arguments
  pub counts_right : Counts nodes arguments counts (node_count nodes)
  pub partition : Partition (node_count nodes) heads
  pub ordering : Ordering nodes arguments (word counts) heads marks order placed
  pub node : h < node_count nodes
  pub compound : 0 < word counts h
  pub leads : (k : ℕ) → k < node_count nodes → mark_at marks k ≡ Open → Leads nodes arguments (word counts) heads k h

-- The marks of nodes that were not new stay, and no node is open that was not.
pub record Later (n : ℕ) (marks later : List Mark) : Type 0 where
  pub kept : (k : ℕ) → k < n → (mark_at marks k ≡ New → ⊥) → mark_at later k ≡ mark_at marks k
  pub none_opened : (k : ℕ) → k < n → mark_at later k ≡ Open → mark_at marks k ≡ Open

-- What a visit of node h leaves where it finds no cycle: h is done.
pub record VisitDone (nodes arguments : List ℕ) (due : ℕ → ℕ) (heads : List ℕ) (marks : List Mark) (h : ℕ) (marks' : List Mark) (order : List ℕ)
    (count : ℕ) : Type 0 where
  pub ordering : Ordering nodes arguments due heads marks' order count
  pub passed : mark_at marks' h ≡ Done
  pub later : Later (node_count nodes) marks marks'

-- Node g is done, if it has arguments.
abbrev pub Settled : (ℕ → ℕ) → List Mark → ℕ → Type 0
Settled due marks g = 0 < due g → mark_at marks g ≡ Done

-- Before argument j of node h is visited, where h is open among these marks: the heads of the arguments before it are done, if they have arguments.
pub record Turn (nodes arguments : List ℕ) (due : ℕ → ℕ) (heads : List ℕ) (marks : List Mark) (h : ℕ) (marks' : List Mark) (order : List ℕ)
    (count j : ℕ) : Type 0 where
  pub ordering : Ordering nodes arguments due heads marks' order count
  pub later : Later (node_count nodes) marks marks'
  pub settled : (i : ℕ) → i < j → Settled due marks' (class_of heads (argument_of nodes arguments h i))

-- What a visit of node h answers and leaves.
abbrev pub Visited : List ℕ → List ℕ → (ℕ → ℕ) → List ℕ → List Mark → ℕ → Result ℕ Cycle → List Mark → List ℕ → Type 0
Visited nodes arguments due heads marks h r marks' order =
    MatchResult r (VisitDone nodes arguments due heads marks h marks' order) (λ _. Looped nodes arguments due heads)

-- What the search starts with: every one of n nodes is new.
pub record Starting (n : ℕ) (marks : List Mark) (order : List ℕ) : Type 0 where
  pub marks_size : length marks ≡ n
  pub order_size : length order ≡ n
  pub new : (k : ℕ) → k < n → mark_at marks k ≡ New

-- Before place i of a list of nodes is looked at: the heads of the nodes before it are done, if arguments of theirs are looked at, and no node is open.
pub record Sweep (nodes arguments : List ℕ) (due : ℕ → ℕ) (heads list : List ℕ) (marks : List Mark) (order : List ℕ) (count i : ℕ) : Type 0 where
  pub ordering : Ordering nodes arguments due heads marks order count
  pub none_open : (k : ℕ) → k < node_count nodes → mark_at marks k ≡ Open → ⊥
  pub swept : (k : ℕ) → k < i → Settled due marks (class_of heads (word list k))

-- What is found of the arguments after one more, whose head is g, where they do not lead on to several heads: g does not lead on where none
-- of its arguments is looked at.
pub data Led (due : ℕ → ℕ) (found : Option Node) (g : Node) : Option Node → Type 0 where
  led_no : due g.0 ≡ 0 → Led due found g found
  led_first : found ≡ None → Led due found g (Some g)
  led_same : (f : Node) → found ≡ Some f → f.0 ≡ g.0 → Led due found g found

-- Node h leads to g by one argument, and none of its first j arguments leads on to another head.
pub record OnlyTo (nodes arguments : List ℕ) (due : ℕ → ℕ) (heads : List ℕ) (h j g : ℕ) : Type 0 where
  pub node : g < node_count nodes
  pub leads : Leads nodes arguments due heads h g
  pub only : (i : ℕ) → i < j → (due (class_of heads (argument_of nodes arguments h i)) ≡ 0) ⊎ (class_of heads (argument_of nodes arguments h i) ≡ g)

-- What is found of the first j arguments of node h, where they do not lead on to several heads.
pub record Onward (nodes arguments : List ℕ) (due : ℕ → ℕ) (heads : List ℕ) (h j : ℕ) (found : Option Node) : Type 0 where
  pub none : found ≡ None → (i : ℕ) → i < j → due (class_of heads (argument_of nodes arguments h i)) ≡ 0
  pub one : (g : Node) → found ≡ Some g → OnlyTo nodes arguments due heads h j g.0

-- An order of node g and whatever it leads to, in which the heads of arguments come first.
pub record OrderedTo (nodes arguments : List ℕ) (due : ℕ → ℕ) (heads : List ℕ) (g : ℕ) : Type 0 where
  pub order : List ℕ
  pub listed : Listed nodes arguments due heads order
  pub met : Met due order (length order) g

-- Node g is come to from node h by only arguments: where there is an order for g, there is one for h.
pub record Followed (nodes arguments : List ℕ) (due : ℕ → ℕ) (heads : List ℕ) (h g : ℕ) : Type 0 where
  pub node : g < node_count nodes
  pub leads : (g ≡ h) ⊎ Leads nodes arguments due heads h g
  pub back : OrderedTo nodes arguments due heads g → OrderedTo nodes arguments due heads h
