-- Classes on the way to the closure of a list of pairs, and what joining two nodes comes to.
use Rattle.std.specs.Prelude.{ℕ, ◌<◌, ◌≤◌, Bool, true, false, ◌≡◌, length}
use mathlib.Core.List.{List, ◌∷◌, Memᴰ, zip}
use Rattle.table.specs.Layout.{count_of, node_count, argument_of}
use Rattle.unification.specs.Node.{Node, variable, application, node_at, tabulate, nodes_from}
use Rattle.unification.specs.Closure.{Joined, Clash}
use Rattle.unification.specs.Computed.Classes.{class_of}
use Rattle.unification.specs.Code.Heads.{Partition, roots, Unites}
use Rattle.unification.specs.Code.Sections.{Sections}
use Rattle.classes.specs.declared.closure.Strength.{Strength}
use Rattle.classes.specs.declared.closure.Strength.TheVariants.{Variable, Open, Closed}
use Rattle.nodes.specs.Code.Open.{Counts, ClosedHeads, KeepsClosed}
use Rattle.nodes.specs.Code.Trail.{Trailed, Merges}

-- The number of a strength.
abbrev pub level : Strength → ℕ
level Variable = 0
level Open = 1
level Closed = 2

-- Nodes of one class are of one class of ds.
abbrev pub Coarser : List ℕ → List ℕ → Type 0
Coarser heads ds = (i j : ℕ) → i < length heads → j < length heads → class_of heads i ≡ class_of heads j → class_of ds i ≡ class_of ds j

-- Nodes a and b are of one class, or will be when the pairs of todo are joined.
abbrev pub Linked : List ℕ → List (ℕ × ℕ) → ℕ → ℕ → Type 0
Linked heads todo a b = (ds : List ℕ) → Coarser heads ds → Unites ds todo → class_of ds a ≡ class_of ds b

-- The head of node i has its symbol, and their arguments are linked.
pub record HeadLinks (ns : List Node) (heads : List ℕ) (todo : List (ℕ × ℕ)) (i f : ℕ) (us : List ℕ) : Type 0 where
  pub arguments : List ℕ
  pub applied : node_at ns (class_of heads i) ≡ application f arguments
  pub as_long : length us ≡ length arguments
  pub linked : (a b : ℕ) → Memᴰ (a, b) (zip us arguments) → Linked heads todo a b

-- Classes that are the closure but for the pairs of todo, which are still to be joined.
pub record ClosureUpTo (ns : List Node) (ps : List (ℕ × ℕ)) (heads : List ℕ) (todo : List (ℕ × ℕ)) : Type 0 where
  pub joined : (i : ℕ) → i < length ns → Joined ns ps i (class_of heads i)
  pub wanted : (a b : ℕ) → Memᴰ (a, b) todo → Joined ns ps a b
  pub given : (a b : ℕ) → Memᴰ (a, b) ps → Linked heads todo a b
  pub one_variable : (i j x : ℕ) → i < length ns → j < length ns → node_at ns i ≡ variable x → node_at ns j ≡ variable x →
      class_of heads i ≡ class_of heads j
  pub applications : (i f : ℕ) (us : List ℕ) → i < length ns → node_at ns i ≡ application f us → HeadLinks ns heads todo i f us

-- Arguments j of nodes g and h.
unfoldable pub argument_pair : List ℕ → List ℕ → ℕ → ℕ → ℕ → ℕ × ℕ
argument_pair nodes arguments g h j = (argument_of nodes arguments g j, argument_of nodes arguments h j)

-- The pairs of arguments of nodes g and h.
unfoldable pub argument_pairs : List ℕ → List ℕ → ℕ → ℕ → List (ℕ × ℕ)
argument_pairs nodes arguments g h = tabulate (count_of nodes g) (argument_pair nodes arguments g h)

-- What joining needs to know: of the sections, of open and closed applications, and of the classes.
pub record Joinable (nodes arguments counts heads next : List ℕ) : Type 0 where
  pub sections : Sections nodes arguments
  pub counts_right : Counts nodes arguments counts (node_count nodes)
  pub partition : Partition (node_count nodes) heads
  pub closed : ClosedHeads nodes arguments counts heads
  pub trailed : Trailed (node_count nodes) heads next

-- What joining nodes a and b comes to: the pair is done, and whatever the closure then joins, or there is a clash. Heads that are left were
-- heads before, and closed applications keep theirs.
pub record Joins (nodes arguments counts heads next : List ℕ) (a b : ℕ) (fine : Bool) (heads' next' : List ℕ) : Type 0 where
  pub partition : Partition (node_count nodes) heads'
  pub merges : Merges (node_count nodes) heads next heads' next'
  pub fewer : roots (node_count nodes) heads' ≤ roots (node_count nodes) heads
  pub stay : (i : ℕ) → i < node_count nodes → class_of heads (class_of heads' i) ≡ class_of heads' i
  pub kept : KeepsClosed nodes counts heads heads'
  pub done : fine ≡ true → (ps todo : List (ℕ × ℕ)) → ClosureUpTo (nodes_from nodes arguments) ps heads ((a, b) ∷ todo) →
      ClosureUpTo (nodes_from nodes arguments) ps heads' todo
  pub clashes : fine ≡ false → (ps todo : List (ℕ × ℕ)) → ClosureUpTo (nodes_from nodes arguments) ps heads ((a, b) ∷ todo) →
      Clash (nodes_from nodes arguments) ps

-- What joining nodes a and b at once comes to: the pair is done, or nothing has changed.
pub record JoinsAtOnce (nodes arguments counts heads next : List ℕ) (a b : ℕ) (r : Bool) (heads' next' : List ℕ) : Type 0 where
  pub joins : r ≡ true → Joins nodes arguments counts heads next a b true heads' next'
  pub same : r ≡ false → (heads' ≡ heads) × (next' ≡ next)
