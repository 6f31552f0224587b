-- The classes of the closure, as a list that names one node of each node's class (`class_joined`, `joined_class`), and whether they clash.
use Rattle.std.specs.Prelude.{ℕ, zero, suc, Bool, false, not, cond, ◌&&◌, eqb, length, get_or}
use mathlib.Core.List.{List, [], ◌∷◌, ◌++◌, map, zip}
use Rattle.table.specs.Some.{some_below}
use Rattle.unification.specs.Node.{Node, variable, application, node_at, tabulate}

-- The class of node i.
abbrev pub class_of : List ℕ → ℕ → ℕ
class_of cs i = get_or cs i 0

-- One class in place of another.
unfoldable pub renamed : ℕ → ℕ → ℕ → ℕ
renamed b a c = cond (eqb c b) a c

-- The second node's class becomes a part of the first one's.
unfoldable pub join : List ℕ → ℕ × ℕ → List ℕ
join cs p = map (renamed (class_of cs p.1) (class_of cs p.0)) cs

-- All pairs joined.
unfoldable pub join_all : List ℕ → List (ℕ × ℕ) → List ℕ
join_all cs [] = cs
join_all cs (p ∷ ps) = join_all (join cs p) ps

-- The test of `OneSymbol` (`symbol_means`).
unfoldable pub same_symbol : ℕ → List ℕ → ℕ → List ℕ → Bool
same_symbol f us g vs = eqb f g && eqb (length us) (length vs)

-- What the closure asks of two nodes, i and j, that are in one class or not.
unfoldable pub asks : Bool → ℕ → ℕ → Node → Node → List (ℕ × ℕ)
asks joined i j (variable x) (variable y) = cond (eqb x y) ((i, j) ∷ []) []
asks joined i j (variable x) (application g vs) = []
asks joined i j (application f us) (variable y) = []
asks joined i j (application f us) (application g vs) = cond (joined && same_symbol f us g vs) (zip us vs) []

-- The lists of all numbers below n, one after the other.
unfoldable pub gather : {A : Type 0} → ℕ → (ℕ → List A) → List A
gather zero f = []
gather (suc n) f = gather n f ++ f n

-- What it asks of nodes i and j under these classes.
unfoldable pub asked : List Node → List ℕ → ℕ → ℕ → List (ℕ × ℕ)
asked ns cs i j = asks (eqb (class_of cs i) (class_of cs j)) i j (node_at ns i) (node_at ns j)

-- One round: joins all that the closure asks of any two nodes.
unfoldable pub round : List Node → List ℕ → List ℕ
round ns cs = join_all cs (gather (length ns) (λ i. gather (length ns) (asked ns cs i)))

-- So many rounds.
unfoldable pub rounds : ℕ → List Node → List ℕ → List ℕ
rounds zero ns cs = cs
rounds (suc k) ns cs = rounds k ns (round ns cs)

-- Each node by itself, the given pairs joined, and then as many rounds as there are nodes: a round that joins nothing is the last that matters.
unfoldable pub classes : List Node → List (ℕ × ℕ) → List ℕ
classes ns ps = rounds (length ns) ns (join_all (tabulate (length ns) (λ i. i)) ps)

-- Applications of different symbols.
unfoldable pub differ : Node → Node → Bool
differ (variable x) n = false
differ (application f us) (variable y) = false
differ (application f us) (application g vs) = not (same_symbol f us g vs)

-- Nodes i and j are in one class and are applications of different symbols.
unfoldable pub clash_at : List Node → List ℕ → ℕ → ℕ → Bool
clash_at ns cs i j = eqb (class_of cs i) (class_of cs j) && differ (node_at ns i) (node_at ns j)

-- Node i clashes with some node.
unfoldable pub clash_with : List Node → List ℕ → ℕ → Bool
clash_with ns cs i = some_below (length ns) (clash_at ns cs i)

-- Some node clashes (`clash_found`, `found_clash`).
unfoldable pub clashes : List Node → List ℕ → Bool
clashes ns cs = some_below (length ns) (clash_with ns cs)
