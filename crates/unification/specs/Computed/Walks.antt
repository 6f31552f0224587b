-- Walks through arguments. One of as many steps as there are nodes comes to a class twice (`cycle_found`, `found_cycle`).
use Rattle.std.specs.Prelude.{ℕ, zero, suc, Bool, true, false, ◌&&◌, ◌||◌, List, [], ◌∷◌, eqb, length, get_or}
use Rattle.table.specs.Some.{some_below}
use Rattle.unification.specs.Node.{Node, variable, application, node_at, tabulate}
use Rattle.unification.specs.Computed.Classes.{class_of}

-- Node i is marked.
abbrev pub marked : List Bool → ℕ → Bool
marked ms i = get_or ms i false

-- Some node of a list is.
unfoldable pub some_marked : List Bool → List ℕ → Bool
some_marked ms [] = false
some_marked ms (a ∷ us) = marked ms a || some_marked ms us

-- Some argument of a node is.
unfoldable pub leads : List Bool → Node → Bool
leads ms (variable x) = false
leads ms (application f us) = some_marked ms us

-- Node j is in the class of node i and has an argument that is marked.
unfoldable pub leads_at : List Node → List ℕ → List Bool → ℕ → ℕ → Bool
leads_at ns cs ms i j = eqb (class_of cs i) (class_of cs j) && leads ms (node_at ns j)

-- The class of node i has a node with such an argument.
unfoldable pub leads_from : List Node → List ℕ → List Bool → ℕ → Bool
leads_from ns cs ms i = some_below (length ns) (leads_at ns cs ms i)

-- The nodes from whose class a walk of k steps goes out.
unfoldable pub walks : ℕ → List Node → List ℕ → List Bool
walks zero ns cs = tabulate (length ns) (λ i. true)
walks (suc k) ns cs = tabulate (length ns) (leads_from ns cs (walks k ns cs))

-- Some walk has as many steps as there are nodes.
unfoldable pub cyclic : List Node → List ℕ → Bool
cyclic ns cs = some_below (length ns) (marked (walks (length ns) ns cs))
