-- The nodes of a table, their terms, and the variables present.
use Rattle.std.specs.Prelude.{ℕ, zero, suc, ◌<◌, cond, List, [], ◌∷◌, ◌++◌, ◌≡◌, eqb, length, get_or, take, drop}
use Rattle.table.specs.Layout.{nodes_of, arguments_of, kind_of, name_of, first_of, count_of, node_count}
use Rattle.terms.specs.Term.{Term, var, app, Terms, nil, cons}

-- A variable, or an application of a name to argument nodes.
pub data Node : Type 0 where
  variable : ℕ → Node
  application : ℕ → List ℕ → Node

-- The list of f 0 to f (n - 1).
unfoldable pub tabulate : {A : Type 0} → ℕ → (ℕ → A) → List A
tabulate zero f = []
tabulate (suc n) f = tabulate n f ++ (f n ∷ [])

-- Node i of a nodes section. "Kind 0 is a variable"; "Kind 1 is an application".
unfoldable pub read_node : List ℕ → List ℕ → ℕ → Node
read_node nodes arguments i =
    cond (eqb (kind_of nodes i) 0)
    (variable (name_of nodes i))
    (application (name_of nodes i) (take (count_of nodes i) (drop (first_of nodes i) arguments)))

-- The nodes of a nodes section, with its arguments section.
unfoldable pub nodes_from : List ℕ → List ℕ → List Node
nodes_from nodes arguments = tabulate (node_count nodes) (read_node nodes arguments)

-- The nodes of a table.
unfoldable pub nodes_in : List ℕ → List Node
nodes_in t = nodes_from (nodes_of t) (arguments_of t)

-- Node i. Past the end it is variable 0, and of no account.
abbrev pub node_at : List Node → ℕ → Node
node_at ns i = get_or ns i (variable 0)

-- The terms of a list of nodes, given the term of each node.
unfoldable pub each : (ℕ → Term) → List ℕ → Terms
each v [] = nil
each v (a ∷ us) = cons (v a) (each v us)

-- A node spelt out, given the terms of its arguments.
unfoldable pub spell : (ℕ → Term) → Node → Term
spell v (variable x) = var x
spell v (application f us) = app f (each v us)

-- The term of node i, spelt out for k steps.
unfoldable pub term_within : ℕ → List Node → ℕ → Term
term_within zero ns i = var 0
term_within (suc k) ns i = spell (term_within k ns) (node_at ns i)

-- The term of node i. An argument's number is smaller than that of its node, so that i + 1 steps are enough (`term_node`).
unfoldable pub term_of : List Node → ℕ → Term
term_of ns i = term_within (suc i) ns i

-- "variable present in the nodes section"
abbrev pub Present : List Node → ℕ → Type 0
Present ns x = (i : ℕ) × (i < length ns) × (node_at ns i ≡ variable x)
