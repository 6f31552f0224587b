-- The substitution that classes give, each named by a head (`solution_most_general`).
use Rattle.std.specs.Prelude.{ℕ, zero, suc, Bool, true, false, cond, ◌&&◌, List, [], ◌∷◌, eqb, length}
use Rattle.table.specs.Some.{some_below}
use Rattle.terms.specs.Term.{Term, var}
use Rattle.terms.specs.Substitution.{Substitution}
use Rattle.unification.specs.Node.{Node, variable, application, node_at, tabulate, spell}
use Rattle.unification.specs.Computed.Variables.{variables_of}
use Rattle.unification.specs.Computed.Classes.{class_of}

-- The first number of a list with a property; d where there is none.
unfoldable pub first_with : (ℕ → Bool) → ℕ → List ℕ → ℕ
first_with p d [] = d
first_with p d (x ∷ xs) = cond (p x) x (first_with p d xs)

-- The least node with a property; the number of nodes where there is none.
unfoldable pub least_node : List Node → (ℕ → Bool) → ℕ
least_node ns p = first_with p (length ns) (tabulate (length ns) (λ i. i))

-- A node is an application.
unfoldable pub is_application : Node → Bool
is_application (variable x) = false
is_application (application f us) = true

-- A node is of variable x.
unfoldable pub is_variable : ℕ → Node → Bool
is_variable x (variable y) = eqb x y
is_variable x (application f us) = false

-- Node i is of variable x.
unfoldable pub is_node_of : List Node → ℕ → ℕ → Bool
is_node_of ns x i = is_variable x (node_at ns i)

-- The least node of a variable (`node_of`).
unfoldable pub node_of : List Node → ℕ → ℕ
node_of ns x = least_node ns (is_node_of ns x)

-- The terms of nodes where each stands for its head, spelt out for k steps.
unfoldable pub resolved : ℕ → List Node → (ℕ → ℕ) → ℕ → Term
resolved zero ns head i = var 0
resolved (suc k) ns head i = spell (resolved k ns head) (node_at ns (head i))

-- The term of a variable is that of its node.
unfoldable pub solution : ℕ → List Node → (ℕ → ℕ) → Substitution
solution k ns head x = resolved k ns head (node_of ns x)

-- Node j is an application in the class of node i.
unfoldable pub is_application_in : List Node → List ℕ → ℕ → ℕ → Bool
is_application_in ns cs i j = eqb (class_of cs i) (class_of cs j) && is_application (node_at ns j)

-- Variable x has a node in the class of node i.
unfoldable pub is_variable_in : List Node → List ℕ → ℕ → ℕ → Bool
is_variable_in ns cs i x = eqb (class_of cs i) (class_of cs (node_of ns x))

-- The head of node i: the least application of its class, otherwise the least node of the lowest variable of its class.
unfoldable pub head_in : List Node → List ℕ → ℕ → ℕ
head_in ns cs i =
    cond (some_below (length ns) (is_application_in ns cs i))
    (least_node ns (is_application_in ns cs i))
    (node_of ns (first_with (is_variable_in ns cs i) 0 (variables_of ns)))
