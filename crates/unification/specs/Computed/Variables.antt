-- The list of the variables present.
use Rattle.std.specs.Prelude.{ℕ, cond, List, [], ◌∷◌, eqb, ltb}
use Rattle.unification.specs.Node.{Node, variable, application}

-- A number put in its place in a rising list, where it is not there yet.
unfoldable pub insert : ℕ → List ℕ → List ℕ
insert x [] = x ∷ []
insert x (y ∷ ys) = cond (ltb x y) (x ∷ y ∷ ys) (cond (eqb x y) (y ∷ ys) (y ∷ insert x ys))

-- The variables present, in rising order (`variables_are`, `variables_one`).
unfoldable pub variables_of : List Node → List ℕ
variables_of [] = []
variables_of (variable x ∷ ns) = insert x (variables_of ns)
variables_of (application f us ∷ ns) = variables_of ns
