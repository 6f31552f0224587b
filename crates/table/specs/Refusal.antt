-- The refusal that a table gets.
use Rattle.std.specs.Prelude.{ℕ, Bool, cond, ◌||◌, List, [], ◌∷◌}
use Rattle.table.specs.Limits.{sections}
use Rattle.table.specs.Layout.{nodes_of, arguments_of, left_terms_of, right_terms_of, labels_of, node_count}
use Rattle.table.specs.Conditions.{too_few_words, broken_pair, over_limit, wrong_node, wrong_argument, wrong_term, wrong_label}

-- The conditions in the order in which they are tried, each with its number.
-- "Each number is tried over the whole table before the next."
unfoldable pub conditions : List ℕ → List (ℕ × Bool)
conditions t =
    (1, too_few_words sections t) ∷ (2, broken_pair sections t) ∷ (3, over_limit sections t) ∷
    (4, wrong_node (nodes_of t) (arguments_of t)) ∷ (5, wrong_argument (nodes_of t) (arguments_of t)) ∷
    (6, wrong_term (node_count (nodes_of t)) (left_terms_of t) || wrong_term (node_count (nodes_of t)) (right_terms_of t)) ∷
    (7, wrong_label (labels_of t)) ∷ []

-- The number of the first that holds, 0 where none does.
unfoldable pub first_held : List (ℕ × Bool) → ℕ
first_held [] = 0
first_held (c ∷ cs) = cond c.1 c.0 (first_held cs)

-- The number of the refusal that a table gets, 0 where it is accepted.
unfoldable pub refusal : List ℕ → ℕ
refusal t = first_held (conditions t)
