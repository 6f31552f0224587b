-- Calls of `unify` beside document 01's starred examples, by computation from the definitions. Assumes nothing.
use Prim.Native.Nat.{ℕ}
use mathlib.Core.List.{List, [], ◌∷◌, map, zip, zip_with}
use mathlib.Core.Path.{◌≡◌, refl}
use native.Mathlib.Decide.{ℕ_discrete}
use lib.ListN.{length}
use Rattle.table.specs.Layout.{counts_before}
use Rattle.table.specs.Some.{some_below}
use Rattle.table.specs.Conditions.{too_few_words, end_before, offset_is_wrong, broken_pair, words_are_wrong, size_is_wrong, over_limit, right_variable, start_of, right_application, right_node, node_is_wrong, wrong_node, argument_is_wrong, run_is_wrong, wrong_argument, term_is_wrong, wrong_term, labels_are_equal, label_is_wrong, wrong_label}
use Rattle.table.specs.Refusal.{conditions, first_held}
use Rattle.terms.specs.Term.{equal}
use Rattle.terms.specs.Substitution.{sub}
use Rattle.unification.specs.Node.{variable, application, tabulate, read_node, nodes_from, nodes_in, each, spell, term_within, term_of}
use Rattle.unification.specs.Computed.Variables.{insert, variables_of}
use Rattle.unification.specs.Computed.Classes.{renamed, join, join_all, same_symbol, asks, gather, asked, round, rounds, classes, differ, clash_at, clash_with, clashes}
use Rattle.unification.specs.Computed.Walks.{some_marked, leads, leads_at, leads_from, walks, cyclic}
use Rattle.unification.specs.Computed.Solution.{first_with, least_node, is_application, is_variable, is_node_of, node_of, resolved, solution, is_application_in, is_variable_in, head_in}
use Rattle.unification.specs.Computed.Binding.{is_bound_to, has_value, word_for, word_of, binding_words}
use Rattle.unification.specs.Outcome.{unified, clash}
use Rattle.unification.specs.Computed.Unifying.{outcome, unifier, words_of}
use Rattle.unification.specs.Answer.{variable_count, unify_conditions, Answer, ended, refused, answer_after, unification, words_after, lent_after}

-- 0 x, 1 f(x)
abbrev pub x_fx : List ℕ
x_fx =
    12 ∷ 8 ∷ 20 ∷ 1 ∷ 21 ∷ 0 ∷ 21 ∷ 0 ∷ 21 ∷ 0 ∷ 21 ∷ 0 ∷ 0 ∷ 0 ∷ 0 ∷ 0 ∷ 1 ∷ 3 ∷ 0 ∷ 1 ∷ 0 ∷ []

-- 0 y, 1 x
abbrev pub y_x : List ℕ
y_x =
    12 ∷ 8 ∷ 20 ∷ 0 ∷ 20 ∷ 0 ∷ 20 ∷ 0 ∷ 20 ∷ 0 ∷ 20 ∷ 0 ∷ 0 ∷ 1 ∷ 0 ∷ 0 ∷ 0 ∷ 0 ∷ 0 ∷ 0 ∷ []

-- 0 variable 64
abbrev wrong_name : List ℕ
wrong_name =
    12 ∷ 4 ∷ 16 ∷ 0 ∷ 16 ∷ 0 ∷ 16 ∷ 0 ∷ 16 ∷ 0 ∷ 16 ∷ 0 ∷ 0 ∷ 64 ∷ 0 ∷ 0 ∷ []

-- 0 x, 1 y, 2 f(y), 3 f(x), 4 z, 5 p(x, z), 6 p(y, f(x))
abbrev equal_values : List ℕ
equal_values =
    12 ∷ 28 ∷ 40 ∷ 6 ∷ 46 ∷ 0 ∷ 46 ∷ 0 ∷ 46 ∷ 0 ∷ 46 ∷ 0 ∷ 0 ∷ 0 ∷ 0 ∷ 0 ∷ 0 ∷ 1 ∷ 0 ∷ 0 ∷ 1 ∷ 3 ∷ 0 ∷ 1 ∷ 1 ∷ 3 ∷ 1 ∷ 1 ∷ 0 ∷ 2 ∷ 0 ∷ 0 ∷ 1 ∷ 5 ∷ 2
    ∷ 2 ∷ 1 ∷ 5 ∷ 4 ∷ 2 ∷ 1 ∷ 0 ∷ 0 ∷ 4 ∷ 1 ∷ 3 ∷ []

-- 0 x, 1 a, 2 a, 3 x, 4 a, 5 f(a, x), 6 f(a, a)
abbrev pub repeats : List ℕ
repeats =
    12 ∷ 28 ∷ 40 ∷ 4 ∷ 44 ∷ 0 ∷ 44 ∷ 0 ∷ 44 ∷ 0 ∷ 44 ∷ 0 ∷ 0 ∷ 0 ∷ 0 ∷ 0 ∷ 1 ∷ 1 ∷ 0 ∷ 0 ∷ 1 ∷ 1 ∷ 0 ∷ 0 ∷ 0 ∷ 0 ∷ 0 ∷ 0 ∷ 1 ∷ 1 ∷ 0 ∷ 0 ∷ 1 ∷ 3 ∷ 0
    ∷ 2 ∷ 1 ∷ 3 ∷ 2 ∷ 2 ∷ 1 ∷ 3 ∷ 2 ∷ 4 ∷ []

-- 0 a, 1 variable 63, 2 variable 4
abbrev pub apart : List ℕ
apart =
    12 ∷ 12 ∷ 24 ∷ 0 ∷ 24 ∷ 0 ∷ 24 ∷ 0 ∷ 24 ∷ 0 ∷ 24 ∷ 0 ∷ 1 ∷ 1 ∷ 0 ∷ 0 ∷ 0 ∷ 63 ∷ 0 ∷ 0 ∷ 0 ∷ 4 ∷ 0 ∷ 0 ∷ []

-- 0 x, 1 x
abbrev x_twice : List ℕ
x_twice =
    12 ∷ 8 ∷ 20 ∷ 0 ∷ 20 ∷ 0 ∷ 20 ∷ 0 ∷ 20 ∷ 0 ∷ 20 ∷ 0 ∷ 0 ∷ 0 ∷ 0 ∷ 0 ∷ 0 ∷ 0 ∷ 0 ∷ 0 ∷ []

-- A table, two of its nodes and lent words; then the answer and the lent words after the call.
abbrev Call : Type 0
Call = List ℕ × ℕ × ℕ × List ℕ × Answer × List ℕ

-- The calls.
abbrev pub calls : List Call
calls =
    -- as many words as variables
    (y_x, 0, 1, 7 ∷ 8 ∷ [], ended unified, 1 ∷ 1 ∷ []) ∷
    -- a word too few
    (y_x, 0, 1, 7 ∷ [], refused 9, 7 ∷ []) ∷
    -- 9 is tested before unifying
    (x_fx, 0, 1, [], refused 9, []) ∷
    -- 8 goes before 9
    (y_x, 0, 2, 7 ∷ [], refused 8, 7 ∷ []) ∷
    -- 4 goes before 8
    (wrong_name, 0, 1, 7 ∷ [], refused 4, 7 ∷ []) ∷
    -- z gets the value of node 3, and the word of the least node with that value, which nothing joins with node 3
    (equal_values, 5, 6, 7 ∷ 8 ∷ 9 ∷ [], ended unified, 0 ∷ 0 ∷ 2 ∷ []) ∷
    -- the least of three nodes of one constant
    (repeats, 5, 6, 7 ∷ [], ended unified, 1 ∷ []) ∷
    -- variables in neither term, in rising order
    (apart, 0, 0, 7 ∷ 8 ∷ [], ended unified, 2 ∷ 1 ∷ []) ∷
    -- the least of two nodes of one variable
    (x_twice, 1, 1, 7 ∷ [], ended unified, 0 ∷ []) ∷
    []

-- What the definitions compute for a call.
abbrev pub computed : Call → Answer × List ℕ
computed e = (unification e.0 e.1 e.2 (length e.3), lent_after e.0 e.1 e.2 e.3)

-- what the definitions compute is what stands beside each call
pub further : map computed calls ≡ map (λ e. (e.4, e.5)) calls
unfolding ℕ_discrete counts_before some_below too_few_words end_before offset_is_wrong broken_pair words_are_wrong size_is_wrong over_limit
    right_variable start_of right_application right_node node_is_wrong wrong_node argument_is_wrong run_is_wrong wrong_argument term_is_wrong
    wrong_term labels_are_equal label_is_wrong wrong_label conditions first_held equal sub tabulate read_node nodes_from nodes_in each spell
    term_within term_of zip zip_with insert variables_of renamed join join_all same_symbol asks gather asked round rounds classes differ clash_at
    clash_with clashes some_marked leads leads_at leads_from walks cyclic first_with least_node is_application is_variable is_node_of node_of
    resolved solution is_application_in is_variable_in head_in is_bound_to has_value word_for word_of binding_words outcome unifier words_of
    variable_count unify_conditions answer_after unification words_after lent_after
further = refl

-- x with a and x with b, together: {x, x} and {a, b} has no entry
pub pairs_together : outcome (variable 0 ∷ application 1 [] ∷ application 2 [] ∷ []) ((0, 1) ∷ (0, 2) ∷ []) ≡ clash
unfolding some_below tabulate zip zip_with renamed join join_all same_symbol asks gather asked round rounds classes differ clash_at clash_with
    clashes some_marked leads leads_at leads_from walks cyclic outcome
pairs_together = refl
