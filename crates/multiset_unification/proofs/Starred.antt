-- Document 01's starred examples 1 to 12, and some calls beside them, by computation from the definitions. Assumes nothing.
use Prim.Native.Nat.{ℕ}
use mathlib.Core.List.{List, [], ◌∷◌, map, flatten, flat_map, zip, zip_with}
use mathlib.Core.Path.{◌≡◌, refl}
use lib.ListN.{length}
use Rattle.std.specs.Prelude.{Result, Ok, Err}
use Rattle.table.specs.declared.Refusal.{Refusal}
use native.Mathlib.Decide.{ℕ_discrete}
use Rattle.table.specs.Layout.{counts_before}
use Rattle.table.specs.Some.{some_below}
use Rattle.table.specs.Conditions.{too_few_words, end_before, offset_is_wrong, broken_pair, words_are_wrong, size_is_wrong, over_limit, right_variable, start_of, right_application, right_node, node_is_wrong, wrong_node, argument_is_wrong, run_is_wrong, wrong_argument, term_is_wrong, wrong_term, labels_are_equal, label_is_wrong, wrong_label}
use Rattle.table.specs.Refusal.{conditions, first_held, refusal}
use Rattle.table.specs.declared.Refusal.TheVariants.{WrongLabel}
use Rattle.terms.specs.Term.{equal}
use Rattle.terms.specs.Substitution.{sub}
use Rattle.unification.specs.Node.{variable, application, tabulate, read_node, nodes_from, nodes_in, each, spell, term_within, term_of}
use Rattle.unification.specs.Computed.Variables.{insert, variables_of}
use Rattle.unification.specs.Computed.Classes.{renamed, join, join_all, same_symbol, asks, gather, asked, round, rounds, classes, differ, clash_at, clash_with, clashes}
use Rattle.unification.specs.Computed.Walks.{some_marked, leads, leads_at, leads_from, walks, cyclic}
use Rattle.unification.specs.Computed.Solution.{first_with, least_node, is_application, is_variable, is_node_of, node_of, resolved, solution, is_application_in, is_variable_in, head_in}
use Rattle.unification.specs.Computed.Binding.{is_bound_to, has_value, word_for, word_of, binding_words}
use Rattle.unification.specs.Computed.Unifying.{outcome, unifier, words_of}
use Rattle.unification.specs.declared.Unification.{Unification}
use Rattle.unification.specs.declared.Unification.TheVariants.{Unified, Clash, Occurs}
use Rattle.unification.specs.Answer.{variable_count, unify_conditions, Answer, answer_after, unification, words_after}
use Rattle.unification.proofs.Calls.{x_fx, y_x}
use Rattle.multiset_unification.specs.declared.Listing.{Listing}
use Rattle.multiset_unification.specs.declared.Listing.TheVariants.{Finished, Full}
use Rattle.multiset_unification.specs.Problem.{Problem, problem_of}
use Rattle.multiset_unification.specs.Choice.{pairs}
use Rattle.multiset_unification.specs.Entry.{shares, pairs_of, entry_of}
use Rattle.multiset_unification.specs.Computed.Choices.{among, branch, rights, lefts, choices}
use Rattle.multiset_unification.specs.Computed.Listing.{kept, half_choices, cross, halves_choices, admissible_listing, complete_listing}
use Rattle.multiset_unification.specs.Answer.{Told, told, list_conditions, fitting, entries_left, listed, lent_after}

-- {a, a | M} and {a | N}
abbrev pub two_and_one : List ℕ
two_and_one =
    12 ∷ 4 ∷ 16 ∷ 0 ∷ 16 ∷ 2 ∷ 18 ∷ 1 ∷ 19 ∷ 1 ∷ 20 ∷ 1 ∷ 1 ∷ 1 ∷ 0 ∷ 0 ∷ 0 ∷ 0 ∷ 1 ∷ 0 ∷ 2 ∷ []

-- {} and {}
abbrev pub nothing : List ℕ
nothing = 12 ∷ 0 ∷ 12 ∷ 0 ∷ 12 ∷ 0 ∷ 12 ∷ 0 ∷ 12 ∷ 0 ∷ 12 ∷ 0 ∷ []

-- {a | M} and {}
abbrev pub one_and_none : List ℕ
one_and_none = 12 ∷ 4 ∷ 16 ∷ 0 ∷ 16 ∷ 1 ∷ 17 ∷ 1 ∷ 18 ∷ 0 ∷ 18 ∷ 0 ∷ 1 ∷ 1 ∷ 0 ∷ 0 ∷ 0 ∷ 1 ∷ []

-- {a} and { | N}
abbrev pub one_and_label : List ℕ
one_and_label = 12 ∷ 4 ∷ 16 ∷ 0 ∷ 16 ∷ 1 ∷ 17 ∷ 0 ∷ 17 ∷ 0 ∷ 17 ∷ 1 ∷ 1 ∷ 1 ∷ 0 ∷ 0 ∷ 0 ∷ 2 ∷ []

-- { | M} and {}
abbrev pub label_and_none : List ℕ
label_and_none = 12 ∷ 0 ∷ 12 ∷ 0 ∷ 12 ∷ 0 ∷ 12 ∷ 1 ∷ 13 ∷ 0 ∷ 13 ∷ 0 ∷ 1 ∷ []

-- {x, x} and {a, b}
abbrev pub x_twice_and_two : List ℕ
x_twice_and_two =
    12 ∷ 12 ∷ 24 ∷ 0 ∷ 24 ∷ 2 ∷ 26 ∷ 0 ∷ 26 ∷ 2 ∷ 28 ∷ 0 ∷ 0 ∷ 0 ∷ 0 ∷ 0 ∷ 1 ∷ 1 ∷ 0 ∷ 0 ∷ 1 ∷ 2 ∷ 0 ∷ 0 ∷ 0 ∷ 0 ∷ 1 ∷ 2 ∷ []

-- 0 x, 1 f(x); {0} and {1}
abbrev pub x_and_fx : List ℕ
x_and_fx =
    12 ∷ 8 ∷ 20 ∷ 1 ∷ 21 ∷ 1 ∷ 22 ∷ 0 ∷ 22 ∷ 1 ∷ 23 ∷ 0 ∷ 0 ∷ 0 ∷ 0 ∷ 0 ∷ 1 ∷ 3 ∷ 0 ∷ 1 ∷ 0 ∷ 0 ∷ 1 ∷ []

-- {a} and { | N, P}
abbrev pub one_and_labels : List ℕ
one_and_labels =
    12 ∷ 4 ∷ 16 ∷ 0 ∷ 16 ∷ 1 ∷ 17 ∷ 0 ∷ 17 ∷ 0 ∷ 17 ∷ 2 ∷ 1 ∷ 1 ∷ 0 ∷ 0 ∷ 0 ∷ 2 ∷ 3 ∷ []

-- { | M} and { | M}
abbrev pub label_twice : List ℕ
label_twice = 12 ∷ 0 ∷ 12 ∷ 0 ∷ 12 ∷ 0 ∷ 12 ∷ 1 ∷ 13 ∷ 0 ∷ 13 ∷ 1 ∷ 1 ∷ 1 ∷ []

-- 0 a, 1 x, 2 y, 3 f(x), 4 f(y), 5 f(a); {3, 4} and {5, 5}
abbrev pub two_and_two : List ℕ
two_and_two =
    12 ∷ 24 ∷ 36 ∷ 3 ∷ 39 ∷ 2 ∷ 41 ∷ 0 ∷ 41 ∷ 2 ∷ 43 ∷ 0 ∷ 1 ∷ 1 ∷ 0 ∷ 0 ∷ 0 ∷ 0 ∷ 0 ∷ 0 ∷ 0 ∷ 1 ∷ 0 ∷ 0 ∷ 1 ∷ 3 ∷ 0 ∷ 1 ∷ 1 ∷ 3 ∷ 1 ∷ 1 ∷ 1 ∷ 3 ∷ 2
    ∷ 1 ∷ 1 ∷ 2 ∷ 0 ∷ 3 ∷ 4 ∷ 5 ∷ 5 ∷ []

-- 0 x, 1 a, 2 b, 3 g(x), 4 f(x, a), 5 f(g(x), b)
abbrev pub clash_and_cycle : List ℕ
clash_and_cycle =
    12 ∷ 24 ∷ 36 ∷ 5 ∷ 41 ∷ 0 ∷ 41 ∷ 0 ∷ 41 ∷ 0 ∷ 41 ∷ 0 ∷ 0 ∷ 0 ∷ 0 ∷ 0 ∷ 1 ∷ 1 ∷ 0 ∷ 0 ∷ 1 ∷ 2 ∷ 0 ∷ 0 ∷ 1 ∷ 4 ∷ 0 ∷ 1 ∷ 1 ∷ 3 ∷ 1 ∷ 2 ∷ 1 ∷ 3 ∷ 3
    ∷ 2 ∷ 0 ∷ 0 ∷ 1 ∷ 3 ∷ 2 ∷ []

-- 0 x, 1 a, 2 f(x), 3 p(x, x), 4 p(f(x), a)
abbrev pub p_terms : List ℕ
p_terms =
    12 ∷ 20 ∷ 32 ∷ 5 ∷ 37 ∷ 0 ∷ 37 ∷ 0 ∷ 37 ∷ 0 ∷ 37 ∷ 0 ∷ 0 ∷ 0 ∷ 0 ∷ 0 ∷ 1 ∷ 1 ∷ 0 ∷ 0 ∷ 1 ∷ 3 ∷ 0 ∷ 1 ∷ 1 ∷ 5 ∷ 1 ∷ 2 ∷ 1 ∷ 5 ∷ 3 ∷ 2 ∷ 0 ∷ 0 ∷ 0
    ∷ 2 ∷ 1 ∷ []

-- 0 a, 1 f(a), 2 f(a, a)
abbrev pub two_counts : List ℕ
two_counts =
    12 ∷ 12 ∷ 24 ∷ 3 ∷ 27 ∷ 0 ∷ 27 ∷ 0 ∷ 27 ∷ 0 ∷ 27 ∷ 0 ∷ 1 ∷ 1 ∷ 0 ∷ 0 ∷ 1 ∷ 3 ∷ 0 ∷ 1 ∷ 1 ∷ 3 ∷ 1 ∷ 2 ∷ 0 ∷ 0 ∷ 0 ∷ []

-- A call: listing a table, or unifying two of its nodes.
pub data Call : Type 0 where
  list : List ℕ → Call
  unify : List ℕ → ℕ → ℕ → Call

-- Its answer, as the operation gives it.
pub data Given : Type 0 where
  listing : Result Listing Refusal → Given
  unifying : Result Unification Refusal → Given

-- What an answer stands for: a listing's number and entries, or what unifying comes to.
pub data Meaning : Type 0 where
  listing_is : Told → Meaning
  outcome_is : Answer → Meaning

-- What each answer stands for.
abbrev pub stands_for : Given → Meaning
stands_for (listing r) = listing_is (told r)
stands_for (unifying r) = outcome_is (Rattle.unification.specs.Answer.told r)

-- A call with lent words; then the answer and the lent words after the call.
abbrev pub Example : Type 0
Example = Call × List ℕ × Given × List ℕ

-- Document 01's starred examples, and some calls beside them.
abbrev pub examples : List Example
examples =
    -- 1: "entries 3", and then `1 2 0`, `2 1 0` and `2 2 1`
    (list two_and_one, 7 ∷ 7 ∷ 7 ∷ 7 ∷ 7 ∷ 7 ∷ 7 ∷ 7 ∷ 7 ∷ 7 ∷ [], listing (Ok (Finished 3)), 1 ∷ 2 ∷ 0 ∷ 2 ∷ 1 ∷ 0 ∷ 2 ∷ 2 ∷ 1 ∷ 7 ∷ []) ∷
    -- 2: "The same with 8 words lent: full, 2 entries, the last 2 words unchanged."
    (list two_and_one, 7 ∷ 7 ∷ 7 ∷ 7 ∷ 7 ∷ 7 ∷ 8 ∷ 9 ∷ [], listing (Ok (Full 2)), 1 ∷ 2 ∷ 0 ∷ 2 ∷ 1 ∷ 0 ∷ 8 ∷ 9 ∷ []) ∷
    -- 3: "Both sides empty (12 words): 1 entry of 0 words", in one lent word and in none
    (list nothing, 7 ∷ [], listing (Ok (Finished 1)), 7 ∷ []) ∷
    (list nothing, [], listing (Ok (Finished 1)), []) ∷
    -- 4: "{a | M} and {}: 0 entries."
    (list one_and_none, 7 ∷ [], listing (Ok (Finished 0)), 7 ∷ []) ∷
    -- 5: "{a} and { | N}: 1 entry, `1`."
    (list one_and_label, 7 ∷ 8 ∷ [], listing (Ok (Finished 1)), 1 ∷ 8 ∷ []) ∷
    -- 6: "{ | M} and {}: 1 entry of 0 words."
    (list label_and_none, 7 ∷ [], listing (Ok (Finished 1)), 7 ∷ []) ∷
    -- 7: "`1 2 0 0 0 0` and `2 1 0 0 0 0`"
    (
      list two_and_two,
      7 ∷ 7 ∷ 7 ∷ 7 ∷ 7 ∷ 7 ∷ 7 ∷ 7 ∷ 7 ∷ 7 ∷ 7 ∷ 7 ∷ 8 ∷ [],
      listing (Ok (Finished 2)),
      1 ∷ 2 ∷ 0 ∷ 0 ∷ 0 ∷ 0 ∷ 2 ∷ 1 ∷ 0 ∷ 0 ∷ 0 ∷ 0 ∷ 8 ∷ [],
    ) ∷
    -- 8: "x with f(x): occurs"
    (unify x_fx 0 1, 7 ∷ 8 ∷ 9 ∷ [], unifying (Ok Occurs), 7 ∷ 8 ∷ 9 ∷ []) ∷
    -- 9: "f(x, a) with f(g(x), b): clash"
    (unify clash_and_cycle 4 5, 7 ∷ 8 ∷ 9 ∷ [], unifying (Ok Clash), 7 ∷ 8 ∷ 9 ∷ []) ∷
    -- 10: "p(x, x) with p(f(x), a): clash"
    (unify p_terms 3 4, 7 ∷ 8 ∷ 9 ∷ [], unifying (Ok Clash), 7 ∷ 8 ∷ 9 ∷ []) ∷
    -- 11: "f(a) with f(a, a): clash"
    (unify two_counts 1 2, 7 ∷ 8 ∷ 9 ∷ [], unifying (Ok Clash), 7 ∷ 8 ∷ 9 ∷ []) ∷
    -- 12: "Node 0 y, node 1 x; node 0 with node 1: words 1 1"
    (unify y_x 0 1, 7 ∷ 8 ∷ 9 ∷ [], unifying (Ok Unified), 1 ∷ 1 ∷ 9 ∷ []) ∷
    -- beside document 01's: 1 with words that are just enough, and with too few for an entry
    (list two_and_one, 7 ∷ 7 ∷ 7 ∷ 7 ∷ 7 ∷ 7 ∷ 7 ∷ 7 ∷ 7 ∷ [], listing (Ok (Finished 3)), 1 ∷ 2 ∷ 0 ∷ 2 ∷ 1 ∷ 0 ∷ 2 ∷ 2 ∷ 1 ∷ []) ∷
    (list two_and_one, 7 ∷ 8 ∷ [], listing (Ok (Full 0)), 7 ∷ 8 ∷ []) ∷
    -- "{x, x} and {a, b} has no entry"
    (list x_twice_and_two, 7 ∷ 8 ∷ [], listing (Ok (Finished 0)), 7 ∷ 8 ∷ []) ∷
    -- {x} and {f(x)}: the occurs test is not skipped
    (list x_and_fx, 7 ∷ 8 ∷ 9 ∷ [], listing (Ok (Finished 0)), 7 ∷ 8 ∷ 9 ∷ []) ∷
    -- a term that goes in either of two labels
    (list one_and_labels, 7 ∷ 8 ∷ 9 ∷ [], listing (Ok (Finished 2)), 1 ∷ 2 ∷ 9 ∷ []) ∷
    -- a label that stands twice
    (list label_twice, 7 ∷ 8 ∷ [], listing (Err WrongLabel), 7 ∷ 8 ∷ []) ∷
    []

-- What the definitions compute for a call with lent words.
abbrev pub computed : Call → List ℕ → Meaning × List ℕ
computed (list t) lent = (
  listing_is (listed (conditions t) (complete_listing (problem_of t)) (length lent)),
  lent_after (conditions t) (complete_listing (problem_of t)) lent,
)
computed (unify t a b) lent = (outcome_is (unification t a b (length lent)), Rattle.unification.specs.Answer.lent_after t a b lent)

-- what they compute is what stands beside each call: for 1 to 12, what document 01 says
pub starred : map (λ e. computed e.0 e.1) examples ≡ map (λ e. (stands_for e.2, e.3)) examples
unfolding flatten flat_map ℕ_discrete counts_before some_below too_few_words end_before offset_is_wrong broken_pair words_are_wrong size_is_wrong
    over_limit right_variable start_of right_application right_node node_is_wrong wrong_node argument_is_wrong run_is_wrong wrong_argument
    term_is_wrong wrong_term labels_are_equal label_is_wrong wrong_label conditions first_held refusal equal sub tabulate read_node nodes_from
    nodes_in each spell term_within term_of zip zip_with insert variables_of renamed join join_all same_symbol asks gather asked round rounds classes
    differ clash_at clash_with clashes some_marked leads leads_at leads_from walks cyclic first_with least_node is_application is_variable is_node_of
    node_of resolved solution is_application_in is_variable_in head_in is_bound_to has_value word_for word_of binding_words outcome unifier words_of
    variable_count unify_conditions answer_after unification words_after pairs shares pairs_of entry_of among branch rights lefts choices kept
    half_choices cross halves_choices admissible_listing complete_listing list_conditions fitting entries_left listed lent_after
    Rattle.unification.specs.Answer.lent_after
starred = refl

-- {x} and {a}, and {x} and {b}: each half has an entry, the two together have none, as x would be a and b
abbrev pub x_two_ways : Problem
x_two_ways =
    record {
      nodes = variable 0 ∷ application 1 [] ∷ application 2 [] ∷ [];
      halves =
          record { left = 0 ∷ []; left_labels = []; right = 1 ∷ []; right_labels = [] } ∷
          record { left = 0 ∷ []; left_labels = []; right = 2 ∷ []; right_labels = [] } ∷ [];
    }

-- {a} and { | N, P}, and {x | M} and {a}: the first half's digits, then the second's, then the binding word of x
abbrev pub labels_then_pair : Problem
labels_then_pair =
    record {
      nodes = variable 0 ∷ application 1 [] ∷ [];
      halves =
          record { left = 1 ∷ []; left_labels = []; right = []; right_labels = 2 ∷ 3 ∷ [] } ∷
          record { left = 0 ∷ []; left_labels = 1 ∷ []; right = 1 ∷ []; right_labels = [] } ∷ [];
    }

-- what the definitions compute for problems of two halves
pub two_halves : complete_listing x_two_ways ∷ complete_listing labels_then_pair ∷ [] ≡ [] ∷ ((1 ∷ 1 ∷ 0 ∷ 1 ∷ []) ∷ (2 ∷ 1 ∷ 0 ∷ 1 ∷ []) ∷ []) ∷ []
unfolding flatten flat_map ℕ_discrete counts_before some_below too_few_words end_before offset_is_wrong broken_pair words_are_wrong size_is_wrong
    over_limit right_variable start_of right_application right_node node_is_wrong wrong_node argument_is_wrong run_is_wrong wrong_argument
    term_is_wrong wrong_term labels_are_equal label_is_wrong wrong_label conditions first_held refusal equal sub tabulate read_node nodes_from
    nodes_in each spell term_within term_of zip zip_with insert variables_of renamed join join_all same_symbol asks gather asked round rounds classes
    differ clash_at clash_with clashes some_marked leads leads_at leads_from walks cyclic first_with least_node is_application is_variable is_node_of
    node_of resolved solution is_application_in is_variable_in head_in is_bound_to has_value word_for word_of binding_words outcome unifier words_of
    variable_count unify_conditions answer_after unification words_after pairs shares pairs_of entry_of among branch rights lefts choices kept
    half_choices cross halves_choices admissible_listing complete_listing list_conditions fitting entries_left listed lent_after
    Rattle.unification.specs.Answer.lent_after
two_halves = refl
