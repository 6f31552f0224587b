-- What is printed for document 01's examples 1, 3 and 4, and for inputs that are refused, by computation from the definitions.
-- Assumes nothing.
use Prim.Native.Nat.{ℕ}
use mathlib.Core.List.{List, [], ◌∷◌, map, flatten, flat_map, zip, zip_with}
use mathlib.Core.Path.{◌≡◌, refl}
use native.Mathlib.Decide.{ℕ_discrete}
use Rattle.table.specs.Layout.{counts_before}
use Rattle.table.specs.Some.{some_below}
use Rattle.table.specs.Conditions.{too_few_words, end_before, offset_is_wrong, broken_pair, words_are_wrong, size_is_wrong, over_limit, right_variable, start_of, right_application, right_node, node_is_wrong, wrong_node, argument_is_wrong, run_is_wrong, wrong_argument, term_is_wrong, wrong_term, labels_are_equal, label_is_wrong, wrong_label}
use Rattle.table.specs.Refusal.{conditions, first_held, refusal}
use Rattle.terms.specs.Term.{equal}
use Rattle.terms.specs.Substitution.{sub}
use Rattle.unification.specs.Node.{tabulate, read_node, nodes_from, nodes_in, each, spell, term_within, term_of}
use Rattle.unification.specs.Computed.Variables.{insert, variables_of}
use Rattle.unification.specs.Computed.Classes.{renamed, join, join_all, same_symbol, asks, gather, asked, round, rounds, classes, differ, clash_at, clash_with, clashes}
use Rattle.unification.specs.Computed.Walks.{some_marked, leads, leads_at, leads_from, walks, cyclic}
use Rattle.unification.specs.Computed.Solution.{first_with, least_node, is_application, is_variable, is_node_of, node_of, resolved, solution, is_application_in, is_variable_in, head_in}
use Rattle.unification.specs.Computed.Binding.{is_bound_to, has_value, word_for, word_of, binding_words}
use Rattle.unification.specs.Computed.Unifying.{outcome, unifier, words_of}
use Rattle.unification.specs.Answer.{variable_count}
use Rattle.multiset_unification.specs.Choice.{pairs}
use Rattle.multiset_unification.specs.Entry.{shares, pairs_of, entry_of}
use Rattle.multiset_unification.specs.Computed.Choices.{among, branch, rights, lefts, choices}
use Rattle.multiset_unification.specs.Computed.Listing.{kept, half_choices, cross, halves_choices, admissible_listing, complete_listing}
use Rattle.multiset_unification.specs.Answer.{list_conditions, fitting, entries_left, listed}
use Rattle.multiset_unification.proofs.Starred.{two_and_one, nothing, one_and_none}
use Rattle.text.specs.Input.{words_of_bytes}
use Rattle.text.specs.Line.{decimal_within, decimal, after_word, line, lines, titled}
use Rattle.list.specs.Printed.{title, printed_table, printed}
use Rattle.text.proofs.ByteLaws.{bytes_of_words}

-- 1, 3 and 4; three bytes; no bytes
pub inputs : List (List ℕ)
unfolding bytes_of_words
inputs = bytes_of_words two_and_one ∷ bytes_of_words nothing ∷ bytes_of_words one_and_none ∷ (1 ∷ 2 ∷ 3 ∷ []) ∷ [] ∷ []

-- "entries 3", "1 2 0", "2 1 0", "2 2 1"; "entries 1" and an empty line; "entries 0"; "refused 11"; "refused 1"
pub printed_examples : map printed inputs
    ≡ (101 ∷ 110 ∷ 116 ∷ 114 ∷ 105 ∷ 101 ∷ 115 ∷ 32 ∷ 51 ∷ 10 ∷ 49 ∷ 32 ∷ 50 ∷ 32 ∷ 48 ∷ 10 ∷ 50 ∷ 32 ∷ 49 ∷ 32 ∷ 48 ∷ 10 ∷ 50 ∷ 32 ∷ 50 ∷ 32 ∷ 49 ∷
    10 ∷ []) ∷ (101 ∷ 110 ∷ 116 ∷ 114 ∷ 105 ∷ 101 ∷ 115 ∷ 32 ∷ 49 ∷ 10 ∷ 10 ∷ []) ∷ (101 ∷ 110 ∷ 116 ∷ 114 ∷ 105 ∷ 101 ∷ 115 ∷ 32 ∷ 48 ∷ 10 ∷ []) ∷
    (114 ∷ 101 ∷ 102 ∷ 117 ∷ 115 ∷ 101 ∷ 100 ∷ 32 ∷ 49 ∷ 49 ∷ 10 ∷ []) ∷ (114 ∷ 101 ∷ 102 ∷ 117 ∷ 115 ∷ 101 ∷ 100 ∷ 32 ∷ 49 ∷ 10 ∷ []) ∷ []
unfolding inputs bytes_of_words words_of_bytes decimal_within decimal after_word line lines titled title printed_table printed flatten flat_map
    ℕ_discrete counts_before some_below too_few_words end_before offset_is_wrong broken_pair words_are_wrong size_is_wrong over_limit right_variable
    start_of right_application right_node node_is_wrong wrong_node argument_is_wrong run_is_wrong wrong_argument term_is_wrong wrong_term
    labels_are_equal label_is_wrong wrong_label conditions first_held refusal equal sub tabulate read_node nodes_from nodes_in each spell term_within
    term_of zip zip_with insert variables_of renamed join join_all same_symbol asks gather asked round rounds classes differ clash_at clash_with
    clashes some_marked leads leads_at leads_from walks cyclic first_with least_node is_application is_variable is_node_of node_of resolved solution
    is_application_in is_variable_in head_in is_bound_to has_value word_for word_of binding_words outcome unifier words_of variable_count pairs
    shares pairs_of entry_of among branch rights lefts choices kept half_choices cross halves_choices admissible_listing complete_listing
    list_conditions fitting entries_left listed
printed_examples = refl
