-- Each test that failed says that its condition does not hold, and the first that is met says that its own does.
use mathlib.Core.Path.{refl, sym, ◌∙◌}
use borrow.Author.Tests.{lt-ltb, le-ltb}
use Rattle.table.specs.Conditions.{too_few_words}
use Rattle.table.specs.Refusal.{conditions, first_held, refusal}
use Rattle.table.specs.Limits.{sections}
use Rattle.table.specs.Code.Accepted.{LaidOut}
use Rattle.table.proofs.RefusalLaws.{Passed, held, not_held}
use Rattle.table.proofs.SectionLaws.{laid_out_means}
use Rattle.checking.proofs.check.Goals as goal
use Rattle.checking.proofs.check.Goals.{Else-broken_pair, Else-over_limit, Else-table-lt-HEADER_WORDS, Else-wrong_argument, Else-wrong_label, Else-wrong_node, Else-wrong_term}

-- After test k condition k is known not to hold, and so are those before it.
passed-1 : (c : Else-table-lt-HEADER_WORDS) → Passed 1 (conditions c.args.table.now)
unfolding conditions too_few_words
passed-1 c = not_held _ _ (le-ltb _ _ c.if-table-lt-HEADER_WORDS.false)

passed-2 : (c : Else-broken_pair) → Passed 2 (conditions c.args.table.now)
unfolding conditions
passed-2 c = passed-1 (goal.at.Else-broken_pair c).Else-table-lt-HEADER_WORDS ∙
    not_held _ _ (sym (c.broken_pair.ensures sections refl) ∙ c.if-broken_pair.false)

passed-3 : (c : Else-over_limit) → Passed 3 (conditions c.args.table.now)
unfolding conditions
passed-3 c = passed-2 (goal.at.Else-over_limit c).Else-broken_pair ∙ not_held _ _ (sym c.over_limit.ensures ∙ c.if-over_limit.false)

passed-4 : (c : Else-wrong_node) → Passed 4 (conditions c.args.table.now)
unfolding conditions
passed-4 c = passed-3 (goal.at.Else-wrong_node c).Else-over_limit ∙ not_held _ _ (sym c.wrong_node.ensures ∙ c.if-wrong_node.false)

passed-5 : (c : Else-wrong_argument) →
    Passed 5 (conditions c.args.table.now)
unfolding conditions
passed-5 c = passed-4 (goal.at.Else-wrong_argument c).Else-wrong_node ∙ not_held _ _ (sym c.wrong_argument.ensures ∙ c.if-wrong_argument.false)

passed-6 : (c : Else-wrong_term) →
    Passed 6 (conditions c.args.table.now)
unfolding conditions
passed-6 c = passed-5 (goal.at.Else-wrong_term c).Else-wrong_argument ∙ not_held _ _ (sym c.wrong_term.ensures ∙ c.if-wrong_term.false)

passed-7 : (c : Else-wrong_label) →
    Passed 7
    (conditions c.args.table.now)
unfolding conditions
passed-7 c = passed-6 (goal.at.Else-wrong_label c).Else-wrong_term ∙ not_held _ _ (sym c.wrong_label.ensures ∙ c.if-wrong_label.false)

laid_out : (c : Else-over_limit) → LaidOut sections c.args.table.now
unfolding too_few_words
laid_out c =
    (laid_out_means _ _).0 (
      le-ltb _ _ c.if-table-lt-HEADER_WORDS.false,
      sym (c.broken_pair.ensures sections refl) ∙ c.if-broken_pair.false,
      sym c.over_limit.ensures ∙ c.if-over_limit.false,
    )

pub returns-then-table-lt-HEADER_WORDS : goal.returns-then-table-lt-HEADER_WORDS
unfolding refusal conditions too_few_words
returns-then-table-lt-HEADER_WORDS c = sym (held _ _ (lt-ltb _ _ c.if-table-lt-HEADER_WORDS.true))

pub returns-then-broken_pair : goal.returns-then-broken_pair
unfolding refusal conditions
returns-then-broken_pair c = sym (passed-1 (goal.at.returns-then-broken_pair c).Else-table-lt-HEADER_WORDS ∙
    held _ _ (sym (c.broken_pair.ensures sections refl) ∙ c.if-broken_pair.true))

pub returns-then-over_limit : goal.returns-then-over_limit
unfolding refusal conditions
returns-then-over_limit c = sym (passed-2 (goal.at.returns-then-over_limit c).Else-broken_pair ∙
    held _ _ (sym c.over_limit.ensures ∙ c.if-over_limit.true))

pub wrong_node-requires : goal.wrong_node-requires
wrong_node-requires c = laid_out c

pub returns-then-wrong_node : goal.returns-then-wrong_node
unfolding refusal conditions
returns-then-wrong_node c = sym (passed-3 (goal.at.returns-then-wrong_node c).Else-over_limit ∙
    held _ _ (sym c.wrong_node.ensures ∙ c.if-wrong_node.true))

pub wrong_argument-requires : goal.wrong_argument-requires
wrong_argument-requires c = record {
  laid_out = laid_out (goal.at.wrong_argument-requires c).Else-over_limit;
  table_value = sym c.wrong_node.ensures ∙ c.if-wrong_node.false;
}

pub returns-then-wrong_argument : goal.returns-then-wrong_argument
unfolding refusal conditions
returns-then-wrong_argument c = sym (passed-4 (goal.at.returns-then-wrong_argument c).Else-wrong_node ∙
    held _ _ (sym c.wrong_argument.ensures ∙ c.if-wrong_argument.true))

pub wrong_term-requires : goal.wrong_term-requires
wrong_term-requires c = laid_out (goal.at.wrong_term-requires c).Else-over_limit

pub returns-then-wrong_term : goal.returns-then-wrong_term
unfolding refusal conditions
returns-then-wrong_term c = sym (passed-5 (goal.at.returns-then-wrong_term c).Else-wrong_argument ∙
    held _ _ (sym c.wrong_term.ensures ∙ c.if-wrong_term.true))

pub wrong_label-requires : goal.wrong_label-requires
wrong_label-requires c = laid_out (goal.at.wrong_label-requires c).Else-over_limit

pub returns-then-wrong_label : goal.returns-then-wrong_label
unfolding refusal conditions
returns-then-wrong_label c = sym (passed-6 (goal.at.returns-then-wrong_label c).Else-wrong_term ∙
    held _ _ (sym c.wrong_label.ensures ∙ c.if-wrong_label.true))

pub returns : goal.returns
unfolding refusal conditions first_held
returns c = sym (passed-7 c)
