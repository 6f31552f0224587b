-- Each size is what its pair says.
use Rattle.table.specs.Limits.{sections}
use Rattle.table.specs.Some.{some_below}
use Rattle.table.specs.Conditions.{over_limit}
use Rattle.table.proofs.BoolLaws.{or_same}
use Rattle.checking.proofs.LoopLaws.{size_tested}
use Rattle.checking.proofs.conditions.over_limit.Goals as goal

pub returns : goal.returns
unfolding over_limit some_below
returns c =
    let right_labels_lem = size_tested sections _ 5 c.size-6.ensures.0 c.wrong_words-6.ensures in
    let right-terms = size_tested sections _ 4 c.size-5.ensures.0 c.wrong_words-5.ensures in
    let left_labels_lem = size_tested sections _ 3 c.size-4.ensures.0 c.wrong_words-4.ensures in
    let left-terms = size_tested sections _ 2 c.size-3.ensures.0 c.wrong_words-3.ensures in
    let arguments = size_tested sections _ 1 c.size-2.ensures.0 c.wrong_words-2.ensures in
    let nodes = size_tested sections _ 0 c.size.ensures.0 c.wrong_words.ensures in
    or_same (or_same (or_same (or_same (or_same nodes arguments) left-terms) left_labels_lem) right-terms) right_labels_lem
