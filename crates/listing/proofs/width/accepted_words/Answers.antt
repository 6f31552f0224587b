-- It counts in the sections that an accepted table has.
use native.Mathlib.Omega.{arith}
use borrow.Author.Rules.{rules}
use Rattle.table.proofs.AcceptedLaws.{readable}
use Rattle.unification.proofs.TableLaws.{sections_of}
use Rattle.listing.proofs.WidthLaws.{variables_counted, entry_counted}
use Rattle.listing.proofs.width.accepted_words.Goals as goal

pub section-nodes-requires : goal.section-nodes-requires
section-nodes-requires c = readable _ c.requires 0 (omega arith)

pub section-arguments-requires : goal.section-arguments-requires
section-arguments-requires c = readable _ c.requires 1 (omega arith)

pub section-left-requires : goal.section-left-requires
section-left-requires c = readable _ c.requires 2 (omega arith)

pub section-right-requires : goal.section-right-requires
section-right-requires c = readable _ c.requires 4 (omega arith)

pub count_variables-requires : goal.count_variables-requires
count_variables-requires c =
    rw (c.section-nodes.ensures, c.section-arguments.ensures) (sections_of _ c.requires)

pub overflow_add-result-2 : goal.overflow_add-result-2
overflow_add-result-2 c =
    let few = variables_counted _ _ _ _ c.requires c.section-nodes.ensures
    c.section-arguments.ensures c.count_variables.ensures in
    search rules

pub returns : goal.returns
returns c =
    entry_counted _ _ _ _ _ _ c.section-nodes.ensures c.section-arguments.ensures c.section-left.ensures c.section-right.ensures
    c.count_variables.ensures
