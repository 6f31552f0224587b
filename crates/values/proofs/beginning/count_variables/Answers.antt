-- The least node of each variable is noted, and those of the variables present are listed.
use borrow.Author.Rules.{rules}
use Rattle.values.proofs.LeastLaws.{least_all, least_end, none_named}
use Rattle.values.proofs.PresentLaws.{present_lists}
use Rattle.values.proofs.BeginLaws.{none_noted}
use Rattle.values.proofs.beginning.count_variables.Goals as goal

pub note_variables-end-requires : goal.note_variables-end-requires
note_variables-end-requires c = record {
  sections = c.requires;
  least_before = none_noted _ _ c.node_count-n.ensures.0;
}

pub list_variables-requires : goal.list_variables-requires
list_variables-requires c =
    let n = c.node_count-n in record {
      least_len = search rules;
      none_from = none_named _ _ _ _ n.ensures.0 (least_end _ _ _ c.note_variables-end.ensures);
    }

pub returns : goal.returns
returns c =
    let p = c.requires in
    let n = c.node_count-n in
    let b = c.note_variables-end.ensures in
    (present_lists _ _ _ _ _ _ _ p (least_all _ _ _ _ p b) n.ensures.0 c.list_variables.ensures).counted
