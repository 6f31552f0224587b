-- A variable gets the least node of it and no count, an application is looked at once.
use mathlib.Core.Path.{◌∙◌, sym}
use borrow.Author.Tests.{eqb-true, eqb-false}
use Rattle.values.proofs.PreparedLaws.{open_place, open_next}
use Rattle.values.proofs.BeginLaws.{open_variable}
use Rattle.values.proofs.LeastLaws.{least_other}
use Rattle.values.proofs.SharingLaws.{sharing_skip}
use Rattle.values.proofs.beginning.share_node.Goals as goal

pub share_variable-end-requires : goal.share_variable-end-requires
share_variable-end-requires c =
    let k = eqb-true _ _ (sym c.is_variable.ensures ∙ c.if-is_variable.true) in record {
      heads_before = (c.requires.sharing.0.before, c.requires.sharing.1, k);
      least_before = (c.requires.least_before.0, c.requires.least_before.1);
    }

pub returns-then-is_variable : goal.returns-then-is_variable
returns-then-is_variable c =
    let v = c.share_variable-end.ensures in
    let k = eqb-true _ _ (sym c.is_variable.ensures ∙ c.if-is_variable.true) in record {
      sharing_2 = sharing_skip _ _ _ _ _ _ c.requires.sharing.0 v.heads_before_2.0 v.by_index k;
      least_before_2 = (v.least_before_2, v.heads_before_2.1);
      open_before_2 = open_variable _ _ _ _ _ c.requires.sharing.0.before.sections c.requires.open_before.0 c.requires.sharing.1
          c.requires.open_before.1 k c.note_count-opens.ensures;
    }

pub share_application-requires : goal.share_application-requires
share_application-requires c =
    let l = c.look-looked.ensures in
    let k = eqb-false _ _ (sym c.is_variable.ensures ∙ c.if-is_variable.false) in record {
      sharing = (c.requires.sharing.0, c.requires.sharing.1, k);
      k_value = (l.key_value.0, l.key_value.1, c.requires.least_before.1);
    }

pub note_count-opens-requires-2 : goal.note_count-opens-requires-2
note_count-opens-requires-2 c =
    open_place _ _ _ _ _ _ _ c.requires.sharing.0.before.sections c.requires.open_before.0 c.requires.sharing.1 c.requires.open_before.1
    c.look-looked.ensures.counted_at

pub returns : goal.returns
returns c =
    let a = c.share_application.ensures in record {
      sharing_2 = a.sharing_2;
      least_before_2 = (least_other _ _ _ _ (sym c.is_variable.ensures ∙ c.if-is_variable.false) c.requires.least_before.0, a.circles_before);
      open_before_2 = open_next _ _ _ _ _ _ _ c.requires.sharing.0.before.sections c.requires.open_before.0 c.requires.sharing.1
          c.requires.open_before.1 c.look-looked.ensures.counted_at _ _ c.note_count-opens-2.ensures;
    }
