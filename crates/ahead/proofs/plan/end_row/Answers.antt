-- The bit of the whole set is written last.
use mathlib.Core.Path.{refl}
use borrow.Rule.Slice.PartMut.{same_len_mid}
use Rattle.ahead.proofs.PlanLaws.{ends_whole}
use Rattle.ahead.proofs.plan.end_row.Goals as goal

pub returns : goal.returns
returns c =
    ends_whole _ _ _ _ _ _ _ _ c.if-not-closed.false (same_len_mid _ _ _ _ c.fill.ensures.len) c.requires.1 c.requires.0 refl refl refl
