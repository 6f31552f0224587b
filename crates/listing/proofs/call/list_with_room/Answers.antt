-- There is one entry of no words, or none where no choice can be, or those that the walk writes from the branch without digits.
use mathlib.Core.Path.{refl}
use native.Mathlib.Omega.{arith}
use Rattle.listing.proofs.CallingLaws.{begun_empty, based_none, width_room, based_walking, based_walked, entries_wide, written_full, written_finished}
use Rattle.listing.proofs.call.list_with_room.Goals as goal

pub returns-then-width-eq0 : goal.returns-then-width-eq0
returns-then-width-eq0 c = begun_empty c.begin-width.ensures c.if-width-eq0.true _

pub returns-then-not-look_ahead : goal.returns-then-not-look_ahead
returns-then-not-look_ahead c = based_none c.begin-width.ensures c.look_ahead.ensures c.if-not-look_ahead.true _

pub walk-requires : goal.walk-requires
walk-requires c = based_walking c.begin-width.ensures c.look_ahead.ensures c.if-not-look_ahead.false c.if-width-eq0.false _

pub returns-in-Ok : goal.returns-in-Ok
returns-in-Ok c =
    let written = based_walked c.begin-width.ensures c.look_ahead.ensures c.if-not-look_ahead.false c.if-width-eq0.false c.in-Ok.ensures.walked in
    written_finished _ (omega (arith, c.if-width-eq0.false)) (entries_wide c.begin-width.ensures) written

pub returns-in-Err : goal.returns-in-Err
returns-in-Err c =
    let written = based_walked c.begin-width.ensures c.look_ahead.ensures c.if-not-look_ahead.false c.if-width-eq0.false c.in-Err.ensures.walked in
    written_full _ (omega (arith, c.if-width-eq0.false)) (entries_wide c.begin-width.ensures) written
