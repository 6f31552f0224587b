-- The row lacks only pairs that never join, and the only partner is one in every choice.
use Rattle.ahead.proofs.StruckLaws.{keeps_row}
use Rattle.forcing.proofs.SettledLaws.{based_as, based_rows, based_row, settles_fewer, settles_none, settles_empty, forcing_row}
use Rattle.forcing.proofs.settled.settle_row.Goals as goal

pub try_row-may-requires-clause-rows_to : goal.try_row-may-requires-clause-rows_to
try_row-may-requires-clause-rows_to c = (based_rows c.requires.known_of c.requires.based, c.requires.i_bound)

pub returns-then-known-ne0-clause-settles : goal.returns-then-known-ne0-clause-settles
returns-then-known-ne0-clause-settles c =
    let p = c.requires in
    let t = c.try_row-may.ensures in
    settles_fewer p.known_of (keeps_row _ _ _)
    (based_as t.heads_unchanged.0 t.heads_unchanged.1 (based_row p.known_of p.based _ _ p.i_bound t.row_to))

pub returns-then-may-eq0-clause-settles : goal.returns-then-may-eq0-clause-settles
returns-then-may-eq0-clause-settles c =
    let p = c.requires in
    settles_empty p.known_of p.based _ _ p.i_bound c.try_row-may.ensures.row_to c.if-known-ne0.false c.if-may-eq0.true

pub force_left-requires : goal.force_left-requires
force_left-requires c =
    let p = c.requires in
    let t = c.try_row-may.ensures in
    let r = forcing_row p.known_of p.based _ _ p.i_bound t.row_to t.heads_unchanged.0 t.heads_unchanged.1 c.if-known-ne0.false in
    record { known_of = r.0; based = r.1.0; known_value = r.1.1 }

pub returns-then-not-force_left-clause-settles : goal.returns-then-not-force_left-clause-settles
returns-then-not-force_left-clause-settles c =
    settles_none c.requires.known_of (keeps_row _ _ _) (c.force_left.ensures.none c.if-not-force_left.true)

pub returns-clause-settles : goal.returns-clause-settles
returns-clause-settles c =
    settles_fewer c.requires.known_of (keeps_row _ _ _) (c.force_left.ensures.based c.if-not-force_left.false)
