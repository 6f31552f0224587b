-- A refused table gets its refusal, an accepted one is listed, and page 14 follows.
use mathlib.Core.Path.{refl, sym}
use Rattle.std.proofs.lemmas.Result.{err_from_is_err_and}
use Rattle.table.proofs.AcceptedLaws.{accepted}
use Rattle.listing.proofs.CallingLaws.{refused_table, accepted_table}
use Rattle.listing.proofs.list.Goals as goal

pub list_accepted-requires : goal.list_accepted-requires
list_accepted-requires c = (accepted _).0 (sym c.in_ok-check.ensures)

pub returns-in_err-check : goal.returns-in_err-check
returns-in_err-check c =
    let p = err_from_is_err_and c.from_residual.result c.from_residual.ensures.1 in
    let r = refused_table _ _ _ _ _ c.in_err-check.ensures refl refl in
    rw (p.1, p.2) record { result_value = r.0; out_after = r.1.0; page14 = r.1.1 }

pub returns : goal.returns
returns c =
    let g = (accepted _).0 (sym c.in_ok-check.ensures) in
    let r = accepted_table _ _ _ _ g c.list_accepted.ensures in
    record { result_value = r.0; out_after = r.1.0; page14 = r.1.1 }
