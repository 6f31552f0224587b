-- A refused table gets its refusal, an accepted one is unified.
use mathlib.Core.Path.{sym}
use Rattle.std.proofs.lemmas.Result.{err_from_is_err_and}
use Rattle.table.proofs.AcceptedLaws.{accepted}
use Rattle.unify.proofs.CallingLaws.{refused_promised, accepted_promised}
use Rattle.unify.proofs.unify.Goals as goal

pub unify_accepted-requires : goal.unify_accepted-requires
unify_accepted-requires c = (accepted _).0 (sym c.in_ok-check.ensures)

pub returns-in_err-check : goal.returns-in_err-check
returns-in_err-check c =
    let p = err_from_is_err_and c.from_residual.result c.from_residual.ensures.1 in
    let r = refused_promised _ _ _ _ _ c.in_err-check.ensures in
    rw (p.1, p.2) record { result_value = r.0; out_after = r.1.0; decided = r.1.1 }

pub returns : goal.returns
returns c =
    let g = (accepted _).0 (sym c.in_ok-check.ensures) in
    let r = accepted_promised _ _ _ _ _ _ g c.unify_accepted.ensures in
    record { result_value = r.0; out_after = r.1.0; decided = r.1.1 }
