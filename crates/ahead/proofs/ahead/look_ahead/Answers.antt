-- Each way out has its law: no fit, every pair left, or the bits filled, once or twice.
use mathlib.Core.Path.{refl, sym}
use Rattle.branches.proofs.KnownLaws.{known_kept, formed_kept, keeps_twice}
use Rattle.ahead.proofs.AheadLaws.{looks_unfit, looks_whole, looks_planned, looks_as, planning, planning_again, rows_kept, rows_back}
use Rattle.ahead.proofs.ahead.look_ahead.Goals as goal

pub returns-then-not-fits-clause-looks_ahead : goal.returns-then-not-fits-clause-looks_ahead
returns-then-not-fits-clause-looks_ahead c = looks_unfit c.requires.known_of (c.fits.ensures c.if-not-fits.true)

pub returns-then-known-clause-looks_ahead : goal.returns-then-known-clause-looks_ahead
returns-then-known-clause-looks_ahead c = looks_whole c.requires.known_of c.requires.can_value c.leave.ensures

pub plan-requires : goal.plan-requires
plan-requires c = planning c.requires.known_of c.strike-joins.ensures.keeps_known c.requires.can_value c.if-known.false

pub returns-then-not-plan-clause-looks_ahead : goal.returns-then-not-plan-clause-looks_ahead
returns-then-not-plan-clause-looks_ahead c =
    let s = c.strike-joins.ensures in
    looks_as (sym c.if-not-plan.true) refl (looks_planned c.requires.known_of s.keeps_known s.rows_to c.plan.ensures)

pub returns-then-joins-lt-FEW-clause-looks_ahead : goal.returns-then-joins-lt-FEW-clause-looks_ahead
returns-then-joins-lt-FEW-clause-looks_ahead c =
    let s = c.strike-joins.ensures in
    looks_as (sym c.if-not-plan.false) refl (looks_planned c.requires.known_of s.keeps_known s.rows_to c.plan.ensures)

pub try_pairs-requires : goal.try_pairs-requires
try_pairs-requires c =
    let p = c.requires in
    let s = c.strike-joins.ensures in record {
      known_of = known_kept p.known_of s.keeps_known;
      formed = (formed_kept p.known_of s.keeps_known p.formed.0, p.formed.1);
      rows_to = rows_kept s.keeps_known s.rows_to;
    }

pub plan-requires-then-try_pairs : goal.plan-requires-then-try_pairs
plan-requires-then-try_pairs c =
    planning_again c.requires.known_of c.strike-joins.ensures.keeps_known c.try_pairs.ensures.keeps_known c.if-known.false c.plan.ensures

pub returns-then-try_pairs-clause-looks_ahead : goal.returns-then-try_pairs-clause-looks_ahead
returns-then-try_pairs-clause-looks_ahead c =
    let s = c.strike-joins.ensures.keeps_known in
    let t = c.try_pairs.ensures in
    looks_planned c.requires.known_of (keeps_twice s t.keeps_known) (rows_back s t.rows_to_2) c.plan-then-try_pairs.ensures

pub returns-clause-looks_ahead : goal.returns-clause-looks_ahead
returns-clause-looks_ahead c =
    let s = c.strike-joins.ensures in
    looks_as (sym c.if-not-plan.false) (c.try_pairs.ensures.known_unchanged c.if-try_pairs.false)
    (looks_planned c.requires.known_of s.keeps_known s.rows_to c.plan.ensures)
