-- Each way out has its law: every pair left, the bits filled, or all of it settled.
use Rattle.branches.proofs.KnownLaws.{known_kept}
use Rattle.ahead.proofs.AheadLaws.{planning}
use Rattle.forcing.proofs.SettledLaws.{struck_based, looks_whole, looks_based, looks_cannot, looks_since, planned}
use Rattle.forcing.proofs.settled.look_ahead.Goals as goal

pub returns-then-known : goal.returns-then-known
returns-then-known c =
    let p = c.requires in
    looks_whole p.known_of p.can_value p.formed.0 p.formed.1 p.standing c.leave.ensures

pub plan_first-requires : goal.plan_first-requires
plan_first-requires c =
    let p = c.requires in
    ((planning p.known_of c.strike-joins.ensures.keeps_known p.can_value c.if-known.false).0, p.can_value)

pub returns-then-not-plan_first : goal.returns-then-not-plan_first
returns-then-not-plan_first c =
    let p = c.requires in
    let s = c.strike-joins.ensures in
    looks_cannot p.known_of s.keeps_known (struck_based p.known_of s.keeps_known p.formed.0 p.formed.1 p.standing s.rows_to)
    (c.plan_first.ensures.none c.if-not-plan_first.true)

pub returns-then-joins-lt-FEW : goal.returns-then-joins-lt-FEW
returns-then-joins-lt-FEW c =
    let p = c.requires in
    let s = c.strike-joins.ensures in
    looks_based p.known_of s.keeps_known (struck_based p.known_of s.keeps_known p.formed.0 p.formed.1 p.standing s.rows_to)
    c.plan_first.ensures.completable

pub settle-requires : goal.settle-requires
settle-requires c =
    let p = c.requires in
    let s = c.strike-joins.ensures in record {
      known_of = known_kept p.known_of s.keeps_known;
      based = (
        struck_based p.known_of s.keeps_known p.formed.0 p.formed.1 p.standing s.rows_to,
        planned (planning p.known_of s.keeps_known p.can_value c.if-known.false).0 c.plan_first.ensures,
      );
    }

pub returns : goal.returns
returns c = looks_since c.requires.known_of c.strike-joins.ensures.keeps_known c.settle.ensures
