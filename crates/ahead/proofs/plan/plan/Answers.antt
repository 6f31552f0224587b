-- The last row is right, so all rows before it are, and the first bit tells whether there may be a choice.
use Prim.Native.Nat.{ℕ, ◌/◌, ◌+◌}
use mathlib.Core.Path.{ap, refl}
use native.Mathlib.Omega.{arith}
use Rattle.ahead.proofs.PlanLaws.{last_completable, plans_all, plans_rest}
use Rattle.ahead.proofs.plan.plan.Goals as goal

pub returns-then-stay-closed : goal.returns-then-stay-closed
returns-then-stay-closed c =
    plans_all c.requires.0 c.requires.1 refl refl c.if-stay-closed.true

pub fill_rows-requires : goal.fill_rows-requires
fill_rows-requires c =
    let e = c.at-every.ensures.0 in
    let n = c.at.ensures.0 in record {
      sized = (c.requires.0, last_completable c.requires.0 c.requires.1 (omega (arith, n)) e refl c.end_row.ensures);
      words_value = (ap (λ (x : ℕ). x / 64 + 1) e, refl);
    }

pub returns : goal.returns
returns c =
    let n = c.at.ensures.0 in
    plans_rest c.requires.0 c.requires.1 refl refl
    c.if-stay-closed.false (omega (arith, n))
    c.end_row.ensures
    c.fill_rows.ensures c.at-2.ensures.0 c.sets_before.ensures _ refl
