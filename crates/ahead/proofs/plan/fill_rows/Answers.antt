use Prim.Native.Nat.{◌+◌, ◌-◌}
use mathlib.Core.Path.{◌≡◌, refl, ap, ◌∙◌}
use native.Mathlib.Omega.{arith}
use Rattle.table.specs.Layout.{word}
use Rattle.ahead.proofs.PlanLaws.{rows_turn}
use Rattle.ahead.proofs.plan.fill_rows.Goals as goal

pub loop-i-preserved : goal.loop-i-preserved
loop-i-preserved c =
    let l = c.loop-i.invariant in
    let e : 600 + (c.loop-i.i - 1) + 1 ≡ 600 + c.loop-i.i = omega arith in record {
      within = omega arith;
      completable = rows_turn c.requires.sized.0 l.completable c.loop-i-test.true l.within refl c.requires.words_value.0
          (c.at.ensures.0 ∙ ap (word c.args.known.now) e) c.requires.words_value.1 c.fill_row.ensures;
      last = λ p h. c.fill_row.ensures.kept p (omega arith) ∙ l.last p h;
    }
