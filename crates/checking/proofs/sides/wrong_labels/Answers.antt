use mathlib.Core.Path.{◌≡◌, refl, sym, ◌∙◌}
use mathlib.Core.Bool.{◌||◌}
use mathlib.Core.List.{◌++◌}
use native.Mathlib.Omega.{arith}
use lib.Dec.{eqb, ltb}
use lib.ListN.{length-append}
use Rattle.table.specs.Limits.{max_label}
use Rattle.table.specs.Some.{some_below}
use Rattle.table.specs.Conditions.{label_is_wrong, wrong_label}
use Rattle.table.proofs.SomeLaws.{some_here, some_next, some_end}
use Rattle.checking.proofs.LoopLaws.{label_tested}
use Rattle.checking.proofs.sides.wrong_labels.Goals as goal
use Rattle.checking.proofs.sides.wrong_labels.Goals.{After-repeated_label}

-- The three tests of a label are whether it is wrong.
tested : (c : After-repeated_label) → let a = c.args in let x = c.label-label.result.0 in
    (eqb x 0 || ltb max_label x || c.repeated_label.result) ≡ label_is_wrong (a.left.now ++ a.right.now) c.loop-i.i
tested c = label_tested _ _ _ c.label-label.ensures _ c.repeated_label.ensures

pub loop-i-init : goal.loop-i-init
unfolding some_below
loop-i-init c = (simp length-append, refl)

pub returns-then-label-repeated_label : goal.returns-then-label-repeated_label
unfolding wrong_label
returns-then-label-repeated_label c =
    sym (some_here _ c.loop-i.i _ (omega (arith, c.loop-i.invariant.0))
    (sym (tested (goal.at.returns-then-label-repeated_label c).After-repeated_label) ∙ c.if-label-repeated_label.true))

pub loop-i-preserved : goal.loop-i-preserved
loop-i-preserved c =
    let l = c.loop-i in (
      l.invariant.0,
      some_next _ _ l.invariant.1
          (sym (tested (goal.at.loop-i-preserved c).After-repeated_label) ∙ c.if-label-repeated_label.false),
    )

pub returns : goal.returns
unfolding wrong_label
returns c =
    let l = c.loop-i in
    sym (some_end _ l.i _ (omega (arith, l.invariant.0)) (omega (arith, l.invariant.0)) l.invariant.1)
