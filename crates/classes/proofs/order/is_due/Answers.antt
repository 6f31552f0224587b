use mathlib.Core.Bool.{Bool, not, ◌&&◌}
use mathlib.Core.Path.{◌≡◌, refl, ap, ◌∙◌}
use denote.Enum.Bare.{sameb}
use lib.Dec.{eqb}
use Rattle.table.specs.Layout.{word}
use Rattle.classes.specs.declared.order.Mark.{Mark}
use Rattle.classes.specs.declared.order.Mark.TheVariants.{New, Open, Done}
use Rattle.classes.specs.contracts.order.Mark.{the_type}
use Rattle.classes.specs.Code.Ordering.{done_test, is_done}
use Rattle.classes.proofs.order.is_due.Goals as goal

-- the code's test of a mark
tested : (m : Mark) → sameb the_type m Done ≡ done_test m
tested New = refl
tested Open = refl
tested Done = refl

pub returns : goal.returns
unfolding is_done
returns c =
    ap (λ (b : Bool). b && not (eqb (word c.args.counts.now c.args.g.0) 0)) (c.ne.ensures ∙ ap not (tested _))
