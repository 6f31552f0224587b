-- One way for each return.
use mathlib.Core.Path.{sym, ap, ◌∙◌}
use borrow.Author.Tests.{eqb-true}
use Rattle.table.specs.declared.Node.{Node}
use Rattle.classes.specs.Code.Ordering.{led_no, led_first, led_same}
use Rattle.classes.proofs.order.found_with.Goals as goal

pub returns-then-counts-g-eq0 : goal.returns-then-counts-g-eq0
returns-then-counts-g-eq0 c = led_no c.if-counts-g-eq0.true

pub returns-in-None : goal.returns-in-None
returns-in-None c = led_first c.in-None.is

pub returns-in-Some : goal.returns-in-Some
returns-in-Some c =
    led_same _ c.in-Some.is (ap (λ (x : Node). x.0) (sym c.in-Some.f-is) ∙ eqb-true _ _ (sym c.eq.ensures ∙ c.if-eq.true))
