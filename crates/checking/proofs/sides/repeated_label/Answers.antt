-- Label i is met among the earlier ones, or is not.
use mathlib.Core.Path.{◌≡◌, refl, sym, ◌∙◌}
use mathlib.Core.List.{◌++◌}
use borrow.Author.Rules.{rules}
use Rattle.table.specs.Some.{some_below}
use Rattle.table.specs.Conditions.{labels_are_equal}
use Rattle.table.proofs.SomeLaws.{some_here, some_next, some_end}
use Rattle.checking.proofs.sides.repeated_label.Goals as goal
use Rattle.checking.proofs.sides.repeated_label.Goals.{After-eq}

-- Whether label j is label i.
tested : (c : After-eq) → labels_are_equal (c.args.left.now ++ c.args.right.now) c.args.i c.loop-j.j ≡ c.eq.result
unfolding labels_are_equal
tested c = sym (rw (← c.label.ensures, ← c.label-label.ensures) c.eq.ensures)

pub loop-j-init : goal.loop-j-init
unfolding some_below
loop-j-init c = refl

pub returns-then-eq : goal.returns-then-eq
returns-then-eq c = sym (some_here _ c.loop-j.j _ (search rules) (tested (goal.at.returns-then-eq c).After-eq ∙ c.if-eq.true))

pub loop-j-preserved : goal.loop-j-preserved
loop-j-preserved c = some_next _ _ c.loop-j.invariant (tested (goal.at.loop-j-preserved c).After-eq ∙ c.if-eq.false)

pub returns : goal.returns
returns c = sym (some_end _ c.loop-j.j _ (search rules) (search rules) c.loop-j.invariant)
