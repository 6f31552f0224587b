use mathlib.Core.Path.{refl, sym, ◌∙◌}
use borrow.Author.Rules.{rules}
use Rattle.table.specs.Some.{some_below}
use Rattle.table.specs.Conditions.{wrong_argument}
use Rattle.table.proofs.SomeLaws.{some_here, some_next, some_end}
use Rattle.checking.proofs.nodes.wrong_arguments.Goals as goal

pub loop-i-init : goal.loop-i-init
unfolding some_below
loop-i-init c = refl

pub wrong_run-requires : goal.wrong_run-requires
wrong_run-requires c = record {
  node_bound = search rules;
  node_in_bounds = c.requires.runs_inside.run _ (search rules);
}

pub returns-then-wrong_run : goal.returns-then-wrong_run
unfolding wrong_argument
returns-then-wrong_run c =
    sym (some_here _ c.loop-i.i _ (search rules) (sym c.wrong_run.ensures ∙ c.if-wrong_run.true))

pub loop-i-preserved : goal.loop-i-preserved
loop-i-preserved c = some_next _ _ c.loop-i.invariant (sym c.wrong_run.ensures ∙ c.if-wrong_run.false)

pub returns : goal.returns
unfolding wrong_argument
returns c =
    let l = c.loop-i in
    sym (some_end _ l.i _ (search rules) (search rules) l.invariant)
