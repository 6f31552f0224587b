-- An argument of the node's run that is not smaller than it is met, or none is.
use mathlib.Core.Path.{refl, sym, ◌∙◌}
use borrow.Author.Tests.{le-leb, lt-leb}
use Rattle.table.specs.Some.{some_below}
use Rattle.table.specs.Layout.{count_of}
use Rattle.table.specs.Conditions.{run_is_wrong}
use Rattle.table.proofs.SomeLaws.{some_here, some_next, some_end}
use Rattle.checking.proofs.LoopLaws.{run_long, run_at}
use Rattle.checking.proofs.nodes.wrong_run.Goals as goal

pub loop-argument-init : goal.loop-argument-init
unfolding some_below
loop-argument-init c = refl

pub returns-then-argument-node : goal.returns-then-argument-node
unfolding run_is_wrong
returns-then-argument-node c =
    let h = c.requires.node_in_bounds in
    let n = run_long c.args.nodes.now c.args.arguments.now c.args.node.0 h in
    let f = c.first-first.ensures in
    let k = c.count-count.ensures in
    let i = rw (f, k) at c.loop-argument-test.true in
    let t = c.if-argument-node.true in
    sym (some_here _ c.loop-argument.argument-index (count_of c.args.nodes.now c.args.node.0) (rw n at i)
    (sym (run_at _ _ _ h _ i) ∙ le-leb _ _ (rw (f, k) at t)))

pub loop-argument-preserved : goal.loop-argument-preserved
loop-argument-preserved c =
    let h = c.requires.node_in_bounds in
    let f = c.first-first.ensures in
    let k = c.count-count.ensures in
    let i = rw (f, k) at c.loop-argument-test.true in
    let t = c.if-argument-node.false in
    some_next _ _ c.loop-argument.invariant (sym (run_at _ _ _ h _ i) ∙ lt-leb _ _ (rw (f, k) at t))

pub returns : goal.returns
unfolding run_is_wrong
returns c =
    let n = run_long c.args.nodes.now c.args.arguments.now c.args.node.0 c.requires.node_in_bounds in
    let f = c.first-first.ensures in
    let k = c.count-count.ensures in
    let within = rw (f, k, n) at c.loop-argument.auto.argument-index-end in
    let all = rw (f, k, n) at c.loop-argument-test.false in
    sym (some_end _ c.loop-argument.argument-index (count_of c.args.nodes.now c.args.node.0) within all c.loop-argument.invariant)
