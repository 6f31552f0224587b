use mathlib.Core.Path.{◌∙◌, ap}
use borrow.Author.Rules.{rules}
use Rattle.values.proofs.AlikeLaws.{compare_symbols, compare_start, compare_next, compare_different, compare_end}
use Rattle.values.proofs.names.compare.Goals as goal

pub returns-then-not-one_symbol : goal.returns-then-not-one_symbol
returns-then-not-one_symbol g c = λ value v. compare_symbols _ _ _ _ _ _ c.one_symbol.ensures c.if-not-one_symbol.true

pub loop-j-init : goal.loop-j-init
loop-j-init g c = λ value v. compare_start _ _ _ _ _ _ c.one_symbol.ensures c.if-not-one_symbol.false

pub returns-then-ne : goal.returns-then-ne
returns-then-ne g c =
    let l = c.loop-j in
    λ value v.
    compare_different _ _ value _ _ l.j _ c.arity-n.ensures.0 (l.invariant value v) _ _ (v _ _ c.name-x.ensures ∙ ap value c.argument.ensures.0)
    (v _ _ c.name-y.ensures ∙ ap value c.argument-in-loop-j.ensures.0) c.loop-j-test.true (search rules)

pub loop-j-preserved : goal.loop-j-preserved
loop-j-preserved g c =
    let l = c.loop-j in
    λ value v.
    compare_next _ _ value _ _ l.j _ c.arity-n.ensures.0 (l.invariant value v) _ _ (v _ _ c.name-x.ensures ∙ ap value c.argument.ensures.0)
    (v _ _ c.name-y.ensures ∙ ap value c.argument-in-loop-j.ensures.0) (search rules)

pub returns : goal.returns
returns g c =
    let l = c.loop-j in
    λ value v. compare_end _ _ value _ _ l.j _ c.arity-n.ensures.0 (l.invariant value v) c.loop-j-test.false
