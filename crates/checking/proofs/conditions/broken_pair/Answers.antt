use borrow.Author.Rules.{rules}
use Rattle.checking.proofs.LoopLaws.{pairs_begin, pair_wrong, pair_right, pairs_end}
use Rattle.checking.proofs.conditions.broken_pair.Goals as goal

pub loop-k-init : goal.loop-k-init
loop-k-init c = pairs_begin _ _

pub returns-then-at-end : goal.returns-then-at-end
returns-then-at-end c =
    let l = c.loop-k in
    pair_wrong _ _ l.k _ l.end c.offset-at.ensures.0 l.invariant (search rules) c.if-at-end.true

pub loop-k-preserved : goal.loop-k-preserved
loop-k-preserved c =
    let l = c.loop-k in
    let o = c.offset-at.ensures.0 in
    pair_right _ _ l.k _ l.end o l.invariant c.if-at-end.false _ c.size.ensures.0

pub returns : goal.returns
returns c =
    let l = c.loop-k in
    pairs_end _ _ l.k l.end l.invariant (search rules) (search rules)
