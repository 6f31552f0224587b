use native.Mathlib.Omega.{arith}
use Rattle.values.proofs.LeastLaws.{present_none, present_next, present_all}
use Rattle.values.proofs.present.list_variables.Goals as goal

pub loop-x-init : goal.loop-x-init
loop-x-init c = present_none _ _ _

pub keep_variable-count-requires : goal.keep_variable-count-requires
keep_variable-count-requires c =
    let l = c.loop-x.invariant in
    let t = c.loop-x-test.true in
    let f = l.few in
    let e = c.requires.none_from.within in
    let m = l.others.long in
    let r = c.requires.least_len in
    (omega (arith, r.0, e, t), omega (arith, r.1, m, e, f, t), omega (arith, e, f, t), r.2)

pub loop-x-preserved : goal.loop-x-preserved
loop-x-preserved c = present_next _ _ _ _ _ _ _ _ c.loop-x.invariant c.keep_variable-count.ensures

pub shape_of-counts : goal.shape_of-counts
shape_of-counts c = c.loop-x.invariant.others.long

pub returns : goal.returns
returns c =
    let l = c.loop-x in
    present_all _ _ _ l.x _ _ _ c.requires.none_from l.auto.x-end c.loop-x-test.false c.requires.least_len.1 l.invariant
