use Rattle.values.proofs.AlikeLaws.{key_start, key_next, key_end}
use Rattle.values.proofs.names.key.Goals as goal

pub loop-j-init : goal.loop-j-init
loop-j-init c = (key_start _ _ _ _ _ _ c.symbol_key-x.ensures.0, c.symbol_key-x.ensures.1)

pub loop-j-preserved : goal.loop-j-preserved
loop-j-preserved c =
    let l = c.loop-j in
    let k = c.longer_key-x.ensures in
    (key_next _ _ _ _ _ l.x l.j _ _ l.invariant.0 c.argument_name.ensures.0 k.0, k.1)

pub returns : goal.returns
returns c =
    let l = c.loop-j in
    (key_end _ _ _ _ _ l.x l.j _ l.invariant.0 c.arity-n.ensures.0 l.auto.j-end c.loop-j-test.false, l.invariant.1)
