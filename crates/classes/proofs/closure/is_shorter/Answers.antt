use Rattle.nodes.proofs.CircleLaws.{nearer, follows_still, not_there}
use Rattle.classes.proofs.closure.is_shorter.Goals as goal

pub loop-i-smaller : goal.loop-i-smaller
loop-i-smaller c =
    let l = c.loop-i in
    nearer _ _ c.args.g l.i l.invariant.1 l.invariant.2 l.invariant.4 (not_there _ _ _ c.loop-i-test.true)

pub loop-i-preserved : goal.loop-i-preserved
loop-i-preserved c =
    let l = c.loop-i in
    let p = l.invariant.1 in
    (l.invariant.0, p, p.below l.i l.invariant.2, p.below l.j l.invariant.3, follows_still l.invariant.4 (not_there _ _ _ c.loop-i-test.true))
