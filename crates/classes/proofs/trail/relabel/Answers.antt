use Rattle.nodes.proofs.CircleLaws.{nearer}
use Rattle.classes.proofs.RelabelLaws.{passing_begun, passing_next, passing_end}
use Rattle.classes.proofs.trail.relabel.Goals as goal

pub loop-i-init : goal.loop-i-init
loop-i-init c = passing_begun _ _ _ c.args.heads.now _ c.requires.0 c.requires.1

pub loop-i-smaller : goal.loop-i-smaller
loop-i-smaller c =
    let l = c.loop-i in
    nearer _ _ _ l.i l.invariant.circling l.invariant.inside l.invariant.back c.loop-i-test.true

pub loop-i-preserved : goal.loop-i-preserved
loop-i-preserved c =
    let l = c.loop-i in
    passing_next _ _ _ _ l.i l.heads l.invariant c.loop-i-test.true

pub returns : goal.returns
returns c =
    let l = c.loop-i in
    passing_end _ _ _ c.args.heads.now l.i l.heads l.invariant c.loop-i-test.false
