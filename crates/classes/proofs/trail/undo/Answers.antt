use Rattle.classes.proofs.TrailLaws.{undoing_none, undoing_done, undoing_last, undoing_on}
use Rattle.classes.proofs.trail.undo.Goals as goal

pub loop-k-init : goal.loop-k-init
loop-k-init c = undoing_none _ _ _ c.requires.0

pub unmerge-requires : goal.unmerge-requires
unmerge-requires c = undoing_last c.loop-k.invariant c.loop-k-test.true

pub loop-k-preserved : goal.loop-k-preserved
loop-k-preserved c = undoing_on c.loop-k.invariant c.loop-k-test.true c.unmerge.ensures

pub returns : goal.returns
returns c = undoing_done c.loop-k.invariant c.loop-k-test.false
