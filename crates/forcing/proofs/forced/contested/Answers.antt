use Rattle.forcing.proofs.TakerLaws.{taken_turn}
use Rattle.forcing.proofs.forced.contested.Goals as goal

pub loop-i-preserved : goal.loop-i-preserved
loop-i-preserved c = taken_turn c.at-row.ensures.0 c.loop-i.invariant
