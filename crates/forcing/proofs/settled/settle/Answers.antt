use Rattle.forcing.proofs.SettledLaws.{settling_known, settling_none, settling_same, settling_plan, settling_cannot, settling_again}
use Rattle.forcing.proofs.settled.settle.Goals as goal

pub settle_round-requires-clause-known_of : goal.settle_round-requires-clause-known_of
settle_round-requires-clause-known_of c = settling_known c.requires.known_of c.loop-rounds.invariant

pub returns-in_default : goal.returns-in_default
returns-in_default c = settling_none c.requires.known_of c.loop-rounds.invariant c.settle_round.ensures c.in_default.is

pub returns-then-fewer-eq0 : goal.returns-then-fewer-eq0
returns-then-fewer-eq0 c =
    settling_same c.requires.known_of c.loop-rounds.invariant c.settle_round.ensures c.in-Some.is c.if-fewer-eq0.true

pub plan-requires : goal.plan-requires
plan-requires c = settling_plan c.requires.known_of c.loop-rounds.invariant c.settle_round.ensures

pub returns-then-not-plan : goal.returns-then-not-plan
returns-then-not-plan c =
    settling_cannot c.requires.known_of c.loop-rounds.invariant c.settle_round.ensures c.plan.ensures c.in-Some.is c.if-not-plan.true

pub loop-rounds-preserved : goal.loop-rounds-preserved
loop-rounds-preserved c = settling_again c.requires.known_of c.loop-rounds.invariant c.settle_round.ensures c.plan.ensures c.in-Some.is
