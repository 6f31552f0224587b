-- Bits that are all 1 leave out nothing.
use Rattle.ahead.proofs.PlanLaws.{full_ready}
use Rattle.forcing.proofs.SettledLaws.{plans_whole}
use Rattle.forcing.proofs.settled.plan_first.Goals as goal

pub returns-then-known-is_whole : goal.returns-then-known-is_whole
returns-then-known-is_whole c = plans_whole c.requires.0 c.requires.1

pub plan-requires : goal.plan-requires
plan-requires c = (c.requires.0, full_ready _ _ c.requires.1 c.requires.0.left_few)
