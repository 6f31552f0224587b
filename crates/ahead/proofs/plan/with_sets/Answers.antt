-- Each bit of a union is a bit of one of the two words.
use Rattle.ahead.proofs.BitLaws.{with_put}
use Rattle.ahead.proofs.plan.with_sets.Goals as goal

pub returns-then-may : goal.returns-then-may
returns-then-may c = with_put _ _ c.args.may c.if-may.true
