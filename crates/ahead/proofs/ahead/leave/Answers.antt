-- Every row has every right term, and nothing else changes.
use native.Mathlib.Omega.{arith}
use Rattle.ahead.proofs.AheadLaws.{whole_put}
use Rattle.ahead.proofs.ahead.leave.Goals as goal

pub returns : goal.returns
returns c = whole_put (omega arith) c.at-n.ensures.0 (omega arith) (c.fill.ensures.after (λ y h. h))
