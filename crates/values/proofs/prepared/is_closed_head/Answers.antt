use native.Mathlib.Omega.{arith}
use Rattle.nodes.specs.Code.Open.{closed_head_test}
use Rattle.values.proofs.prepared.is_closed_head.Goals as goal

pub overflow_cast-head : goal.overflow_cast-head
overflow_cast-head c =
    omega (arith, c.type_inv.heads c.args.i)

pub returns : goal.returns
unfolding closed_head_test
returns c = rw (c.is_closed.ensures, c.arity.ensures.0)
