use Rattle.nodes.specs.Code.Open.{closed_test}
use Rattle.nodes.proofs.sections.is_closed.Goals as goal

pub returns : goal.returns
unfolding closed_test
returns c = rw c.is_variable.ensures
