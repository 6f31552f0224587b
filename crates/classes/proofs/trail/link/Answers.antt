use borrow.Author.Rules.{rules}
use Rattle.nodes.specs.Code.Uniting.{exchanged}
use Rattle.classes.proofs.trail.link.Goals as goal

pub returns : goal.returns
unfolding exchanged
returns c = search rules
