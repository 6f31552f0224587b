-- The word of the left term and the set is shifted to the bit of the set. By the definition of the bit.
use borrow.Author.Rules.{rules}
use Rattle.branches.specs.Code.Ahead.{has, bit_at}
use Rattle.branches.proofs.branch.can_complete.Goals as goal

pub returns : goal.returns
unfolding bit_at has
returns c = search rules
