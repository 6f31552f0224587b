-- The entries are copied, stand there (`moved_block`), and are given the digit there.
use Rattle.entries.proofs.BlockLaws.{moved_block, moved_digit}
use Rattle.entries.proofs.writing.copy_with.Goals as goal

pub returns : goal.returns
returns c =
    let w = c.copy_behind.ensures in
    λ es b. moved_digit c.args.at c.args.count b c.requires.3 w c.args.p c.args.d
    (c.put_digits.ensures es (moved_block c.args.at c.args.count b c.requires.3 w))
