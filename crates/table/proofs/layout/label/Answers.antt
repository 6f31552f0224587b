-- A place below the left labels is theirs, any other the right ones'.
use Rattle.table.proofs.LayoutLaws.{word_left, word_right}
use Rattle.table.proofs.layout.label.Goals as goal

pub returns-then-i-left : goal.returns-then-i-left
returns-then-i-left c = word_left c.args.left.now c.args.right.now c.args.i c.if-i-left.true

pub returns : goal.returns
returns c = word_right c.args.left.now c.args.right.now c.args.i c.if-i-left.false
