use borrow.Author.Rules.{rules}
use lib.ListN.{drop_of_length-le}
use Rattle.text.proofs.LineLaws.{text_next, byte_fits}
use Rattle.text.proofs.WritingLaws.{writing_begins, writing_goes_on, writing_ends}
use Rattle.text.proofs.lines.write_text.Goals as goal

pub loop-i-init : goal.loop-i-init
loop-i-init c = writing_begins

pub write_byte-next-requires : goal.write_byte-next-requires
write_byte-next-requires c = byte_fits _ _ c.loop-i.invariant c.loop-i-test.true c.requires

pub loop-i-preserved : goal.loop-i-preserved
loop-i-preserved c = writing_goes_on c.loop-i.invariant (text_next _ _ c.loop-i-test.true) c.write_byte-next.ensures

pub shape_of-out : goal.shape_of-out
shape_of-out c = c.loop-i.invariant.wrote.kept

pub returns : goal.returns
returns c = writing_ends c.loop-i.invariant (drop_of_length-le _ c.loop-i-test.false)
