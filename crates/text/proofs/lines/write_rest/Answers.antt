use mathlib.Core.Path.{refl}
use Rattle.text.proofs.LineLaws.{word_next, word_none, word_fits, feed_fits}
use Rattle.text.proofs.WritingLaws.{writing_begins, writing_goes_on, writing_ends}
use Rattle.text.proofs.lines.write_rest.Goals as goal

pub loop-i-init : goal.loop-i-init
loop-i-init c = writing_begins

pub write_next-next-requires : goal.write_next-next-requires
write_next-next-requires c = word_fits _ _ _ c.loop-i.invariant c.loop-i-test.true c.requires

pub loop-i-preserved : goal.loop-i-preserved
loop-i-preserved c = writing_goes_on c.loop-i.invariant (word_next _ _ c.loop-i-test.true) c.write_next-next.ensures

pub write_byte-requires : goal.write_byte-requires
write_byte-requires c = feed_fits _ _ _ c.loop-i.invariant c.loop-i-test.false c.requires

pub returns : goal.returns
returns c = writing_ends (writing_goes_on c.loop-i.invariant (word_none _ _ c.loop-i-test.false) c.write_byte.ensures) refl
