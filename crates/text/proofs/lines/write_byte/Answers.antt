-- A byte is stored behind the text.
use Rattle.text.proofs.WritingLaws.{wrote_byte}
use Rattle.text.proofs.lines.write_byte.Goals as goal

-- src/lines.rt:10:1
pub returns : goal.returns
returns c = wrote_byte _ _ _ c.requires
