-- A blank, and a number behind it.
use Rattle.text.proofs.WritingLaws.{wrote_both}
use Rattle.text.proofs.lines.write_next.Goals as goal

pub returns : goal.returns
returns c = wrote_both c.write_byte-next.ensures c.write_decimal.ensures
