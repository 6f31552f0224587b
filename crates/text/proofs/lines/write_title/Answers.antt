-- A text, a number and a line feed, one behind the other.
use Rattle.text.proofs.LineLaws.{text_fits, number_fits, title_ends, wrote_title}
use Rattle.text.proofs.lines.write_title.Goals as goal

pub write_text-number-requires : goal.write_text-number-requires
write_text-number-requires c = text_fits _ _ _ _ c.requires

pub write_decimal-end-requires : goal.write_decimal-end-requires
write_decimal-end-requires c = number_fits _ _ c.requires c.write_text-number.ensures

pub write_byte-requires : goal.write_byte-requires
write_byte-requires c = title_ends _ _ c.requires c.write_text-number.ensures c.write_decimal-end.ensures

pub returns : goal.returns
returns c = wrote_title _ _ c.write_text-number.ensures c.write_decimal-end.ensures c.write_byte.ensures
