-- The first word and what stands after it, or the line feed alone.
use native.Mathlib.Nat.{pos_of_ne-zero}
use Rattle.text.proofs.LineLaws.{empty_line_fits, wrote_empty_line, first_word_fits, other_words_fit, wrote_line}
use Rattle.text.proofs.lines.write_line.Goals as goal

pub write_byte-requires : goal.write_byte-requires
write_byte-requires c = empty_line_fits _ _ _ c.if-words-eq0.true c.requires

pub returns-then-words-eq0 : goal.returns-then-words-eq0
returns-then-words-eq0 c = wrote_empty_line _ c.if-words-eq0.true c.write_byte.ensures

pub write_decimal-next-requires : goal.write_decimal-next-requires
write_decimal-next-requires c = first_word_fits _ _ _ (pos_of_ne-zero c.if-words-eq0.false) c.requires

pub write_rest-requires : goal.write_rest-requires
write_rest-requires c = other_words_fit _ (pos_of_ne-zero c.if-words-eq0.false) c.requires c.write_decimal-next.ensures

pub returns : goal.returns
returns c = wrote_line _ (pos_of_ne-zero c.if-words-eq0.false) c.write_decimal-next.ensures c.write_rest.ensures
