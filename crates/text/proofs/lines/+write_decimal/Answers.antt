-- A tenth of the number is written before its last digit.
use Rattle.std.proofs.Common.{rules}
use Rattle.text.proofs.WritingLaws.{one_digit_fits, wrote_one_digit, first_digits_fit, last_digit_fits, wrote_last_digit}
use Rattle.text.proofs.lines.+write_decimal.Goals as goal

pub write_byte-requires : goal.write_byte-requires
write_byte-requires t c = one_digit_fits _ _ _ c.if-n-lt10.true c.requires

pub returns-then-n-lt10 : goal.returns-then-n-lt10
returns-then-n-lt10 t c = wrote_one_digit _ c.if-n-lt10.true c.write_byte.ensures

pub write_decimal-next-requires : goal.write_decimal-next-requires
write_decimal-next-requires t c = (search rules, first_digits_fit _ _ _ c.if-n-lt10.false c.requires)

pub write_byte-requires-2 : goal.write_byte-requires-2
write_byte-requires-2 t c = last_digit_fits _ c.if-n-lt10.false c.requires c.write_decimal-next.ensures

pub returns : goal.returns
returns t c = wrote_last_digit _ c.if-n-lt10.false c.write_decimal-next.ensures c.write_byte-2.ensures
