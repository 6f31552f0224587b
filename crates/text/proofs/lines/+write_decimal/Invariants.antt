-- The measure is the number: a tenth of it is written before its last digit.
use Rattle.text.proofs.lines.+write_decimal.Given as goal

abbrev pub decreases-write_decimal : goal.decreases-write_decimal
decreases-write_decimal l = l.n
