-- Refusal 11 is tested first, and what is left are the words of a table.
use mathlib.Core.Path.{◌∙◌, sym}
use native.Mathlib.Omega.{arith}
use Rattle.list.proofs.LengthLaws.{title_fits}
use Rattle.list.proofs.PrintLaws.{wrong_printed, right_bytes, right_printed}
use Rattle.list.proofs.print.print.Goals as goal

pub write_title-requires : goal.write_title-requires
write_title-requires c =
    title_fits _ _ _ (omega arith) (omega arith) c.requires

pub returns-then-wrong_bytes : goal.returns-then-wrong_bytes
returns-then-wrong_bytes c =
    wrong_printed _ (sym c.wrong_bytes.ensures ∙ c.if-wrong_bytes.true) c.write_title.ensures

pub read_words-n-requires : goal.read_words-n-requires
read_words-n-requires c =
    right_bytes _ (sym c.wrong_bytes.ensures ∙ c.if-wrong_bytes.false)

pub returns : goal.returns
returns c =
    let r = c.read_words-n in
    right_printed _ r.new.words r.result (sym c.wrong_bytes.ensures ∙ c.if-wrong_bytes.false) r.ensures.1 c.print_table.ensures
