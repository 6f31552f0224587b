-- There is room for the title and, behind it, for the lines.
use native.Mathlib.Omega.{arith}
use Rattle.list.proofs.LengthLaws.{few_entries, title_fits, lines_fit}
use Rattle.text.proofs.WritingLaws.{wrote_both}
use Rattle.list.proofs.print.write_entries.Goals as goal

pub overflow_cast-count : goal.overflow_cast-count
overflow_cast-count c = omega (arith, few_entries _ _ _ c.requires.1)

pub write_title-next-requires : goal.write_title-next-requires
write_title-next-requires c = let p = c.requires in title_fits _ _ _ p.0 (omega (arith, few_entries _ _ _ p.1)) p.2

pub write_lines-requires : goal.write_lines-requires
write_lines-requires c =
    let p = c.requires in
    let r = lines_fit _ _ _ _ p.0 p.1 (λ i q. omega (arith, c.type_inv.words i)) p.2 c.write_title-next.ensures in
    record { count_in_bounds = r.0; words_in_bounds = r.1 }

pub returns : goal.returns
returns c = wrote_both c.write_title-next.ensures c.write_lines.ensures
