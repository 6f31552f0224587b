-- A title for each answer, and behind it the entries as they lie in the lent words.
use mathlib.Core.Path.{sym, ap, ◌∙◌}
use native.Mathlib.Omega.{arith}
use borrow.Author.Rules.{rules}
use Rattle.multiset_unification.specs.Answer.{told_listing}
use Rattle.list.proofs.LengthLaws.{title_fits}
use Rattle.list.proofs.PrintLaws.{refused_printed, full_printable, full_printed, finished_printable, finished_printed}
use Rattle.list.proofs.print.print_listing.Goals as goal

pub write_title-requires : goal.write_title-requires
write_title-requires c =
    title_fits _ _ _ (omega arith) (search rules)
    c.requires.1

pub write_entries-requires : goal.write_entries-requires
write_entries-requires c =
    let l = c.list in (
      omega arith,
      full_printable _ _ _ _ _ c.requires.0 l.ensures.out_after c.entry_words-width.ensures
          (sym (ap told_listing c.in-Ok-Full.field-0-is) ∙ c.in-Ok-Full.ensures.result_value),
      c.requires.1,
    )

pub write_entries-requires-in-Ok-Finished : goal.write_entries-requires-in-Ok-Finished
write_entries-requires-in-Ok-Finished c =
    let l = c.list in (
      omega arith,
      finished_printable _ _ _ _ _ c.requires.0 l.ensures.out_after c.entry_words-width.ensures
          (sym (ap told_listing c.in-Ok-Finished.field-0-is) ∙ c.in-Ok-Finished.ensures.result_value),
      c.requires.1,
    )

pub returns-in-Err : goal.returns-in-Err
returns-in-Err c =
    let l = c.list in
    refused_printed _ _ _ _ c.requires.0 c.in-Err.ensures.result_value c.number.ensures c.write_title.ensures

pub returns-in-Ok-Full : goal.returns-in-Ok-Full
returns-in-Ok-Full c =
    let l = c.list in
    full_printed _ _ _ _ _ c.requires.0 l.ensures.out_after c.entry_words-width.ensures (sym (ap told_listing c.in-Ok-Full.field-0-is) ∙ c.in-Ok-Full.ensures.result_value)
    c.write_entries.ensures

pub returns-in-Ok-Finished : goal.returns-in-Ok-Finished
returns-in-Ok-Finished c =
    let l = c.list in
    finished_printed _ _ _ _ _ c.requires.0 l.ensures.out_after c.entry_words-width.ensures (sym (ap told_listing c.in-Ok-Finished.field-0-is) ∙ c.in-Ok-Finished.ensures.result_value)
    c.write_entries-in-Ok-Finished.ensures
