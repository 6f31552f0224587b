-- A refused table has no entry, in an accepted one the words are counted.
use mathlib.Core.Path.{sym, ◌∙◌}
use Rattle.table.proofs.AcceptedLaws.{accepted}
use Rattle.listing.proofs.WidthLaws.{refused_none, accepted_all}
use Rattle.listing.proofs.entry_words.Goals as goal

pub accepted_words-requires : goal.accepted_words-requires
accepted_words-requires c = (accepted _).0 (sym c.in-Ok.ensures)
