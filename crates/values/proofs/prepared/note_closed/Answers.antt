-- The application is put at its place, and chained by its key.
use mathlib.Core.Path.{refl}
use borrow.Author.Rules.{rules}
use Rattle.values.proofs.PreparedLaws.{closed_noted}
use Rattle.values.proofs.prepared.note_closed.Goals as goal

pub returns : goal.returns
returns c =
    let k = c.key-k in
    closed_noted _ _ _ _ _ _ _ _ _ k.ensures.0 (record { latest = search rules; earlier = search rules }) refl c.put.ensures
