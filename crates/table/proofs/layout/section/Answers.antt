-- A section starts at its offset and is as long as its size.
use Rattle.table.proofs.LayoutLaws.{part}
use Rattle.table.proofs.layout.section.Goals as goal

pub returns : goal.returns
returns c = part _ c.args.k _ _ c.offset-at.ensures.0 c.size.ensures.0
