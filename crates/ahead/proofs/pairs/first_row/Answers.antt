-- A row with every right term lacks none.
use Rattle.ahead.proofs.StruckLaws.{row_whole}
use Rattle.ahead.proofs.pairs.first_row.Goals as goal

pub returns-then-is_variable-clause-row_to : goal.returns-then-is_variable-clause-row_to
returns-then-is_variable-clause-row_to c = row_whole c.requires.known_of.0.every c.at.ensures.0
