-- It refuses where right terms are too many, or one is alone.
use Rattle.symbols.specs.Code.Symbols.{alone}
use Rattle.symbols.proofs.symbols.rights_may.Goals as goal

pub returns-then-is_none : goal.returns-then-is_none
returns-then-is_none c = λ z. alone _ c.loop-j-test.true (c.first_may.ensures.none c.if-is_none.ensures)
