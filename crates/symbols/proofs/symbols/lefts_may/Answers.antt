-- It finds none where left terms are too many, or one is alone.
use mathlib.Core.Path.{refl}
use Rattle.symbols.specs.Code.Symbols.{alone}
use Rattle.symbols.proofs.symbols.lefts_may.Goals as goal

pub returns-in_err-met : goal.returns-in_err-met
returns-in_err-met c = λ z. alone _ c.loop-term-test.true (c.in_err-met.ensures.none refl)
