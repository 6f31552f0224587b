-- It refuses where terms that must be paired cannot be.
use mathlib.Core.Path.{refl}
use Rattle.symbols.proofs.UnpairedLaws.{lefts_none, rights_none}
use Rattle.symbols.proofs.symbols.sides_may.Goals as goal

pub returns-in_default : goal.returns-in_default
returns-in_default c = λ z. lefts_none c.if-l-eq0.true (c.in_default.ensures refl)

pub returns-then-k-eq0 : goal.returns-then-k-eq0
returns-then-k-eq0 c = λ z. rights_none c.if-k-eq0.true (c.rights_may.ensures z)
