-- The two places that are written are apart.
use mathlib.Core.Path.{refl}
use native.Mathlib.Omega.{arith}
use lib.ListN.{length-set}
use Rattle.values.specs.Code.Prepared.{none_looked_at, some_looked_at}
use Rattle.values.proofs.prepared.note_count.Goals as goal

pub returns-then-count-eq0 : goal.returns-then-count-eq0
returns-then-count-eq0 c = none_looked_at c.if-count-eq0.true refl refl

pub bounds-counts-opens : goal.bounds-counts-opens
bounds-counts-opens c = simp length-set (omega (arith, c.requires.1, c.requires.2))

pub returns : goal.returns
returns c = some_looked_at c.if-count-eq0.false refl refl
