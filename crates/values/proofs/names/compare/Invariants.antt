-- The symbols are one, and the arguments so far have the same values.
use Prim.Native.Nat.{ℕ}
use mathlib.Core.Path.{◌≡◌}
use Rattle.values.specs.Code.Naming.{AlikeBy}
use Rattle.values.proofs.names.compare.Given as goal

abbrev pub invariant-loop-j : goal.invariant-loop-j
invariant-loop-j g l =
    (value : ℕ → ℕ) → ((a : _) (r : _) → goal.F-post g l.name a r → r.0 ≡ value a.0) → AlikeBy l.nodes l.arguments value l.g.0 l.h.0 l.j
