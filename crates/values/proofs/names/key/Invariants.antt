-- X is the key of the symbol and the arguments so far.
use Prim.Native.Nat.{◌<◌}
use mathlib.Core.Path.{◌≡◌}
use Rattle.values.specs.Code.Applications.{keys}
use Rattle.values.specs.Code.Naming.{key_up_to}
use Rattle.values.proofs.names.key.Given as goal

abbrev pub invariant-loop-j : goal.invariant-loop-j
invariant-loop-j l = (l.x ≡ key_up_to l.nodes l.arguments l.heads l.names l.h.0 l.j) × (l.x < keys)
