-- The key is that of the symbol and the heads of the arguments so far, and it is known whether these are closed applications.
use Prim.Native.Nat.{◌<◌}
use mathlib.Core.Path.{◌≡◌}
use Rattle.values.specs.Code.Applications.{keys}
use Rattle.values.specs.Code.Naming.{key_up_to}
use Rattle.values.proofs.CountLaws.{ClosedSoFar}
use Rattle.values.proofs.beginning.look.Given as goal

abbrev pub invariant-loop-j : goal.invariant-loop-j
invariant-loop-j l =
    ((l.key ≡ key_up_to l.nodes l.arguments l.heads l.heads l.node.0 l.j) × (l.key < keys)) ×
    ClosedSoFar l.nodes l.arguments l.counts l.node.0 l.j l.closed
