-- The terms so far are put, each as a byte.
use mathlib.Core.Path.{◌≡◌}
use lib.Seq.{paste}
use Rattle.branches.proofs.known.put_terms.Given as goal

abbrev pub invariant-loop-i : goal.invariant-loop-i
invariant-loop-i l = l.known ≡ paste l.initial.known l.p l.terms l.i
