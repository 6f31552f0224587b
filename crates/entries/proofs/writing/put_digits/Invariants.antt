-- The first entries have the digit, and the next place to have it is that of the next entry (`Digits`). A turn puts one more.
use Prim.Native.Nat.{ℕ, ◌+◌, ◌-◌}
use mathlib.Core.List.{List}
use mathlib.Core.Path.{◌≡◌}
use lib.ListN.{length}
use Rattle.entries.specs.Code.Writing.{Block}
use Rattle.entries.proofs.BlockLaws.{Digits}
use Rattle.entries.proofs.writing.put_digits.Given as goal

abbrev pub invariant-loop-i : goal.invariant-loop-i
invariant-loop-i l = (length l.out ≡ length l.initial.out) ×
    ((es : List (List ℕ)) → Block es l.width l.initial.out l.at (l.at + l.count) → Digits es l.p l.d l.initial.out l.at l.out l.i)

abbrev pub decreases-loop-i : goal.decreases-loop-i
decreases-loop-i l = l.count - l.i
