-- The words so far are copied behind the first ones, and the others are as they were (`paste`). What is read stands before what is written.
use Prim.Native.Nat.{◌≤◌, ◌-◌}
use mathlib.Core.Path.{◌≡◌}
use lib.ListN.{length, take, drop}
use lib.Seq.{paste}
use Rattle.entries.proofs.writing.copy_behind.Given as goal

abbrev pub invariant-loop-i : goal.invariant-loop-i
invariant-loop-i l = (length l.out ≡ length l.initial.out) ×
    (l.out ≡ paste l.initial.out l.at (take l.count (drop l.from l.initial.out)) l.i)
