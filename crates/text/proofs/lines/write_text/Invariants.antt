-- Each turn writes a byte, and the rest is left.
use Prim.Native.Nat.{◌≤◌, ◌-◌}
use lib.ListN.{length, drop}
use Rattle.text.specs.Code.Writing.{Writing}
use Rattle.text.proofs.lines.write_text.Given as goal

abbrev pub invariant-loop-i : goal.invariant-loop-i
invariant-loop-i l = Writing l.initial.out l.at l.text l.out l.next (drop l.i l.text)
