-- Each turn writes the line of the next part.
use Prim.Native.Nat.{◌≤◌, ◌-◌, ◌*◌}
use mathlib.Core.Path.{◌≡◌}
use Rattle.text.specs.Line.{lines}
use Rattle.text.specs.Code.Writing.{Wrote, parts}
use Rattle.text.proofs.lines.write_lines.Given as goal

abbrev pub invariant-loop-i : goal.invariant-loop-i
invariant-loop-i l = (l.from ≡ l.width * l.i) × Wrote l.initial.out l.at (lines (parts l.width l.i l.words)) l.out l.next
