-- Each turn writes a blank and a word, and the rest is left.
use Prim.Native.Nat.{◌-◌}
use lib.ListN.{length, drop}
use Rattle.text.specs.Line.{after_word}
use Rattle.text.specs.Code.Writing.{Writing}
use Rattle.text.proofs.lines.write_rest.Given as goal

abbrev pub invariant-loop-i : goal.invariant-loop-i
invariant-loop-i l = Writing l.initial.out l.at (after_word (drop 1 l.words)) l.out l.next (after_word (drop l.i l.words))
