use lib.ListN.{length}
use Rattle.classes.proofs.TrailLaws.{Undoing}
use Rattle.classes.proofs.trail.undo.Given as goal

abbrev pub invariant-loop-k : goal.invariant-loop-k
invariant-loop-k l = Undoing (length l.initial.heads) l.mark l.k l.heads l.next l.initial.heads l.initial.next
