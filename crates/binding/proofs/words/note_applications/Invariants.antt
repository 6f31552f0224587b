-- The open applications so far are noted.
use Rattle.binding.specs.Code.Binding.{OpenNoted}
use Rattle.binding.proofs.words.note_applications.Given as goal

abbrev pub invariant-loop-i : goal.invariant-loop-i
invariant-loop-i l = OpenNoted l.nodes l.heads l.names l.opens l.by l.i-index
