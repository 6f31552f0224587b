-- The nodes from place k on are noted at their heads.
use Prim.Native.Nat.{◌-◌}
use lib.ListN.{length}
use Rattle.binding.specs.Code.Binding.{HeadsFrom}
use Rattle.binding.proofs.words.note_heads.Given as goal

abbrev pub invariant-loop-z : goal.invariant-loop-z
invariant-loop-z l = HeadsFrom l.heads l.list l.by (length l.list - length l.yielded)
