-- The free variables from place k on are noted.
use Rattle.binding.specs.Code.Binding.{FreeFrom}
use Rattle.binding.proofs.words.note_free_variables.Given as goal

abbrev pub invariant-loop-k : goal.invariant-loop-k
invariant-loop-k l = FreeFrom l.nodes l.heads l.names l.list l.initial.by l.by l.k
