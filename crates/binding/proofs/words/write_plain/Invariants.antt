-- The words of the first p nodes are written.
use mathlib.Core.Path.{◌≡◌}
use Rattle.binding.specs.Code.Binding.{plain_word}
use Rattle.binding.proofs.NotingLaws.{read_to}
use Rattle.binding.proofs.words.write_plain.Given as goal

abbrev pub invariant-loop-p : goal.invariant-loop-p
invariant-loop-p l = l.out ≡ read_to (plain_word l.nodes l.heads l.by) l.list l.initial.out l.p
