-- The words of the first k nodes are written.
use mathlib.Core.Path.{◌≡◌}
use Rattle.table.specs.Layout.{word}
use Rattle.nodes.specs.Code.Named.{value_name}
use Rattle.binding.proofs.NotingLaws.{read_to}
use Rattle.binding.proofs.words.write_words.Given as goal

abbrev pub invariant-loop-k : goal.invariant-loop-k
invariant-loop-k l = l.out ≡ read_to (λ v. word l.by (value_name l.heads l.names v)) l.list l.initial.out l.k
