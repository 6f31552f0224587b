use mathlib.Core.Path.{refl}
use Rattle.binding.proofs.NotingLaws.{free_none, free_down}
use Rattle.binding.proofs.words.note_free_variables.Goals as goal

pub loop-k-init : goal.loop-k-init
loop-k-init c = free_none _ _ _ _ c.requires.head_names _ c.requires.are_nodes.0 _ _ refl c.requires.are_nodes.1

pub loop-k-preserved : goal.loop-k-preserved
loop-k-preserved c =
    rw c.note_free_variable.ensures
    (free_down _ _ _ _ c.requires.head_names _ c.requires.are_nodes.0 _ _ c.loop-k.k c.loop-k-test.true c.loop-k.auto.k c.loop-k.invariant)
