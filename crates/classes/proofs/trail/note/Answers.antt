use Prim.Native.Nat.{ℕ, ◌+◌}
use mathlib.Core.Path.{ap}
use native.Mathlib.Numerals.{add-one}
use lib.ListN.{set}
use Rattle.nodes.specs.Code.Trail.{noted_gone}
use Rattle.classes.proofs.trail.note.Goals as goal

pub returns : goal.returns
unfolding noted_gone
returns c = ap (λ (x : ℕ). set (set c.args.next.now 256 x) (256 + x) c.args.g) (add-one _)
