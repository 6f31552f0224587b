-- A turn writes the entries with one digit (`Repeating`), or as many of them as there are widths in the room. The block itself stays.
use Prim.Native.Nat.{ℕ, ◌≤◌}
use mathlib.Core.List.{List}
use lib.ListN.{length}
use Rattle.entries.specs.Code.Writing.{Block}
use Rattle.entries.proofs.BlockLaws.{Repeating}
use Rattle.entries.proofs.writing.repeat.Given as goal

abbrev pub invariant-loop-d : goal.invariant-loop-d
invariant-loop-d l = (l.to ≤ l.used) × (l.used ≤ length l.out) × ((es : List (List ℕ)) → Block es l.width l.initial.out l.from l.to →
    Repeating es l.width l.p l.first l.last l.from l.to l.initial.out l.d l.out l.used)
