-- From the last place back, the entries written are those with any digits from the place on. At a mark they are repeated with the digits after 1.
use Prim.Native.Nat.{ℕ, ◌≤◌, ◌+◌}
use mathlib.Core.List.{List}
use mathlib.Core.Path.{◌≡◌}
use lib.ListN.{length}
use Rattle.std.specs.Prelude.{Ok}
use Rattle.entries.specs.Code.Writing.{put, Writes, right_entries}
use Rattle.entries.proofs.writing.write_rights.Given as goal

abbrev pub invariant-loop-q : goal.invariant-loop-q
invariant-loop-q l = (l.p ≤ l.q) × (l.at ≤ l.used) × (l.used ≤ length l.out) × ((lent : List ℕ) → l.at + length l.entry ≤ length lent →
    l.initial.out ≡ put l.at l.entry lent → Writes (right_entries l.k l.entry l.q l.end) lent l.at l.out (Ok l.used))
