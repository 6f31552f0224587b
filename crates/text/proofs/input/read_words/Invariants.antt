-- The words so far, and those of the bytes that are left, are the words of all bytes.
use Prim.Native.Nat.{◌*◌, ◌/◌, ◌-◌, ◌≤◌}
use mathlib.Core.List.{◌++◌}
use mathlib.Core.Path.{◌≡◌}
use lib.ListN.{length, take, drop}
use Rattle.text.specs.Input.{words_of_bytes}
use Rattle.text.proofs.input.read_words.Given as goal

abbrev pub invariant-loop-i : goal.invariant-loop-i
invariant-loop-i l = (l.n ≡ length l.bytes / 4) × (length l.words ≡ length l.initial.words) ×
    (length l.bytes ≤ 4 * length l.initial.words) × (take l.i l.words ++ words_of_bytes (drop (4 * l.i) l.bytes) ≡ words_of_bytes l.bytes)
