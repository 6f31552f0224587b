-- How parts and joined lists are read, over plain lists and numbers. Assumes nothing.
use Prim.Native.Nat.{ℕ, ◌+◌, ◌-◌, ◌<◌, ◌≤◌}
use mathlib.Core.Path.{◌≡◌, sym, ap, ◌∙◌}
use mathlib.Core.List.{List, ◌++◌}
use native.Mathlib.Omega.{arith}
use lib.ListN.{length, take, drop, get_or-append}
use lib.Seq.{get_or-append-add}
use Rattle.table.specs.Layout.{word, offset, size, section}

-- The part from a section's offset to its end is the section.
pub part : (t : List ℕ) (k at n : ℕ) → at ≡ offset t k → n ≡ size t k → take ((at + n) - at) (drop at t) ≡ section t k
part t k at n a b =
    let e : (at + n) - at ≡ n = omega arith in
    rw (e, b, a)

-- A word of two lists, one after the other.
pub word_left : (xs ys : List ℕ) (i : ℕ) → i < length xs → word xs i ≡ word (xs ++ ys) i
word_left xs ys i h = sym (get_or-append xs ys 0 i h)

pub word_right : (xs ys : List ℕ) (i : ℕ) → length xs ≤ i → word ys (i - length xs) ≡ word (xs ++ ys) i
word_right xs ys i h =
    let e : length xs + (i - length xs) ≡ i = omega arith in
    sym (get_or-append-add xs ys (i - length xs) 0) ∙ ap (word (xs ++ ys)) e
