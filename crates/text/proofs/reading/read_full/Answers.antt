-- `text::reading::read_full` gives the known bytes as far as there is room: those that it consumed, for either no more fit or no more are left.
use Rattle.std.proofs.Common.{rules, ◌≡◌, ℕ, ◌+◌, ◌≤◌, List, ◌++◌, take, length, length-take-le, ap, ◌∙◌, subst}
use Rattle.std.proofs.lemmas.List.{take-append-le}
use Rattle.std.proofs.Math.Seq.{take-append-add}
use Rattle.std.proofs.KnownBytes.{Consumes-trans, Consumes-kept}
use borrow.Rule.Slice.PartMut.{put_mid, post_of, take_put}
use Rattle.text.proofs.reading.read_full.Goals as goal
use Rattle.text.proofs.reading.read_full.Goals.{in-Ok, in-Err}

-- the front grows by what is read after it
front_grown : (n m k : ℕ) (xs ys : List ℕ) → n ≤ length xs → m ≤ length ys → take (n + m) (put_mid n k xs ys) ≡ take n xs ++ take m ys
front_grown n m k xs ys h l =
    subst (λ a. take (a + m) (put_mid n k xs ys) ≡ take n xs ++ take m ys) (length-take-le n xs h)
    (take-append-add (take n xs) (ys ++ post_of n k xs) m ∙ ap (λ r. take n xs ++ r) (take-append-le m ys (post_of n k xs) l))

pub loop-preserved : goal.loop-preserved
loop-preserved g c =
    let before = c.loop.invariant in
    elim c.match-read.branch [
      | in-Ok w ↦ (
        search rules,
        rw (w.n-is, front_grown c.loop.n w.in-Ok.more _ c.loop.bytes c.read.new.buf before.0 w.in-Ok.ensures.bound.0)
            (Consumes-trans _ _ _ _ _ before.1 w.in-Ok.ensures.bytes.0),
      )
      | in-Err w ↦ (
        search rules,
        rw (w.n-is, take_put c.loop.n _ c.loop.bytes c.read.new.buf before.0)
            (Consumes-kept _ _ _ _ before.1 w.in-Err.ensures.bytes),
      )
    ]
