use Prim.Native.Nat.{◌+◌, ◌-◌}
use native.Mathlib.Omega.{arith}
use borrow.Author.Rules.{rules}
use Rattle.entries.proofs.BlockLaws.{repeats_none, repeats_next, repeats_full, repeats_last, repeats_cut, repeats_whole}
use Rattle.entries.proofs.writing.repeat.Goals as goal

pub returns-then-count-width : goal.returns-then-count-width
returns-then-count-width c = let a = c.args in λ es b. repeats_none b a.p (a.first + 1) (a.last - a.first) c.if-count-width.true

pub returns-then-room-count : goal.returns-then-room-count
returns-then-room-count c =
    let t = c.if-room-count.true in
    λ es b. let g = c.loop-d.invariant.2 es b in
    repeats_full g c.loop-d-test.true c.requires.0 t (c.copy_with.ensures _ (repeats_cut g c.requires.0 t))

pub loop-d-preserved : goal.loop-d-preserved
loop-d-preserved c =
    let l = c.loop-d in (
      search rules,
      search rules,
      λ es b. let g = l.invariant.2 es b in
          repeats_next g c.loop-d-test.true l.invariant.0 (omega (arith, c.if-room-count.false)) (c.copy_with-in-loop-d.ensures es (repeats_whole g)),
    )

pub returns-else-count-width : goal.returns-else-count-width
returns-else-count-width c =
    λ es b. repeats_last (c.loop-d.invariant.2 es b) (omega (arith, c.loop-d-test.false))

pub returns-else-room-count : goal.returns-else-room-count
returns-else-room-count c =
    let l = c.loop-d in
    λ es b. let g = l.invariant.2 es b in
    repeats_last
    (repeats_next g c.loop-d-test.true l.invariant.0 (omega (arith, c.if-room-count.false)) (c.copy_with-in-loop-d.ensures es (repeats_whole g)))
    (omega arith)
