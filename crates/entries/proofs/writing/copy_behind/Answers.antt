use native.Mathlib.Omega.{arith}
use borrow.Author.Rules.{rules}
use lib.ListN.{take, drop, length-drop}
use lib.Seq.{paste-zero, length-take-le}
use Rattle.entries.proofs.WritingLaws.{copied_all}
use Rattle.entries.proofs.BlockLaws.{moved_next}
use Rattle.entries.proofs.writing.copy_behind.Goals as goal

pub loop-i-init : goal.loop-i-init
loop-i-init c = let a = c.args in (search rules, paste-zero a.out.now a.at (take a.count (drop a.from a.out.now)))

pub loop-i-preserved : goal.loop-i-preserved
loop-i-preserved c =
    let l = c.loop-i in (
      search rules,
      moved_next c.args.out.now c.args.from c.args.count c.args.at l.i c.requires.0 c.requires.1 c.loop-i-test.true l.invariant.1,
    )

pub returns : goal.returns
returns c =
    let l = c.loop-i in
    let n = length-take-le c.args.count (drop c.args.from c.args.out.now)
    (omega (arith, c.requires.0, c.requires.1, length-drop c.args.from c.args.out.now)) in
    copied_all (take c.args.count (drop c.args.from c.args.out.now)) c.args.out.now c.args.at l.i
    (omega (arith, n, l.auto.i-end, c.loop-i-test.false)) l.invariant.1
