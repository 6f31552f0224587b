use native.Mathlib.Omega.{arith}
use borrow.Author.Rules.{rules}
use lib.Seq.{paste-zero}
use Rattle.entries.proofs.WritingLaws.{copied_next, copied_all}
use Rattle.entries.proofs.writing.copy.Goals as goal

pub loop-i-init : goal.loop-i-init
loop-i-init c = let a = c.args in (search rules, paste-zero a.out.now a.at a.words.now)

pub loop-i-preserved : goal.loop-i-preserved
loop-i-preserved c =
    let l = c.loop-i in
    (search rules, copied_next c.args.words.now c.args.out.now c.args.at l.i c.requires c.loop-i-test.true l.invariant.1)

pub returns : goal.returns
returns c =
    let a = c.args in
    let l = c.loop-i in
    copied_all a.words.now a.out.now a.at l.i (omega (arith, l.auto.i-end, c.loop-i-test.false)) l.invariant.1
