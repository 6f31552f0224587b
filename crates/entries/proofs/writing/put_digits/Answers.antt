use native.Mathlib.Omega.{arith}
use borrow.Author.Rules.{rules}
use Rattle.entries.proofs.BlockLaws.{digits_first, digits_next, digits_last}
use Rattle.entries.proofs.writing.put_digits.Goals as goal

pub loop-i-init : goal.loop-i-init
loop-i-init c = let a = c.args in (search rules, λ es b. digits_first a.count b a.p a.d)

pub loop-i-preserved : goal.loop-i-preserved
loop-i-preserved c =
    let l = c.loop-i in
    (search rules, λ es b. digits_next c.args.count b c.args.p c.args.d c.requires.0 (l.invariant.1 es b) c.loop-i-test.true)

pub returns : goal.returns
returns c =
    let l = c.loop-i in
    λ es b. digits_last c.args.count b c.args.p c.args.d c.requires.0 (l.invariant.1 es b) (omega (arith, c.loop-i-test.false))
