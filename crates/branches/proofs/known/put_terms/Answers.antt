-- One term more is put. By the law of a copy, place by place.
use native.Mathlib.Omega.{arith}
use Rattle.std.proofs.lemmas.List.Edits.{paste_more}
use Rattle.branches.proofs.known.put_terms.Goals as goal

pub loop-i-preserved : goal.loop-i-preserved
loop-i-preserved c =
    rw c.loop-i.invariant (paste_more c.args.known.now c.args.p c.args.terms.now c.loop-i.i 0 (omega arith) c.loop-i-test.true)
