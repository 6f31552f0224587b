use native.Mathlib.Omega.{arith}
use Rattle.branches.proofs.KnownLaws.{known_kept, keeps_twice}
use Rattle.forcing.proofs.RowLaws.{rows_same, rows_none}
use Rattle.forcing.proofs.settled.settle_rows.Goals as goal

pub settle_row-requires-clause-known_of : goal.settle_row-requires-clause-known_of
settle_row-requires-clause-known_of c = known_kept c.requires.known_of c.loop-i.invariant.keeps

pub returns-in_err-fewer : goal.returns-in_err-fewer
returns-in_err-fewer c = rw c.from_residual.ensures (rows_none c.loop-i.invariant.keeps c.settle_row.ensures.settles c.requires.known_of c.in_err-fewer.was)

pub loop-i-preserved : goal.loop-i-preserved
loop-i-preserved c =
    let l = c.loop-i.invariant in
    let x = c.settle_row.ensures in record {
      few = omega (arith, c.in_ok-fewer.ensures.upper_bound);
      keeps = keeps_twice l.keeps x.settles.keeps;
      based = x.settles.based _ c.in_ok-fewer.was;
      same = rows_same l.keeps x.settles l.same c.in_ok-fewer.was;
    }
