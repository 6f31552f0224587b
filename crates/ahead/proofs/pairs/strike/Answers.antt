use native.Mathlib.Omega.{arith}
use Rattle.branches.proofs.KnownLaws.{known_kept, formed_kept, keeps_twice}
use Rattle.ahead.proofs.StruckLaws.{rows_more, keeps_row}
use Rattle.ahead.proofs.pairs.strike.Goals as goal

pub first_row-row-requires-clause-known_of : goal.first_row-row-requires-clause-known_of
first_row-row-requires-clause-known_of c =
    let s = c.loop-i.invariant.keeps in
    (known_kept c.requires.0 s, formed_kept c.requires.0 s c.requires.1)

pub loop-i-preserved : goal.loop-i-preserved
loop-i-preserved c =
    let p = c.requires.0 in
    let l = c.loop-i.invariant in
    let s = l.keeps.size in
    let r = c.first_row-row.ensures in record {
      few = omega arith;
      keeps = keeps_twice l.keeps (keeps_row _ _ _);
      rows = rows_more _ _ _ (omega arith) (known_kept p l.keeps).right_few r.row_to (omega arith) l.rows;
    }
