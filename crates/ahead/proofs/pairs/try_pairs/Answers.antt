use mathlib.Core.Path.{refl, ◌∙◌}
use native.Mathlib.Omega.{arith}
use Rattle.branches.proofs.KnownLaws.{known_kept, formed_kept, keeps_twice}
use Rattle.ahead.proofs.StruckLaws.{rows_again, rows_end, rows_as, row_as, row_same, keeps_row}
use Rattle.ahead.proofs.pairs.try_pairs.Goals as goal

pub try_row-may-requires : goal.try_row-may-requires
try_row-may-requires c =
    let p = c.requires in
    let l = c.loop-i.invariant in
    let e = l.keeps.same 578 (omega arith) in record {
      known_of = known_kept p.known_of l.keeps;
      formed = rw (l.heads_same, l.next_same) (formed_kept p.known_of l.keeps p.formed.0, p.formed.1);
      rows_to = (rows_as l.heads_same (rows_end l.rows (omega arith)), omega arith);
    }

pub loop-i-preserved : goal.loop-i-preserved
loop-i-preserved c =
    let p = c.requires in
    let l = c.loop-i.invariant in
    let s = l.keeps.size in
    let t = c.try_row-may.ensures in record {
      keeps = keeps_twice l.keeps (keeps_row _ _ _);
      rows = rows_again _ _ _ (omega arith) (known_kept p.known_of l.keeps).right_few (row_as l.heads_same t.row_to)
          p.known_of.left_few l.rows;
      same = λ z. row_same _ _ _ _ _ _ _ c.at-row.ensures.0 refl l.same z;
      heads_same = t.heads_unchanged.0 ∙ l.heads_same;
      next_same = t.heads_unchanged.1 ∙ l.next_same;
    }
