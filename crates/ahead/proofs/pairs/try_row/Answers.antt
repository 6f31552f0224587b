use mathlib.Core.Path.{◌∙◌}
use native.Mathlib.Omega.{arith}
use Rattle.ahead.proofs.StruckLaws.{row_with, row_without, struck_never, never_named}
use Rattle.ahead.proofs.pairs.try_row.Goals as goal
use Rattle.ahead.proofs.pairs.try_row.Goals.{then-try_pair, else-try_pair}

pub loop-j-preserved-then-row-j-eq0 : goal.loop-j-preserved-then-row-j-eq0
loop-j-preserved-then-row-j-eq0 c =
    let p = c.requires.rows_to in
    let l = c.loop-j.invariant in record {
      row = row_without l.row (struck_never p.0 p.1 (omega arith) c.at-row.ensures.0 c.if-row-j-eq0.true);
      heads_same = l.heads_same;
      next_same = l.next_same;
    }

pub loop-j-preserved : goal.loop-j-preserved
loop-j-preserved c =
    let l = c.loop-j.invariant in
    let t = c.try_pair.ensures in record {
      row = elim c.if-try_pair.branch [
        | then-try_pair w ↦ row_with l.row (omega arith) w.may-is
        | else-try_pair w ↦ rw w.may-is (row_without l.row
            (never_named c.node_in-a.ensures.0 c.node_in-b.ensures.0 (rw l.heads_same at (t.never_joins w.if-try_pair.false))))
      ];
      heads_same = t.heads_unchanged.0 ∙ l.heads_same;
      next_same = t.heads_unchanged.1 ∙ l.next_same;
    }
