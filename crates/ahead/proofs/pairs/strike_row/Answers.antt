use mathlib.Core.Path.{refl}
use native.Mathlib.Omega.{arith}
use Rattle.ahead.proofs.StruckLaws.{row_with, row_without, never_named}
use Rattle.ahead.proofs.pairs.strike_row.Goals as goal
use Rattle.ahead.proofs.pairs.strike_row.Goals.{in-Different, in-Same, in-Open}

pub loop-j-preserved : goal.loop-j-preserved
loop-j-preserved c =
    let l = c.loop-j.invariant in
    let m = c.requires.known_of.0.right_few in
    elim c.match-see.branch [
      | in-Different w ↦ record {
        row = rw w.may-is (row_without l.row (never_named c.node_in-a.ensures.0 c.node_in-b.ensures.0 (w.in-Different.ensures refl)));
        few = omega arith;
      }
      | in-Same w ↦ record { row = row_with l.row (omega arith) w.may-is; few = omega arith }
      | in-Open w ↦ record { row = row_with l.row (omega arith) w.may-is; few = omega arith }
    ]
