use Rattle.values.proofs.LeastLaws.{least_counted}
use Rattle.values.proofs.present.note_variables.Goals as goal

pub returns : goal.returns
returns c =
    let l = c.loop-i in
    least_counted _ _ l.i _ _ l.auto.i-end c.loop-i-test.false c.node_count-n.ensures.0 l.invariant
