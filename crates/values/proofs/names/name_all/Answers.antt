use Rattle.values.proofs.NamingLaws.{naming_end}
use Rattle.values.proofs.names.name_all.Goals as goal

pub returns : goal.returns
returns c =
    let l = c.loop-p in
    naming_end _ _ _ _ _ _ l.p l.invariant (l.auto.p-end c.requires.start_in_bounds) c.loop-p-test.false
