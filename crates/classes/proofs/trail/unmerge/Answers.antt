use Rattle.classes.proofs.TrailLaws.{last_inside, last_nodes, last_circling, last_first, last_undone}
use Rattle.classes.proofs.trail.unmerge.Goals as goal

pub bounds-next-p : goal.bounds-next-p
bounds-next-p c =
    last_inside _ _ _ c.requires.0 _ c.requires.1

pub bounds-next-p-2 : goal.bounds-next-p-2
bounds-next-p-2 c =
    last_inside _ _ _ c.requires.0 _ c.requires.1

pub bounds-heads-i : goal.bounds-heads-i
bounds-heads-i c =
    (last_nodes _ _ _ c.requires.0 _ c.requires.1).0

pub relabel-requires : goal.relabel-requires
relabel-requires c =
    let e = c.link.ensures in
    (rw e (last_circling _ _ _ c.requires.0 _ c.requires.1), rw e (last_first _ _ _ c.requires.0 _ c.requires.1))

pub returns : goal.returns
returns c =
    let e = c.link.ensures in
    rw e (last_undone _ _ _ c.requires.0 _ c.requires.1 _ (rw e at c.relabel.ensures))
