use native.Mathlib.Omega.{arith}
use Rattle.values.proofs.PreparedLaws.{open_none}
use Rattle.values.proofs.BeginLaws.{open_here, open_on, shared_all}
use Rattle.values.proofs.beginning.share_nodes.Goals as goal

pub node_count-n-requires : goal.node_count-n-requires
node_count-n-requires c = c.requires.sharing.0.before.sections

pub loop-i-init : goal.loop-i-init
loop-i-init c = (
  c.requires.sharing.0,
  c.requires.sharing.1,
  c.requires.circles_before.0,
  open_none _ _ _ c.requires.sharing.0.before.sections c.requires.circles_before.1,
)

pub share_node-counted-requires : goal.share_node-counted-requires
share_node-counted-requires c =
    let l = c.loop-i in record {
      sharing = (l.invariant.0, omega (arith, c.node_count-n.ensures.0, c.loop-i-test.true));
      least_before = (l.invariant.1, l.invariant.2);
      open_before = (open_here l.invariant.3, omega (arith, l.invariant.3.size, c.requires.circles_before.1));
    }

pub loop-i-preserved : goal.loop-i-preserved
loop-i-preserved c =
    let l = c.loop-i in
    let e = c.share_node-counted.ensures in (
      e.sharing_2,
      e.least_before_2.0,
      e.least_before_2.1,
      open_on l.invariant.3 e.open_before_2,
    )

pub returns : goal.returns
returns c =
    let l = c.loop-i in
    let p = shared_all _ _ _ _ _ _ _ _ _ _ l.i _ c.node_count-n.ensures.0 l.auto.i-end c.loop-i-test.false l.invariant.0 l.invariant.1 l.invariant.2
    l.invariant.3 in
    record { heads_before = p.0; least_before = p.1.0; open_before = p.1.1 }
