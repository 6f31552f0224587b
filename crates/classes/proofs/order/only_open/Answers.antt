use native.Mathlib.Omega.{arith}
use Rattle.nodes.proofs.OpenLaws.{looked_at}
use Rattle.classes.proofs.FollowLaws.{onward_none, onward_next}
use Rattle.classes.proofs.order.only_open.Goals as goal

pub bounds-counts-h : goal.bounds-counts-h
bounds-counts-h c =
    let s = c.requires in
    omega (arith, s.h_bound, s.sections.1.enough)

pub loop-j-init : goal.loop-j-init
loop-j-init c = onward_none

pub argument_head-g-requires : goal.argument_head-g-requires
argument_head-g-requires c =
    let s = c.requires in record {
      sections = s.sections.0;
      partition = s.partition;
      node_bound = (s.h_bound, looked_at s.sections.1 _ _ s.h_bound c.loop-j-test.true);
    }

pub found_with-requires : goal.found_with-requires
found_with-requires c =
    let s = c.requires in
    omega (arith, c.argument_head-g.ensures.1, s.sections.1.enough)

pub loop-j-preserved : goal.loop-j-preserved
loop-j-preserved c =
    let s = c.requires in
    let g = c.argument_head-g.ensures in
    onward_next s.h_bound c.loop-j.invariant c.loop-j-test.true g.0 g.1 c.in_ok-found.ensures
