-- Nodes of one head are joined already, and others are joined by `extend`. From what extending comes to.
use Prim.Native.Nat.{◌-◌}
use mathlib.Core.Path.{sym, ap, ◌∙◌}
use native.Mathlib.Omega.{arith}
use Rattle.unification.specs.Computed.Classes.{class_of}
use Rattle.branches.proofs.PairLaws.{joined_already, joined}
use Rattle.branches.proofs.branch.join_pair.Goals as goal

pub bounds-heads-a : goal.bounds-heads-a
bounds-heads-a c =
    let n = c.requires.known_of.left_nodes c.args.i c.requires.i_bound.0 in
    omega (arith, n, c.node_in-a.ensures, c.requires.formed.0.partition.size)

pub bounds-heads-b : goal.bounds-heads-b
bounds-heads-b c =
    let n = c.requires.known_of.left_nodes c.args.i c.requires.i_bound.0 in
    let m = c.requires.known_of.right_nodes (c.args.d - 1) (omega (arith, c.requires.i_bound.1)) in
    omega (
      arith,
      n,
      m,
      c.node_in-a.ensures,
      c.node_in-b.ensures,
      c.requires.formed.0.partition.size,
    )

pub returns-then-heads-a : goal.returns-then-heads-a
returns-then-heads-a c =
    let x = c.node_in-a.ensures.0 in
    let y = c.node_in-b.ensures.0 in
    joined_already c.args.next.now c.requires.known_of c.requires.formed.0 _ _ (c.requires.known_of.left_nodes c.args.i c.requires.i_bound.0)
    (c.requires.known_of.right_nodes (c.args.d - 1) (omega (arith, c.requires.i_bound.1)))
    (ap (class_of c.args.heads.now) (sym x) ∙ c.if-heads-a.true ∙ ap (class_of c.args.heads.now) y)

pub extend-requires : goal.extend-requires
extend-requires c =
    let n = c.requires.known_of.left_nodes c.args.i c.requires.i_bound.0 in
    let m = c.requires.known_of.right_nodes (c.args.d - 1) (omega (arith, c.requires.i_bound.1)) in record {
      sections = (c.requires.known_of.sections, c.requires.known_of.counts);
      formed = c.requires.formed;
      a_bound = (omega (arith, n, c.node_in-a.ensures), omega (arith, m, c.node_in-b.ensures));
    }

pub returns : goal.returns
returns c =
    rw (
      c.eq.ensures,
      sym c.node_in-a.ensures.0,
      sym c.node_in-b.ensures.0,
    ) (joined _ c.extend.ensures)
