-- The two nodes are of one class, or their classes are made one, or nothing is changed.
use native.Mathlib.Omega.{arith}
use Rattle.classes.proofs.JoinLaws.{variable_tested, kind_of_lem, Meeting, join_already, meeting_inside, meeting_heads, meeting_trailed, join_variable, joined_at_once, left_at_once}
use Rattle.classes.proofs.closure.join_at_once.Goals as goal
use Rattle.classes.proofs.closure.join_at_once.Goals.{Else-g-h}

-- the two nodes are of different classes
meets : (c : Else-g-h) → Meeting c.args.nodes.now
    c.args.arguments.now c.args.counts.now c.args.heads.now c.args.next.now c.args.a.0 c.args.b.0
meets c =
    record { joinable = c.requires.joinable; first = c.requires.a_bound.0; second = c.requires.a_bound.1; apart = c.if-g-h.false }

pub bounds-heads-i : goal.bounds-heads-i
bounds-heads-i c =
    rw c.requires.joinable.partition.size c.requires.a_bound.0

pub bounds-heads-j : goal.bounds-heads-j
bounds-heads-j c =
    rw c.requires.joinable.partition.size c.requires.a_bound.1

pub returns-then-g-h : goal.returns-then-g-h
returns-then-g-h c =
    joined_at_once (join_already c.args.a.0 c.args.b.0 c.requires.joinable c.requires.a_bound.0 c.requires.a_bound.1 c.if-g-h.true)

pub is_variable-requires : goal.is_variable-requires
is_variable-requires c =
    let p = (meeting_inside (meets (goal.at.is_variable-requires c).Else-g-h)).0 in
    let e = c.node-first.ensures.0 in
    omega (arith, p, e)

pub is_variable-requires-2 : goal.is_variable-requires-2
is_variable-requires-2 c =
    let p = (meeting_inside (meets (goal.at.is_variable-requires-2 c).Else-g-h)).1 in
    let e = c.node-second.ensures.0 in
    omega (arith, p, e)

pub unite-requires : goal.unite-requires
unite-requires c =
    let m = meets (goal.at.unite-requires c).Else-g-h in record {
      heads_len = (m.joinable.partition.size, m.joinable.counts_right.enough);
      two_heads = (meeting_heads m, meeting_trailed m);
    }

pub returns-then-is_variable : goal.returns-then-is_variable
returns-then-is_variable c =
    let ns = c.args.nodes.now in
    joined_at_once
    (join_variable (meets (goal.at.returns-then-is_variable c).Else-g-h) _ _ c.unite.ensures
    (variable_tested ns _ _ c.is_variable.result c.is_variable-2.result (kind_of_lem ns c.is_variable.ensures c.node-first.ensures.0)
    (kind_of_lem ns c.is_variable-2.ensures c.node-second.ensures.0) c.if-is_variable.true))

pub returns : goal.returns
returns c = left_at_once
