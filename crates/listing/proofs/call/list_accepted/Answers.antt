-- The entries of a table's sections are its complete listing, and there are none where its words show it.
use mathlib.Core.Path.{ap}
use native.Mathlib.Omega.{arith}
use lib.ListN.{length}
use Rattle.table.proofs.AcceptedLaws.{readable}
use Rattle.listing.proofs.CallingLaws.{Parts, parts_listable, parts_listed, parts_single, parts_few, left_side, right_side, never_listed}
use Rattle.listing.proofs.call.list_accepted.Goals as goal
use Rattle.listing.proofs.call.list_accepted.Goals.{After-section-l}

-- the sections of the table
parts : (c : After-section-l) → Parts c.args.table.now c.section-nodes.result.now c.section-arguments.result.now c.section-left.result.now
    c.section-right.result.now (length c.section-k.result.now) (length c.section-l.result.now)
parts c =
    record {
      accepted = c.requires;
      nodes_are = c.section-nodes.ensures;
      arguments_are = c.section-arguments.ensures;
      left_is = c.section-left.ensures;
      right_is = c.section-right.ensures;
      left_labelled = ap length c.section-k.ensures;
      right_labelled = ap length c.section-l.ensures;
    }

pub section-nodes-requires : goal.section-nodes-requires
section-nodes-requires c =
    readable _ c.requires 0 (omega arith)

pub section-arguments-requires : goal.section-arguments-requires
section-arguments-requires c =
    readable _ c.requires 1 (omega arith)

pub section-left-requires : goal.section-left-requires
section-left-requires c =
    readable _ c.requires 2 (omega arith)

pub section-right-requires : goal.section-right-requires
section-right-requires c =
    readable _ c.requires 4 (omega arith)

pub section-k-requires : goal.section-k-requires
section-k-requires c =
    readable _ c.requires 3 (omega arith)

pub section-l-requires : goal.section-l-requires
section-l-requires c =
    readable _ c.requires 5 (omega arith)

pub sides_may-requires : goal.sides_may-requires
sides_may-requires c =
    let g = parts_listable (parts c) in
    (g.sections, left_side g, right_side g)

pub returns-then-not-sides_may : goal.returns-then-not-sides_may
returns-then-not-sides_may c =
    let p = parts (goal.at.returns-then-not-sides_may c).After-section-l in
    parts_listed p (never_listed (parts_listable p) (c.sides_may.ensures c.if-not-sides_may.true) _)

pub list_single-requires-clause-sections : goal.list_single-requires-clause-sections
list_single-requires-clause-sections c =
    (parts_listable (parts (goal.at.list_single-requires-clause-sections c).After-section-l)).sections

pub list_single-requires-clause-arguments_len_bound : goal.list_single-requires-clause-arguments_len_bound
list_single-requires-clause-arguments_len_bound c = parts_few (parts (goal.at.list_single-requires-clause-arguments_len_bound c).After-section-l)

pub returns-then-is_single : goal.returns-then-is_single
returns-then-is_single c =
    let u = c.is_single.ensures c.if-is_single.true in
    parts_single (parts (goal.at.returns-then-is_single c).After-section-l) u.0 u.1 u.2 u.3 c.node_at.ensures c.node_at-then-is_single.ensures
    c.list_single.ensures

pub list_sides-requires : goal.list_sides-requires
list_sides-requires c = parts_listable (parts (goal.at.list_sides-requires c).After-section-l)

pub returns : goal.returns
returns c =
    parts_listed (parts (goal.at.returns c).After-section-l) c.list_sides.ensures
