-- A clash, a cycle, or classes of the longer list that can be put in order. A failure is undone.
use native.Mathlib.Omega.{arith}
use Rattle.classes.proofs.TrailLaws.{merges_since, merges_back}
use Rattle.classes.proofs.ExtensionLaws.{extends_clash, extends_occurs, extends_unified}
use Rattle.classes.proofs.settle.extend.Goals as goal

pub bounds-next-256 : goal.bounds-next-256
bounds-next-256 c = let l = c.requires.formed.1.size in omega (arith, l)

pub undo-requires : goal.undo-requires
undo-requires c =
    let j = c.join.ensures in
    merges_since c.requires.formed.1 j.partition.size j.merges

pub returns-then-not-join : goal.returns-then-not-join
returns-then-not-join c =
    let j = c.join.ensures in
    extends_clash _ _ _ c.requires.sections.0 _ c.requires.formed.0 c.args.a.0 c.args.b.0 c.requires.a_bound.0 c.requires.a_bound.1 _ _ _ _ j
    c.if-not-join.true (merges_back j.partition.size j.merges c.undo.ensures)

pub undo-requires-then-leads_back : goal.undo-requires-then-leads_back
undo-requires-then-leads_back c =
    let j = c.join.ensures in
    merges_since c.requires.formed.1 j.partition.size j.merges

pub returns-then-leads_back : goal.returns-then-leads_back
returns-then-leads_back c =
    let j = c.join.ensures in
    extends_occurs _ _ _ c.requires.sections.0 _ c.requires.formed.0 c.args.a.0 c.args.b.0 c.requires.a_bound.0 c.requires.a_bound.1 _ _ _ _ j
    c.if-not-join.false c.requires.sections.1 _ c.leads_back.ensures c.if-leads_back.true
    (merges_back j.partition.size j.merges c.undo-then-leads_back.ensures)

pub returns : goal.returns
returns c =
    extends_unified _ _ _ c.requires.sections.0 _ c.requires.formed.0 c.args.a.0 c.args.b.0 c.requires.a_bound.0 c.requires.a_bound.1 _ _ _ _
    c.join.ensures c.if-not-join.false c.requires.sections.1 _ c.leads_back.ensures c.if-leads_back.false
