-- The nodes of a table are those of its two sections.
use native.Mathlib.Omega.{arith}
use Rattle.table.proofs.AcceptedLaws.{readable}
use Rattle.unification.proofs.TableLaws.{sections_of, nodes_of_sections}
use Rattle.unify.proofs.call.unify_accepted.Goals as goal

pub section-nodes-requires : goal.section-nodes-requires
section-nodes-requires c = readable _ c.requires 0 (omega arith)

pub section-arguments-requires : goal.section-arguments-requires
section-arguments-requires c = readable _ c.requires 1 (omega arith)

pub unify_nodes-requires : goal.unify_nodes-requires
unify_nodes-requires c =
    rw (c.section-nodes.ensures, c.section-arguments.ensures) (sections_of _ c.requires)

pub returns : goal.returns
returns c =
    rw (nodes_of_sections c.args.table.now, ← c.section-nodes.ensures, ← c.section-arguments.ensures) c.unify_nodes.ensures
