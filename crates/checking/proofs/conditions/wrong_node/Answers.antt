-- Both sections are what the table says.
use native.Mathlib.Omega.{arith}
use Rattle.table.specs.Code.Sections.{nodes, arguments}
use Rattle.table.proofs.SectionLaws.{has_section}
use Rattle.checking.proofs.conditions.wrong_node.Goals as goal

pub section-nodes-requires : goal.section-nodes-requires
section-nodes-requires c = has_section _ _ c.requires nodes (omega arith)

pub section-arguments-requires : goal.section-arguments-requires
section-arguments-requires c = has_section _ _ c.requires arguments (omega arith)

pub wrong_nodes-requires : goal.wrong_nodes-requires
wrong_nodes-requires c = rw c.section-nodes.ensures (c.requires.within_limits nodes (omega arith))

pub returns : goal.returns
returns c = cc
