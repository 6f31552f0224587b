-- Both sections are what the table says.
use native.Mathlib.Omega.{arith}
use Rattle.table.specs.Code.Sections.{nodes, left_terms, right_terms}
use Rattle.table.proofs.SectionLaws.{has_section}
use Rattle.checking.proofs.conditions.wrong_term.Goals as goal

pub section-requires : goal.section-requires
section-requires c = has_section _ _ c.requires nodes (omega arith)

pub node_count-n-requires : goal.node_count-n-requires
node_count-n-requires c = rw c.section.ensures (c.requires.within_limits nodes (omega arith))

pub section-left-requires : goal.section-left-requires
section-left-requires c = has_section _ _ c.requires left_terms (omega arith)

pub section-right-requires : goal.section-right-requires
section-right-requires c = has_section _ _ c.requires right_terms (omega arith)

pub returns : goal.returns
returns c = cc
