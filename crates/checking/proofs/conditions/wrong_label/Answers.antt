-- Both sections are what the table says.
use native.Mathlib.Omega.{arith}
use Rattle.table.specs.Code.Sections.{left_labels, right_labels}
use Rattle.table.proofs.SectionLaws.{has_section}
use Rattle.checking.proofs.conditions.wrong_label.Goals as goal

pub section-left-requires : goal.section-left-requires
section-left-requires c = has_section _ _ c.requires left_labels (omega arith)

pub section-right-requires : goal.section-right-requires
section-right-requires c = has_section _ _ c.requires right_labels (omega arith)

pub wrong_labels-requires : goal.wrong_labels-requires
wrong_labels-requires c =
    let p = c.requires in
    rw (c.section-left.ensures, c.section-right.ensures) (p.within_limits left_labels (omega arith), p.within_limits right_labels (omega arith))

pub returns : goal.returns
returns c = cc
