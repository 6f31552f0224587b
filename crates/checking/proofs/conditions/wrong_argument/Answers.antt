-- Both sections are what the table says, and each run lies inside.
use native.Mathlib.Omega.{arith}
use Rattle.table.specs.Code.Sections.{nodes, arguments}
use Rattle.table.proofs.ConditionLaws.{runs_kept}
use Rattle.table.proofs.SectionLaws.{has_section}
use Rattle.checking.proofs.conditions.wrong_argument.Goals as goal

pub section-nodes-requires : goal.section-nodes-requires
section-nodes-requires c = has_section _ _ c.requires.laid_out nodes (omega arith)

pub section-arguments-requires : goal.section-arguments-requires
section-arguments-requires c = has_section _ _ c.requires.laid_out arguments (omega arith)

pub wrong_arguments-requires : goal.wrong_arguments-requires
wrong_arguments-requires c =
    rw (c.section-nodes.ensures, c.section-arguments.ensures) record {
      nodes_len_bound = c.requires.laid_out.within_limits nodes (omega arith);
      runs_inside = runs_kept _ _ c.requires.table_value;
    }

pub returns : goal.returns
returns c = cc
