-- `checking::nodes::right_node` meets its contract, case by case of the kind.
use mathlib.Core.Path.{sym}
use Rattle.std.proofs.Common.{◌≢◌, arith}
use borrow.Author.Tests.{ne_eqb}
use Rattle.table.specs.Conditions.{right_node, right_variable, right_application}
use Rattle.checking.proofs.nodes.right_node.Goals as goal

pub returns-in-0 : goal.returns-in-0
unfolding right_node right_variable
returns-in-0 c = rw c.in-0.is

pub returns-in-1 : goal.returns-in-1
unfolding right_node right_application
returns-in-1 c = rw (c.in-1.is, c.start-start.ensures)

pub returns-in_default : goal.returns-in_default
unfolding right_node
returns-in_default c =
    let variable : c.args.kind ≢ 0 = omega arith in
    let application : c.args.kind ≢ 1 = omega arith in
    sym (rw (ne_eqb _ _ variable, ne_eqb _ _ application))
