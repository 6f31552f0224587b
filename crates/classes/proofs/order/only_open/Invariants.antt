-- What is found of the arguments so far is carried from argument to argument.
use Rattle.table.specs.Layout.{word}
use Rattle.classes.specs.Code.Ordering.{Onward}
use Rattle.classes.proofs.order.only_open.Given as goal

abbrev pub invariant-loop-j : goal.invariant-loop-j
invariant-loop-j l = Onward l.nodes l.arguments (word l.counts) l.heads l.h.0 l.j l.found
