-- `end` is the end of the section before section k, and no offset so far is wrong.
use Rattle.checking.proofs.LoopLaws.{PairsRight}
use Rattle.checking.proofs.conditions.broken_pair.Given as goal

abbrev pub invariant-loop-k : goal.invariant-loop-k
invariant-loop-k l = PairsRight l.table l.pairs l.k l.end
