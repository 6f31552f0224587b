use borrow.Author.Rules.{rules}
use Rattle.values.proofs.LeastLaws.{kept_variable, passed_variable}
use Rattle.values.proofs.present.keep_variable.Goals as goal

pub returns-then-v-n : goal.returns-then-v-n
returns-then-v-n c = kept_variable _ _ _ _ _ _ c.entry-v.ensures c.if-v-n.true (search rules) (search rules)

pub returns : goal.returns
returns c = passed_variable _ _ _ _ _ _ c.entry-v.ensures c.if-v-n.false
