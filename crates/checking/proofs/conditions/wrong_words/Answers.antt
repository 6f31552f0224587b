-- `checking::conditions::wrong_words` meets its contract, which is what it computes.
use mathlib.Core.Path.{refl}
use Rattle.table.specs.Conditions.{words_are_wrong}
use Rattle.checking.proofs.conditions.wrong_words.Goals as goal

pub returns : goal.returns
unfolding words_are_wrong
returns c = refl
