-- It is that of `unify`, of which only the answer is told by a number.
use mathlib.Core.Path.{ap, ◌∙◌}
use Rattle.pallihun.specs.Numbers.{number_of}
use Rattle.pallihun.proofs.NumberLaws.{decided_number}
use Rattle.pallihun.proofs.pallihun_unify.Goals as goal

pub returns : goal.returns
returns c =
    let n = c.of_unification.ensures in
    let u = c.unify in record {
      value = n ∙ ap number_of u.ensures.result_value;
      out_after = u.ensures.out_after;
      decided = decided_number u.result _ n u.ensures.decided;
    }
