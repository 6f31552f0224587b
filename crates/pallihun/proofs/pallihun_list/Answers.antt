-- It is that of `list`, of which only the answer is told by numbers.
use mathlib.Core.Path.{◌∙◌}
use Rattle.pallihun.proofs.pallihun_list.Goals as goal

pub returns : goal.returns
returns c =
    let l = c.list.ensures in
    let n = c.of_listing.ensures in record {
      result_value = n ∙ l.result_value;
      out_after = l.out_after;
      page14 = rw (← n) at l.page14;
    }
