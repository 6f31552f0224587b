-- `closes` meets its contract, by what `list` ensures and nothing else of it: page 14 where the listing is finished, and the answer where
-- it is full or the table refused.
use mathlib.Core.Path.{refl, sym, ap, ◌∙◌}
use Rattle.multiset_unification.specs.Answer.{Told, told_listing}
use Rattle.closing.proofs.ClosingLaws.{finished_promised, full_promised, refused_promised}
use Rattle.closing.proofs.closes.Goals as goal

pub returns-in-Ok-Finished : goal.returns-in-Ok-Finished
returns-in-Ok-Finished c =
    let page14 = c.in-Ok-Finished.ensures.page14 in
    let r = finished_promised _ _ _ (rw c.in-Ok-Finished.field-0-is at page14 refl) in
    record { none_equal = r.0; some_equal = r.1 }

pub returns-in-Ok-Full : goal.returns-in-Ok-Full
returns-in-Ok-Full c =
    let answer = sym (ap told_listing c.in-Ok-Full.field-0-is) ∙ c.in-Ok-Full.ensures.result_value in
    let r = full_promised _ _ (ap (λ (w : Told). w.answer) (sym answer)) in
    record { none_equal = r.0; some_equal = r.1 }

pub returns-in-Err : goal.returns-in-Err
returns-in-Err c =
    let r = refused_promised _ _ _ (ap (λ (w : Told). w.answer) (sym c.in-Err.ensures.result_value)) in
    record { none_equal = r.0; some_equal = r.1 }
