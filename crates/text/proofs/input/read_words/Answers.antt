use mathlib.Core.Path.{refl}
use borrow.Author.Rules.{rules}
use Rattle.text.proofs.InputLaws.{reading_goes_on, reading_ends}
use Rattle.text.proofs.input.read_words.Goals as goal

pub loop-i-preserved : goal.loop-i-preserved
loop-i-preserved c =
    let v = c.loop-i.invariant in
    (search rules, search rules, search rules, reading_goes_on _ _ _ _ _ (search rules) (search rules) c.word_at.ensures refl v.3)

pub returns : goal.returns
returns c =
    let v = c.loop-i.invariant in
    (search rules, reading_ends _ _ _ _ v.0 c.loop-i.auto.i-end (search rules) v.3)
