use mathlib.Core.Path.{refl}
use native.Mathlib.Omega.{arith}
use borrow.Author.Rules.{rules}
use Rattle.table.specs.Layout.{word}
use Rattle.values.proofs.AlikeLaws.{compared_names}
use Rattle.values.proofs.SharingLaws.{argument_head}
use Rattle.values.proofs.beginning.alike.Goals as goal

pub returns : goal.returns
returns c =
    let b = c.requires.0 in
    let v = word c.args.heads.now in
    compared_names _ _ _ _ v _ _ _
    (λ j q. let l = b.sections.smaller c.args.g.0 j (omega (arith, c.requires.1, c.requires.2)) q in
    argument_head _ _ _ _ b _ j _ refl (omega (arith, l, c.requires.1)))
    (λ j q. argument_head _ _ _ _ b _ j _ refl (b.sections.smaller c.args.h.0 j c.requires.2 q))
    (c.compare.ensures v (λ a r p. search rules))
