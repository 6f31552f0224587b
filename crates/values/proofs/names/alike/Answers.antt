use mathlib.Core.Path.{refl}
use borrow.Author.Rules.{rules}
use Rattle.nodes.specs.Code.Named.{value_name}
use Rattle.values.proofs.AlikeLaws.{compared_names}
use Rattle.values.proofs.names.alike.Goals as goal

pub returns : goal.returns
returns c =
    let v = value_name c.args.heads.now c.args.names.now in
    compared_names _ _ _ _ v _ _ _ (λ j q. refl) (λ j q. refl) (c.compare.ensures v (λ a r p. search rules))
