-- Each term of a side is a node.
use Prim.Native.Nat.{◌<◌}
use native.Mathlib.Omega.{arith}
use borrow.Author.Rules.{rules}
use Rattle.std.proofs.lemmas.Grind.{get_or_default_zero}
use Rattle.std.proofs.lemmas.Iterator.{YieldsList-from_slice}
use Rattle.std.proofs.lemmas.Iterator.Adapters.{serves_from_places}
use Rattle.table.specs.Layout.{node_count}
use Rattle.symbols.proofs.symbols.first_may.Goals as goal

pub position-requires-clause-callable : goal.position-requires-clause-callable
position-requires-clause-callable c =
    serves_from_places (YieldsList-from_slice c.args.others.now c.iter.ensures.rest) (search rules)
    (λ x k l e. let n = c.requires.sections.1.node k l in let d = get_or_default_zero c.args.others.now k x.now l in
    let m : x.now < node_count c.args.nodes.now = omega (arith, e, d, n) in search rules)
