use Prim.Native.Nat.{◌<◌}
use Rattle.std.proofs.Common.{rules, length}
use Rattle.std.proofs.lemmas.Iterator.{YieldsList-from_slice}
use Rattle.std.proofs.lemmas.Iterator.Adapters.{serves_from_places}
use Rattle.table.specs.Layout.{word, node_count}
use Rattle.binding.proofs.PlainLaws.{item_below}
use Rattle.binding.proofs.words.all_plain.Goals as goal

pub all-requires-clause-callable : goal.all-requires-clause-callable
all-requires-clause-callable c =
    serves_from_places (YieldsList-from_slice c.args.list.now (search rules)) (λ x q r. search rules)
    (λ x k h e.
    let o : x.now < length c.args.heads.now = item_below c.requires.all_below.0 k _ h e in
    let b : word c.args.heads.now x.now < node_count c.args.nodes.now = c.requires.all_below.1.below x.now o in
    search rules)
