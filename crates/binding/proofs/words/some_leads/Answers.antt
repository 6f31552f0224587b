use Prim.Native.Nat.{◌<◌}
use Rattle.std.proofs.Common.{rules, length}
use Rattle.std.proofs.lemmas.Iterator.{YieldsList-from_slice}
use Rattle.std.proofs.lemmas.Iterator.Adapters.{serves_from_places}
use Rattle.table.specs.Layout.{word}
use Rattle.binding.proofs.PlainLaws.{item_below}
use Rattle.binding.proofs.words.some_leads.Goals as goal

pub any-requires-clause-callable : goal.any-requires-clause-callable
any-requires-clause-callable c =
    serves_from_places (YieldsList-from_slice c.args.opens.now (search rules)) (λ x q r. search rules)
    (λ x k h e.
    let o : x.now < length c.args.heads.now = item_below c.requires.0 k _ h e in
    let b : word c.args.heads.now x.now < length c.args.counts.now = c.requires.1.below x.now o in
    search rules)
