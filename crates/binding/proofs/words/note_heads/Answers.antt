use Rattle.std.proofs.Common.{rules}
use Rattle.std.proofs.lemmas.Iterator.Adapters.{YieldsList-from_rev_slice}
use Rattle.std.proofs.lemmas.Iterator.Consumers.{YieldsList-turn}
use Rattle.std.proofs.lemmas.List.{length_push}
use Rattle.binding.proofs.PlainLaws.{heads_down}
use Rattle.binding.proofs.words.note_heads.Goals as goal

pub loop-z-preserved : goal.loop-z-preserved
loop-z-preserved c =
    let l = c.loop-z in
    let t = YieldsList-turn (YieldsList-from_rev_slice c.args.list.now (search rules)) l.yielded _ l.yielded_by _ _ c.in-Some.z c.in-Some.is
    c.next.ensures.steps in
    heads_down c.args.heads.now c.args.list.now l.by _ _ c.in-Some.z.now c.from-h.result t.0 (length_push l.yielded c.in-Some.z) t.1 (search rules)
    (search rules) l.invariant
