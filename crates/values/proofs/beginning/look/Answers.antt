use mathlib.Core.Path.{◌∙◌}
use native.Mathlib.Omega.{arith}
use Rattle.values.proofs.AlikeLaws.{key_start, key_next, key_end}
use Rattle.values.proofs.CountLaws.{closed_none, closed_next, counted_none, counted_some}
use Rattle.values.proofs.SharingLaws.{argument_head}
use Rattle.values.proofs.beginning.look.Goals as goal

pub loop-j-init : goal.loop-j-init
loop-j-init c =
    let k = c.symbol_key-key.ensures in
    ((key_start _ _ _ _ _ _ k.0, k.1), closed_none _ _ _ _)

pub loop-j-preserved : goal.loop-j-preserved
loop-j-preserved c =
    let l = c.loop-j in
    let a = c.argument-a in
    let e = c.node_in-h.ensures.0 ∙ argument_head _ _ _ _ c.requires.heads_before.0 _ l.j _ a.ensures.0 a.ensures.1 in
    let k = c.longer_key-key.ensures in
    let i = c.requires.heads_before.1 in
    let d = c.is_closed-closed.ensures in (
      (key_next _ _ _ _ _ l.key l.j _ _ l.invariant.0.0 e k.0, k.1),
      closed_next _ _ _ _ l.j _ l.closed _ (omega (arith, a.ensures.1, i)) a.ensures.0 d l.invariant.1,
    )

pub returns-then-closed : goal.returns-then-closed
returns-then-closed c =
    let l = c.loop-j in
    let m = c.loop-j-test.false in
    let k = key_end _ _ _ _ _ l.key l.j _ l.invariant.0.0 c.arity-n.ensures.0 l.auto.j-end m in record {
      key_value = (k, l.invariant.0.1);
      counted_at = counted_none _ _ _ _ l.j _ l.closed c.arity-n.ensures.0 l.auto.j-end m l.invariant.1 c.if-closed.true;
    }

pub returns : goal.returns
returns c =
    let l = c.loop-j in
    let m = c.loop-j-test.false in
    let k = key_end _ _ _ _ _ l.key l.j _ l.invariant.0.0 c.arity-n.ensures.0 l.auto.j-end m in record {
      key_value = (k, l.invariant.0.1);
      counted_at = counted_some _ _ _ _ l.j _ l.closed c.arity-n.ensures.0 l.auto.j-end m l.invariant.1 c.if-closed.false;
    }
