-- Each of its three ways names the node at place p.
use Prim.Native.Nat.{ℕ}
use borrow.Author.Rules.{rules}
use mathlib.Core.Bool.{true, false}
use Rattle.table.specs.Layout.{word}
use Rattle.values.specs.Code.Applications.{OnWay}
use Rattle.values.specs.Code.Naming.{Compared}
use Rattle.values.proofs.FindLaws.{way_inside, way_alike, way_passed}
use Rattle.values.proofs.NamingLaws.{place_inside, node_inside, key_given, put_inside, step_variable, step_found, step_new}
use Rattle.values.proofs.names.name_node.Goals as goal

pub is_variable-requires : goal.is_variable-requires
is_variable-requires c = (node_inside _ _ _ _ c.requires.naming.ordered _ c.requires.p_in_bounds _ _ c.requires.naming _ c.node_in-h.ensures.0).0

pub put-requires : goal.put-requires
put-requires c = put_inside _ _ _ _ c.requires.naming.ordered _ c.requires.p_in_bounds _ _ c.requires.naming _ c.node_in-h.ensures.0 _ (node_inside _ _ _ _ c.requires.naming.ordered _ c.requires.p_in_bounds _ _ c.requires.naming _ c.node_in-h.ensures.0).0

pub returns-then-is_variable : goal.returns-then-is_variable
returns-then-is_variable c = step_variable _ _ _ _ c.requires.naming.ordered _ c.requires.p_in_bounds _ _ c.requires.naming _ c.node_in-h.ensures.0 _ c.is_variable.ensures c.if-is_variable.true _ c.put.ensures

pub key-k-requires : goal.key-k-requires
key-k-requires c = record {
  readable = c.requires.naming.readable;
  h_bound = (node_inside _ _ _ _ c.requires.naming.ordered _ c.requires.p_in_bounds _ _ c.requires.naming _ c.node_in-h.ensures.0).0;
}

pub find-found-requires : goal.find-found-requires
find-found-requires c = record {
  key_bound = c.key-k.ensures.1;
  falls = c.requires.naming.chained.falls c.key-k.result;
  callable = λ q w.
      let i = way_inside _ _ _ _ _ _ _ c.requires.naming c.key-k.result c.requires.p_in_bounds q w in
      let a = i.0 in
      let b = i.1 in
      let r = c.requires.naming.readable in
      let h = (node_inside _ _ _ _ c.requires.naming.ordered _ c.requires.p_in_bounds _ _ c.requires.naming _ c.node_in-h.ensures.0).0 in
      search rules;
}

pub node_in-requires : goal.node_in-requires
node_in-requires c =
    (way_inside _ _ _ _ _ _ _ c.requires.naming c.key-k.result c.requires.p_in_bounds _ c.in-Some.ensures.0).0

pub put-requires-in-Some : goal.put-requires-in-Some
put-requires-in-Some c =
    let i = way_inside _ _ _ _ _ _ _ c.requires.naming c.key-k.result c.requires.p_in_bounds _ c.in-Some.ensures.0 in
    put_inside _ _ _ _ c.requires.naming.ordered _ c.requires.p_in_bounds _ _ c.requires.naming _ c.node_in-h.ensures.0 _ (rw c.node_in.ensures.0 i.1)

pub returns-in-Some : goal.returns-in-Some
returns-in-Some c =
    let e = c.node_in-h.ensures.0 in
    let d : Compared c.args.nodes.now c.args.arguments.now c.args.heads.now c.args.names.now (word c.args.order.now c.in-Some.q)
    (word c.args.order.now c.args.p) true = search rules in
    step_found _ _ _ _ c.requires.naming.ordered _ c.requires.p_in_bounds _ _ c.requires.naming _ c.node_in-h.ensures.0 _ c.is_variable.ensures c.if-is_variable.false _
    (way_alike _ _ _ _ _ _ _ c.requires.naming c.key-k.result c.requires.p_in_bounds _ c.in-Some.ensures.0 d) _ c.node_in.ensures.0 _ c.put-in-Some.ensures

pub put-requires-2 : goal.put-requires-2
put-requires-2 c = put_inside _ _ _ _ c.requires.naming.ordered _ c.requires.p_in_bounds _ _ c.requires.naming _ c.node_in-h.ensures.0 _ (node_inside _ _ _ _ c.requires.naming.ordered _ c.requires.p_in_bounds _ _ c.requires.naming _ c.node_in-h.ensures.0).0

pub put-requires-3 : goal.put-requires-3
put-requires-3 c = (place_inside _ _ _ _ c.requires.naming.ordered _ c.requires.p_in_bounds _ _ c.requires.naming, c.key-k.ensures.1)

pub returns : goal.returns
returns c =
    let f : (q : ℕ) → OnWay c.args.table.now c.key-k.result q → Compared c.args.nodes.now c.args.arguments.now c.args.heads.now c.args.names.now
    (word c.args.order.now q) (word c.args.order.now c.args.p) false = λ q w. let z = c.in_default.ensures q w in search rules in
    step_new _ _ _ _ c.requires.naming.ordered _ c.requires.p_in_bounds _ _ c.requires.naming _ c.node_in-h.ensures.0 _ c.is_variable.ensures c.if-is_variable.false
    (way_passed _ _ _ _ _ _ _ c.requires.naming c.key-k.result c.requires.p_in_bounds (key_given _ _ _ _ c.requires.naming.ordered _ c.requires.p_in_bounds _ _ c.requires.naming _ c.node_in-h.ensures.0 _ c.key-k.ensures).1 f) _ c.key-k.ensures
    (record { latest = search rules; earlier = search rules }) _ _ c.put-2.ensures c.put-3.ensures
