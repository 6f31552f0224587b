-- The head is the least node with the term, and is put into the table if it is the node itself.
use Prim.Native.Nat.{ℕ}
use mathlib.Core.Bool.{true, false}
use mathlib.Core.Path.{refl}
use native.Mathlib.Omega.{arith}
use borrow.Author.Rules.{rules}
use Rattle.values.specs.Code.Applications.{OnWay}
use Rattle.values.specs.Code.Naming.{Compared}
use Rattle.values.specs.Code.Start.{LeastOfTerm}
use native.Mathlib.Omega.{arith}
use Rattle.values.proofs.SharingLaws.{heads_low, way_before, way_least, way_itself, share_inside, share_other, share_own}
use Rattle.values.proofs.beginning.share_application.Goals as goal
use Rattle.values.proofs.beginning.share_application.Goals.{In-Some, In_default}

pub find-found-requires : goal.find-found-requires
find-found-requires c = record {
  key_bound = c.requires.k_value.1;
  falls = c.requires.sharing.0.chained.falls c.args.k;
  callable = λ q w.
      let b = way_before _ _ _ _ _ c.requires.sharing.0 c.args.k c.requires.sharing.1 c.requires.sharing.2 q w in
      let s = c.requires.sharing in
      search rules;
}

-- what is found is the least node with the term of the application
least_found : (c : In-Some) → LeastOfTerm c.args.nodes.now c.args.arguments.now c.args.i c.in-Some.h
least_found c =
    let d : Compared c.args.nodes.now c.args.arguments.now c.args.heads.now c.args.heads.now c.in-Some.h c.args.i true = search rules in
    way_least _ _ _ _ _ c.requires.sharing.0 _ c.requires.sharing.1 c.requires.sharing.2 _ c.in-Some.ensures.0 (d.alike refl)

-- where nothing is, it is the application itself
least_itself : (c : In_default) → LeastOfTerm c.args.nodes.now c.args.arguments.now c.args.i c.args.i
least_itself c =
    let f : (q : ℕ) → OnWay c.args.table.now c.args.k q → Compared c.args.nodes.now c.args.arguments.now c.args.heads.now c.args.heads.now q c.args.i
    false = λ q w. let z = c.in_default.ensures q w in search rules in
    way_itself _ _ _ _ _ c.requires.sharing.0 _ c.requires.sharing.1 c.requires.sharing.2 c.requires.k_value.0 (λ q w. (f q w).different refl)

pub put_head-requires : goal.put_head-requires
put_head-requires c = record {
  i_in_bounds = share_inside _ _ _ _ _ c.requires.sharing.0 c.requires.sharing.1 _ (least_found (goal.at.put_head-requires c).In-Some);
  by_index = (heads_low _ _ _ _ c.requires.sharing.0.before, c.requires.k_value.2);
}

pub returns-in-Some : goal.returns-in-Some
returns-in-Some c =
    let p = c.put_head.ensures in
    let q = c.requires in
    let b = way_before _ _ _ _ _ q.sharing.0 _ q.sharing.1 q.sharing.2 _ c.in-Some.ensures.0 in record {
      sharing_2 = share_other _ _ _ _ _ q.sharing.0 q.sharing.1 _ (least_found (goal.at.returns-in-Some c).In-Some) _ p.headed
          (λ e. omega (arith, b, e));
      circles_before = p.circles;
    }

pub put_head-requires-2 : goal.put_head-requires-2
put_head-requires-2 c = record {
  i_in_bounds = share_inside _ _ _ _ _ c.requires.sharing.0 c.requires.sharing.1 _ (least_itself (goal.at.put_head-requires-2 c).In_default);
  by_index = (heads_low _ _ _ _ c.requires.sharing.0.before, c.requires.k_value.2);
}

pub returns : goal.returns
returns c =
    let p = c.put_head-2.ensures in
    let q = c.requires in record {
      sharing_2 =
          share_own _ _ _ _ _ q.sharing.0 q.sharing.1 _ (least_itself (goal.at.returns c).In_default) _ p.headed refl q.sharing.2 _ q.k_value.0
          q.k_value.1 (record { latest = search rules; earlier = search rules }) _ c.put.ensures;
      circles_before = p.circles;
    }
