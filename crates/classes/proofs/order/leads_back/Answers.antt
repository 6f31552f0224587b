use mathlib.Core.Path.{sym, ap, ◌∙◌}
use native.Mathlib.Omega.{arith}
use borrow.Author.Tests.{eqb-true}
use Rattle.table.specs.declared.Node.{Node}
use Rattle.classes.proofs.OrderLaws.{head_inside}
use Rattle.classes.proofs.FollowLaws.{head_own, followed_start, followed_end, followed_back, followed_next, followed_noted, searched_head}
use mathlib.Core.Logic.{inl, inr}
use Rattle.classes.proofs.order.leads_back.Goals as goal
use Rattle.classes.proofs.order.leads_back.Goals.{then-is_power_of_two, else-is_power_of_two}

pub bounds-counts-h : goal.bounds-counts-h
bounds-counts-h c =
    let s = c.requires in
    let h = head_inside s.partition s.a_bound c.node_in-h.ensures.0 in
    omega (arith, h, s.sections.1.enough)

pub loop-steps-init : goal.loop-steps-init
loop-steps-init c =
    let s = c.requires in
    let l = head_inside s.partition s.a_bound c.node_in-h.ensures.0 in
    (followed_start l, followed_start l)

pub search-requires-clause-h_bound : goal.search-requires-clause-h_bound
search-requires-clause-h_bound c =
    let s = c.requires in
    let e = c.node_in-h.ensures.0 in
    (head_inside s.partition s.a_bound e, head_own s.partition s.a_bound e, omega (arith, c.if-counts-h-eq0.false))

pub returns-in_default : goal.returns-in_default
returns-in_default c =
    let s = c.requires in
    let e = c.node_in-h.ensures.0 in
    searched_head e (head_own s.partition s.a_bound e) c.search.ensures

pub returns-in_default-found : goal.returns-in_default-found
returns-in_default-found c = followed_end c.loop-steps.invariant.0 (c.in-Ok.ensures.none c.in_default-found.is) c.node_in-h.ensures.0

pub returns-then-eq : goal.returns-then-eq
returns-then-eq c =
    followed_back c.loop-steps.invariant.1 (c.in-Ok.ensures.one _ c.in-Some.is) (eqb-true _ _ (sym c.eq.ensures ∙ c.if-eq.true))

pub loop-steps-preserved : goal.loop-steps-preserved
loop-steps-preserved c =
    let i = c.loop-steps.invariant in
    let o = c.in-Ok.ensures.one _ c.in-Some.is in (
      followed_next i.0 o,
      elim c.if-is_power_of_two.branch [
        | then-is_power_of_two w ↦ followed_noted (followed_next i.1 o) (inl (ap (λ (x : Node). x.0) w.noted-is))
        | else-is_power_of_two w ↦ followed_noted (followed_next i.1 o) (inr (ap (λ (x : Node). x.0) w.noted-is))
      ],
    )

pub returns : goal.returns
returns c =
    let s = c.requires in
    let e = c.node_in-h.ensures.0 in
    searched_head e (head_own s.partition s.a_bound e) c.search-2.ensures
