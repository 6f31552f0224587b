-- Each answer is given where it should be.
use mathlib.Core.Bool.{false≢true}
use mathlib.Core.Path.{sym, ◌∙◌}
use native.Mathlib.Omega.{arith}
use borrow.Author.Rules.{rules}
use borrow.Author.Tests.{not-false}
use denote.Enum.Bare.{same_true}
use Rattle.unification.specs.contracts.Unification.{the_type}
use Rattle.unify.proofs.CallingLaws.{answers_few, answers_failed, answers_unified, list_given, opens_given}
use Rattle.unify.proofs.call.unify_with_room.Goals as goal

pub returns-then-out-v : goal.returns-then-out-v
returns-then-out-v c =
    let g = c.begin_shared-begun.ensures in
    answers_few _ _ c.requires.sections _ _ c.requires.a_bound _ _ _ _ g.begins_shared c.if-out-v.true

pub extend-unification-requires : goal.extend-unification-requires
extend-unification-requires c =
    let g = c.begin_shared-begun.ensures in record {
      sections = (c.requires.sections, g.counts);
      formed = (g.begins_shared.formed _ g.counts, g.trailed);
      a_bound = c.requires.a_bound;
    }

pub slice_bounds-bind-end : goal.slice_bounds-bind-end
slice_bounds-bind-end c =
    let g = c.begin_shared-begun.ensures in
    omega (arith, g.opens_lt_max_nodes, g.by_index.1, c.requires.heads_len.2)

pub slice_bounds-bind-end-2 : goal.slice_bounds-bind-end-2
slice_bounds-bind-end-2 c =
    let g = c.begin_shared-begun.ensures in
    omega (arith, g.begins_shared.lists.within, g.by_index.1, c.requires.heads_len.2)

pub bind-requires : goal.bind-requires
bind-requires c =
    let b = c.begin_shared-begun in
    let g = b.ensures in
    let x = c.extend-unification.ensures in
    let e = same_true the_type (search rules) _ _ (not-false _ (sym c.ne.ensures ∙ c.if-ne.false)) in
    let opens = opens_given _ b.new.counts b.result.opens g.open_listed in record {
      sections = (c.requires.sections, g.counts);
      formed = (x.formed e g.begins_shared.pairs g.begins_shared.stands, opens);
      list_value = list_given _ _ b.new.counts b.result.variables _ g.begins_shared.lists c.if-out-v.false;
    }

pub returns : goal.returns
returns c =
    let g = c.begin_shared-begun.ensures in
    let f = c.if-out-v.false in
    let e = same_true the_type (search rules) _ _ (not-false _ (sym c.ne.ensures ∙ c.if-ne.false)) in
    let w = answers_unified _ _ c.requires.sections _ _ c.requires.a_bound _ _ _ _ g.begins_shared f _ _ _ _ _ c.extend-unification.ensures e
    c.bind.ensures in
    rw e at w

pub returns-then-ne : goal.returns-then-ne
returns-then-ne c =
    let g = c.begin_shared-begun.ensures in
    let f = c.if-out-v.false in
    answers_failed _ _ c.requires.sections _ _ c.requires.a_bound _ _ _ _ g.begins_shared f _ _ _ _ _ c.extend-unification.ensures
    (λ z. false≢true (sym (rw z at c.ne.ensures) ∙ c.if-ne.true))
