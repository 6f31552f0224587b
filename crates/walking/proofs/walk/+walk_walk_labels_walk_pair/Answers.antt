use Prim.Native.Nat.{ℕ, ◌+◌}
use mathlib.Core.Path.{◌≡◌, refl, sym, ◌∙◌}
use native.Mathlib.Omega.{arith}
use Rattle.std.proofs.lemmas.Result.{err_from_is_err_and}
use Rattle.branches.specs.Code.Walk.{Turning}
use Rattle.walking.proofs.WalkLaws.{placed_walked, going_on, paired_small, closed_stepped, open_free, failed_stepped, joined_next, joined_stepped, joins_undone, none_stepped, lost_stepped, label_next, label_full, labels_one, labels_stepped, turning_first, turning_walking, turning_next, turning_full, turning_done}
use Rattle.walking.proofs.walk.+walk_walk_labels_walk_pair.Goals as goal
use Rattle.walking.proofs.walk.+walk_walk_labels_walk_pair.Goals.{walk-After-max, walk-else-loop-d-test, walk-then-loop-d-test+in_ok-used+else-d-m}

pub walk-returns-then-i-at-clause-walked : goal.walk-returns-then-i-at-clause-walked
walk-returns-then-i-at-clause-walked t c =
    let g = c.requires in
    placed_walked g (c.if-i-at.true ∙ c.at.ensures.0) c.write_leaf.ensures

pub walk-loop-d-init : goal.walk-loop-d-init
walk-loop-d-init t c =
    let g = c.requires in
    (c.at-m.ensures.0, omega arith, refl, refl, turning_first g (going_on g (λ z. c.if-i-at.false (z ∙ sym c.at.ensures.0))))

pub walk-walk_pair-requires : goal.walk-walk_pair-requires
walk-walk_pair-requires t c =
    let g = c.requires in
    let l = c.loop-d.invariant in
    let h = going_on g (λ z. c.if-i-at.false (z ∙ sym c.at.ensures.0)) in
    (omega (arith, c.decreases), (turning_walking g h l.4 l.2 l.3, (h, omega (arith, l.0, c.loop-d-test.true))))

pub walk-returns-in_err-used-clause-walked : goal.walk-returns-in_err-used-clause-walked
walk-returns-in_err-used-clause-walked t c =
    let g = c.requires in
    let l = c.loop-d.invariant in
    let h = going_on g (λ z. c.if-i-at.false (z ∙ sym c.at.ensures.0)) in
    let f = err_from_is_err_and c.from_residual.result c.from_residual.ensures.1 in
    rw f.1 (turning_full g h l.4 l.2 (omega (arith, l.0, c.loop-d-test.true)) c.in_err-used.ensures.stepped)

pub walk-loop-d-preserved : goal.walk-loop-d-preserved
walk-loop-d-preserved t c =
    let g = c.requires in
    let l = c.loop-d.invariant in
    let h = going_on g (λ z. c.if-i-at.false (z ∙ sym c.at.ensures.0)) in
    let y = c.in_ok-used.ensures in (
      l.0,
      omega arith,
      y.heads_unchanged.0 ∙ l.2,
      y.heads_unchanged.1 ∙ l.3,
      turning_next g h l.4 l.2 (omega (arith, l.0, c.loop-d-test.true)) y.stepped,
    )

-- the digits of the right terms have been gone through
done : (t : ℕ) (c : walk-After-max t) → (c.loop-d-test.heads ≡ c.args.heads.now) × (c.loop-d-test.next ≡ c.args.next.now) × Turning
    c.args.nodes.now c.args.arguments.now c.args.known.now c.args.heads.now c.args.entry.now c.args.out.now c.args.position.term c.args.position.least
    c.args.at c.max.result c.loop-d-test.entry c.loop-d-test.out c.loop-d-test.used
done t c =
    let g = c.requires in
    let l = c.loop-d.invariant in
    let h = going_on g (λ z. c.if-i-at.false (z ∙ sym c.at.ensures.0)) in
    elim c.loop-d-test.branch [
      | walk-else-loop-d-test w ↦ let e : c.max.result ≡ c.loop-d.d = omega (arith, w.loop-d-test.false, l.1, c.max.ensures) in
          (w.heads-is ∙ l.2, w.next-is ∙ l.3, rw (e, w.entry-is, w.out-is, w.used-is) l.4)
      | walk-then-loop-d-test+in_ok-used+else-d-m w ↦ let e : c.max.result ≡ c.loop-d.d + 1 = omega (arith, c.max.ensures) in
          let y = w.in_ok-used.ensures in (
            w.heads-is ∙ y.heads_unchanged.0 ∙ l.2,
            w.next-is ∙ y.heads_unchanged.1 ∙ l.3,
            rw (e, w.entry-is, w.out-is, w.used-is) (turning_next g h l.4 l.2 (omega (arith, l.0, w.loop-d-test.true)) y.stepped),
          )
    ]

pub walk-walk_labels-requires : goal.walk-walk_labels-requires
walk-walk_labels-requires t c =
    let g = c.requires in
    let h = going_on g (λ z. c.if-i-at.false (z ∙ sym c.at.ensures.0)) in
    let d = done t (goal.at.walk-walk_labels-requires t c).After-max in
    (omega (arith, c.decreases), (turning_walking g h d.2 d.0 d.1, (h, omega (arith, c.max.ensures, c.at-m.ensures.0))))

pub walk-returns-clause-walked : goal.walk-returns-clause-walked
walk-returns-clause-walked t c =
    let g = c.requires in
    let h = going_on g (λ z. c.if-i-at.false (z ∙ sym c.at.ensures.0)) in
    let d = done t (goal.at.walk-returns-clause-walked t c).After-max in
    turning_done g h d.2 d.0 c.walk_labels.ensures.stepped_from

pub walk_labels-returns-then-last-d-clause-stepped_from : goal.walk_labels-returns-then-last-d-clause-stepped_from
walk_labels-returns-then-last-d-clause-stepped_from t c =
    let g = c.requires.walking in
    let h = c.requires.term_bound.0 in
    let l = c.requires.term_bound.1 in
    none_stepped g h l (omega (arith, c.if-last-d.true, c.at.ensures.0, c.at-2.ensures.0))

pub walk_labels-can_complete-requires : goal.walk_labels-can_complete-requires
walk_labels-can_complete-requires t c =
    let g = c.requires.walking in
    let h = c.requires.term_bound.0 in
    let l = c.requires.term_bound.1 in
    (g.completable.size, omega (arith, h, g.knows.left_few), paired_small g)

pub walk_labels-returns-then-not-can_complete-clause-stepped_from : goal.walk_labels-returns-then-not-can_complete-clause-stepped_from
walk_labels-returns-then-not-can_complete-clause-stepped_from t c =
    let g = c.requires.walking in
    let h = c.requires.term_bound.0 in
    let l = c.requires.term_bound.1 in
    lost_stepped g h l (sym c.can_complete.ensures ∙ c.if-not-can_complete.true)

pub walk_labels-walk-requires : goal.walk_labels-walk-requires
walk_labels-walk-requires t c =
    let g = c.requires.walking in
    let h = c.requires.term_bound.0 in
    let l = c.requires.term_bound.1 in
    (omega (arith, c.decreases, h), label_next g h l c.put_digit.ensures)

pub walk_labels-returns-in_err-used-clause-stepped_from : goal.walk_labels-returns-in_err-used-clause-stepped_from
walk_labels-returns-in_err-used-clause-stepped_from t c =
    let g = c.requires.walking in
    let h = c.requires.term_bound.0 in
    let l = c.requires.term_bound.1 in
    let f = err_from_is_err_and c.from_residual.result c.from_residual.ensures.1 in
    rw f.1
    (label_full g h l c.put_digit.ensures (omega (arith, c.if-last-d.false, c.at.ensures.0, c.at-2.ensures.0)) c.in_err-used.ensures.walked)

pub walk_labels-returns-then-d-last-clause-stepped_from : goal.walk_labels-returns-then-d-last-clause-stepped_from
walk_labels-returns-then-d-last-clause-stepped_from t c =
    let g = c.requires.walking in
    let h = c.requires.term_bound.0 in
    let l = c.requires.term_bound.1 in
    labels_one g h l c.put_digit.ensures (omega (arith, c.if-last-d.false, c.at.ensures.0, c.at-2.ensures.0)) c.in_ok-used.ensures.walked
    (omega (arith, c.if-d-last.true, c.at.ensures.0, c.at-2.ensures.0))

pub walk_labels-returns-clause-stepped_from : goal.walk_labels-returns-clause-stepped_from
walk_labels-returns-clause-stepped_from t c =
    let g = c.requires.walking in
    let h = c.requires.term_bound.0 in
    let l = c.requires.term_bound.1 in
    labels_stepped g h l c.put_digit.ensures (omega (arith, c.if-last-d.false, c.at.ensures.0, c.at-2.ensures.0)) c.in_ok-used.ensures.walked
    c.at-3.ensures.0 (omega (arith, c.at.ensures.0, c.at-2.ensures.0)) c.repeat.ensures

pub walk_pair-returns-then-not-is_open-clause-stepped : goal.walk_pair-returns-then-not-is_open-clause-stepped
walk_pair-returns-then-not-is_open-clause-stepped t c =
    let g = c.requires.walking in
    let h = c.requires.term_bound.0 in
    let l = c.requires.term_bound.1 in
    closed_stepped g h l c.is_open.ensures c.if-not-is_open.true

pub walk_pair-returns-then-not-join_pair-clause-stepped : goal.walk_pair-returns-then-not-join_pair-clause-stepped
walk_pair-returns-then-not-join_pair-clause-stepped t c =
    let g = c.requires.walking in
    let h = c.requires.term_bound.0 in
    let l = c.requires.term_bound.1 in
    (failed_stepped g h l c.join_pair.ensures c.if-not-join_pair.true).0

pub walk_pair-with_pair-requires : goal.walk_pair-with_pair-requires
walk_pair-with_pair-requires t c =
    let g = c.requires.walking in
    let h = c.requires.term_bound.0 in
    let l = c.requires.term_bound.1 in
    (g.positive, omega (arith, l, g.knows.right_few), paired_small g)

pub walk_pair-walk-used-requires : goal.walk_pair-walk-used-requires
walk_pair-walk-used-requires t c =
    let g = c.requires.walking in
    let h = c.requires.term_bound.0 in
    let l = c.requires.term_bound.1 in
    let f = open_free g h l c.is_open.ensures c.if-not-is_open.false in
    let x = c.join_pair.ensures in
    let e = c.if-not-join_pair.false in (
      omega (arith, c.decreases, h),
      joined_next g h l x e f c.put_pair.ensures c.with_pair.ensures,
    )

pub walk_pair-returns : goal.walk_pair-returns
walk_pair-returns t c =
    let g = c.requires.walking in
    let h = c.requires.term_bound.0 in
    let l = c.requires.term_bound.1 in
    let f = open_free g h l c.is_open.ensures
    c.if-not-is_open.false in
    let x = c.join_pair.ensures in
    let e = c.if-not-join_pair.false in record {
      stepped = joined_stepped g h l x e f c.put_pair.ensures c.walk-used.ensures.walked c.put_back.ensures;
      heads_unchanged = joins_undone g h l x e c.walk-used.ensures.heads_unchanged c.undo.ensures;
    }
