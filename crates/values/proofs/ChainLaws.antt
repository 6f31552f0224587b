-- The table of representatives by other names, and after one more place: it stays as it is, or a new representative is put in front of
-- those with its key. Assumes nothing.
use Prim.Native.Nat.{ℕ, ◌+◌, ◌<◌}
use mathlib.Core.Logic.{◌⊎◌, inl, inr}
use mathlib.Core.Path.{◌≡◌, sym, ap, ◌∙◌}
use native.Mathlib.Decide.{ℕ_discrete, dec_lt}
use native.Mathlib.Omega.{arith}
use lib.ListN.{length, replicate, length-replicate, get_or-replicate, get_or-eq_default}
use lib.Seq.{get_or-set_same, get_or-set_other}
use Rattle.std.proofs.Common.{Option, Some, None}
use Rattle.table.specs.Limits.{max_nodes}
use Rattle.values.specs.declared.applications.Applications.{Applications}
use Rattle.values.specs.Code.Applications.{keys, at, IsEmpty, with_place, Reached, here, onward, OnWay, Chained}
use Rattle.values.proofs.ReachedLaws.{none_reached, reached_first}

-- in an empty table are no places
pub chained_none : (rep : ℕ → Type 0) (key : ℕ → ℕ) (t : Applications) → IsEmpty t → Chained rep key t 0
chained_none rep key t e =
    record {
      whole = λ q h. absurd (omega arith);
      only = λ x q w. absurd (none x q w);
      falls = λ x p q w. absurd (none x p w);
    }
  where
    none_at : (x : ℕ) → Dec (x < keys) → at (replicate keys None) x ≡ None
    none_at x (yes h) = get_or-replicate {A = Option ℕ} keys x None None h
    none_at x (no n) = get_or-eq_default (replicate keys None) None {n = x} (omega (arith, n, length-replicate {A = Option ℕ} keys None))

    none : (x q : ℕ) → OnWay t x q → ⊥
    none x q w = none_reached t.earlier q (rw (e, none_at x (dec_lt x keys)) at w)

-- The table after place p by other names that keep the representatives before p and their keys.
module _ (old new : ℕ → Type 0) (old-key new-key : ℕ → ℕ) (t : Applications) (p : ℕ) (kept : (q : ℕ) → q < p → old q → new q)
    (was : (q : ℕ) → q < p → new q → old q) (one_key : (q : ℕ) → q < p → new-key q ≡ old-key q) (s : Chained old old-key t p) where
  -- the table before p stays
  pub chained_same : Chained new new-key t p
  chained_same =
      record {
        whole = λ q l r. rw (one_key q l) (s.whole q l (was q l r));
        only = λ x q w.
            let u = s.only x q w in
            (u.0, kept q u.0 u.1, one_key q u.0 ∙ u.2);
        falls = s.falls;
      }

  -- no representative stands at p
  pub chained_skip : (new p → ⊥) → Chained new new-key t (p + 1)
  chained_skip n =
      record {
        whole = λ q h r. chained_same.whole q (not_last q h r) r;
        only = λ x q w.
            let u = chained_same.only x q w in
            (omega (arith, u.0), u.1, u.2);
        falls = s.falls;
      }
    where
      not_last : (q : ℕ) → q < p + 1 → new q → q < p
      not_last q h r = let d : q ≡ p → ⊥ = λ e. n (rw e at r) in omega (arith, d)

  -- a representative stands at p, and is put in front of those with its key
  module _ (x : ℕ) (h : new p) (k : new-key p ≡ x) (kx : x < keys) (bl : length t.latest ≡ keys) (el : length t.earlier ≡ max_nodes)
      (pl : p < max_nodes) where
    abbrev more : Applications
    more = with_place t p x

    latest_here : at more.latest x ≡ Some p
    latest_here = get_or-set_same t.latest x (Some p) None (rw bl kx)

    latest_other : (y : ℕ) → (y ≡ x → ⊥) → at more.latest y ≡ at t.latest y
    latest_other y n = get_or-set_other t.latest x y (Some p) None n

    earlier_here : at more.earlier p ≡ at t.latest x
    earlier_here = get_or-set_same t.earlier p (at t.latest x) None (rw el pl)

    earlier_other : (q : ℕ) → q < p → at more.earlier q ≡ at t.earlier q
    earlier_other q l = get_or-set_other t.earlier p q (at t.latest x) None (λ z. omega (arith, l, z))

    -- the way along places before p is as it was
    way_kept : {c : Option ℕ} {q : ℕ} → Reached t.earlier c q → ((r : ℕ) → Reached t.earlier c r → r < p) → Reached more.earlier c q
    way_kept here f = here
    way_kept {q = q} (onward {p = a} w) f =
        onward (rw (earlier_other a (f a here)) (way_kept w (λ r m. f r (onward m))))

    way_was : {d : Option ℕ} {q : ℕ} → Reached more.earlier d q → (c : Option ℕ) → d ≡ c → ((r : ℕ) → Reached t.earlier c r → r < p) →
        Reached t.earlier c q
    way_was {q = q} here c e f = rw (← e) here
    way_was {q = q} (onward {p = a} w) c e f =
        let i : Reached t.earlier c a = rw (← e) here in
        rw (← e) (onward (way_was w (at t.earlier a) (earlier_other a (f a i)) (λ r m. f r (rw (← e) (onward m)))))

    -- those along a key are before p
    below : (y r : ℕ) → OnWay t y r → r < p
    below y r w = (s.only y r w).0

    pub chained_add : Chained new new-key (with_place t p x) (p + 1)
    chained_add =
        record {
          whole = λ q l r. whole q l r (ℕ_discrete q p);
          only = λ y q w. only y q w (ℕ_discrete y x);
          falls = λ y q b w e. falls y q b w e (ℕ_discrete y x);
        }
      where
        whole : (q : ℕ) → q < p + 1 → new q → Dec (q ≡ p) → OnWay more (new-key q) q
        whole q l r (yes e) = rw (e, k, latest_here) here
        whole q l r (no n) = go (rw (one_key q m) (s.whole q m (was q m r))) (ℕ_discrete (new-key q) x)
          where
            m : q < p
            m = omega (arith, n, l)

            go : OnWay t (new-key q) q → Dec (new-key q ≡ x) → OnWay more (new-key q) q
            go w (yes e) =
                let v : OnWay t x q = rw e at w in
                rw (e, latest_here) (onward {p = p} {q = q} (rw earlier_here (way_kept v (below x))))
            go w (no d) = rw (latest_other (new-key q) d) (way_kept w (below (new-key q)))

        -- what is on the way along a key is p, or is on the way that was
        first : (y q : ℕ) → OnWay more y q → Dec (y ≡ x) → ((y ≡ x) × (q ≡ p)) ⊎ OnWay t y q
        first y q w (no n) = inr (way_was w (at t.latest y) (latest_other y n) (below y))
        first y q w (yes e) = go (reached_first more.earlier p q (rw (e, latest_here) at w))
          where
            go : (q ≡ p) ⊎ Reached more.earlier (at more.earlier p) q → ((y ≡ x) × (q ≡ p)) ⊎ OnWay t y q
            go (inl d) = inl (e, d)
            go (inr v) = inr (rw e (way_was v (at t.latest x) earlier_here (below x)))

        only : (y q : ℕ) → OnWay more y q → Dec (y ≡ x) → (q < p + 1) × new q × (new-key q ≡ y)
        only y q w d = go (first y q w d)
          where
            go : ((y ≡ x) × (q ≡ p)) ⊎ OnWay t y q → (q < p + 1) × new q × (new-key q ≡ y)
            go (inl (e, f)) = (omega (arith, f), rw f h, ap new-key f ∙ k ∙ sym e)
            go (inr v) =
                let u = s.only y q v in
                (omega (arith, u.0), kept q u.0 u.1, one_key q u.0 ∙ u.2)

        falls : (y q b : ℕ) → OnWay more y q → at more.earlier q ≡ Some b → Dec (y ≡ x) → b < q
        falls y q b w e d = go (first y q w d)
          where
            go : ((y ≡ x) × (q ≡ p)) ⊎ OnWay t y q → b < q
            go (inl (i, f)) =
                let z : at t.latest x ≡ Some b = sym earlier_here ∙ ap (at more.earlier) (sym f) ∙ e in
                let l = below x b (rw z here) in
                omega (arith, l, f)
            go (inr v) = s.falls y q b v (sym (earlier_other q (below y q v)) ∙ e)
