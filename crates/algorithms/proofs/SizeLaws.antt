-- How many terms Algorithm 1 pairs: its cases come to one loop over unify_c, for every size that leaves no term without a place.
-- By cases on the four tests. Where no side has a label, unify_c with all terms chosen is unify_terms. Assumes nothing.
use Prim.Native.Nat.{ℕ, suc, ◌<◌, ◌≤◌, min}
use mathlib.Core.Bool.{Bool, true, false, cond, ◌&&◌}
use mathlib.Core.List.Memᴰ
use mathlib.Core.List.{List, [], ◌∷◌, flat_map, product, append-nil, Memᴰ}
use mathlib.Core.Logic.{◌↔◌}
use mathlib.Core.Path.{◌≡◌, refl, sym, ◌∙◌}
use native.Mathlib.Omega.{arith}
use borrow.Author.Tests.{eqb-true, eqb-false, leb-true, leb-false}
use lib.Dec.{eqb, leb}
use lib.ListN.{length}
use Rattle.unification.specs.Outcome.{Outcome}
use Rattle.unification.specs.Words.{end, before}
use Rattle.unification.proofs.ListLaws.{length_none}
use Rattle.algorithms.specs.Algorithms.{numbers, distribute, unify_distribute, Result, composed, unify_terms, unify_c, unify}
use Rattle.algorithms.specs.Code.Placing.{Distinct}
use Rattle.algorithms.proofs.NumberLaws.{numbers_are, numbers_distinct}
use Rattle.algorithms.proofs.ChooseLaws.{choose_all}

-- A size that leaves each term a place: a term that is not paired needs a label on the other side.
pub record Size (n m k l c : ℕ) : Type 0 where
  pub in_left_lem : c ≤ n
  pub in_right_lem : c ≤ m
  pub no_left : k ≡ 0 → c ≡ m
  pub no_right : l ≡ 0 → c ≡ n

-- The results are those of one loop over these sizes, each gone over once.
pub record Loop (n m k l : ℕ) (f : ℕ → List Result) (rs : List Result) : Type 0 where
  pub sizes : List ℕ
  pub are : (c : ℕ) → Memᴰ c sizes ↔ Size n m k l c
  pub once : Distinct sizes
  pub loop : rs ≡ flat_map f sizes

module _ (n m k l : ℕ) (f : ℕ → List Result) where
  -- one size
  only : (c : ℕ) → Size n m k l c → ((x : ℕ) → Size n m k l x → x ≡ c) → Loop n m k l f (f c)
  unfolding flat_map
  only c s h =
      record {
        sizes = c ∷ [];
        are = λ x. ((λ i. rw (Memᴰ.eq_of_singleton i) s), (λ z. Memᴰ.head (h x z)));
        once = before (λ y i. absurd (Memᴰ.not-nil i)) end;
        loop = sym (append-nil (f c));
      }

  -- none
  no_size : ((x : ℕ) → Size n m k l x → ⊥) → Loop n m k l f []
  unfolding flat_map
  no_size h =
      record { sizes = []; are = λ x. ((λ i. absurd (Memᴰ.not-nil i)), (λ z. absurd (h x z))); once = end; loop = refl }

  -- those up to a greatest one
  up_to : (c : ℕ) → ((x : ℕ) → (x < c) ↔ Size n m k l x) → Loop n m k l f (flat_map f (numbers 0 c))
  up_to c h =
      record {
        sizes = numbers 0 c;
        are = λ x. (
          (λ i. (h x).0 (let r = ((numbers_are 0 c x).0 i).1 in omega (arith, r))),
          (λ z. let r = (h x).1 z in (numbers_are 0 c x).1 (omega arith, omega (arith, r))),
        );
        once = numbers_distinct 0 c;
        loop = refl;
      }

-- unify_terms is unify_c with all terms chosen, where there is no label
all_chosen : (o : List (ℕ × ℕ) → Outcome) (ts Ms ss Ns : List ℕ) → length Ms ≡ 0 → length Ns ≡ 0 → length ts ≡ length ss →
    unify_c o (length ts) ts Ms ss Ns ≡ composed (unify_terms o ts ss) ([] ∷ [])
unfolding unify_c flat_map unify_distribute distribute product
all_chosen o ts Ms ss Ns a b e =
    rw (length_none Ms a, length_none Ns b, choose_all ts) (rw (e, choose_all ss) (append-nil _ ∙ append-nil _))

module _ (o : List (ℕ × ℕ) → Outcome) (ts Ms ss Ns : List ℕ) where
  -- The loop that comes to some results.
  abbrev LoopOf : List Result → Type 0
  LoopOf = Loop (length ts) (length ss) (length Ms) (length Ns) (λ c. unify_c o c ts Ms ss Ns)

  -- lines 1 to 3
  no_labels : length Ms ≡ 0 → length Ns ≡ 0 → (b : Bool) → eqb (length ts) (length ss) ≡ b →
      LoopOf (cond b (composed (unify_terms o ts ss) ([] ∷ [])) [])
  no_labels p q true e =
      let g = eqb-true (length ts) (length ss) e in
      rw (all_chosen o ts Ms ss Ns p q g) at
      (only (length ts) (length ss) (length Ms) (length Ns) (λ c. unify_c o c ts Ms ss Ns) (length ts)
      (record { in_left_lem = omega arith; in_right_lem = omega (arith, g); no_left = λ z. omega (arith, g); no_right = λ z. refl })
      (λ x s. s.no_right q))
  no_labels p q false e = no_size (length ts) (length ss) (length Ms) (length Ns) _
      (λ x s. let y = s.no_left p in let z = s.no_right q in eqb-false (length ts) (length ss) e (omega (arith, y, z)))

  -- lines 4 to 6
  no_left_labels : length Ms ≡ 0 → (length Ns ≡ 0 → ⊥) → (b : Bool) → leb (length ss) (length ts) ≡ b →
      LoopOf (cond b (unify_c o (length ss) ts Ms ss Ns) [])
  no_left_labels p q true e =
      let g = leb-true (length ss) (length ts) e in
      only (length ts) (length ss) (length Ms) (length Ns) (λ c. unify_c o c ts Ms ss Ns) (length ss)
      (record { in_left_lem = g; in_right_lem = omega arith; no_left = λ z. refl; no_right = λ z. absurd (q z) }) (λ x s. s.no_left p)
  no_left_labels p q false e = no_size (length ts) (length ss) (length Ms) (length Ns) _
      (λ x s. let g = leb-false (length ss) (length ts) e in let y = s.no_left p in omega (arith, g, y, s.in_left_lem))

  -- lines 7 to 9
  no_right_labels : (length Ms ≡ 0 → ⊥) → length Ns ≡ 0 → (b : Bool) → leb (length ts) (length ss) ≡ b →
      LoopOf (cond b (unify_c o (length ts) ts Ms ss Ns) [])
  no_right_labels p q true e =
      let g = leb-true (length ts) (length ss) e in
      only (length ts) (length ss) (length Ms) (length Ns) (λ c. unify_c o c ts Ms ss Ns) (length ts)
      (record { in_left_lem = omega arith; in_right_lem = g; no_left = λ z. absurd (p z); no_right = λ z. refl }) (λ x s. s.no_right q)
  no_right_labels p q false e = no_size (length ts) (length ss) (length Ms) (length Ns) _
      (λ x s. let g = leb-false (length ts) (length ss) e in let y = s.no_right q in omega (arith, g, y, s.in_right_lem))

  -- Algorithm 1 is one loop over unify_c
  pub one_loop : LoopOf (unify o ts Ms ss Ns)
  unfolding unify
  one_loop = pick _ refl _ refl
    where
      pick : (b : Bool) → eqb (length Ms) 0 ≡ b → (d : Bool) → eqb (length Ns) 0 ≡ d →
          LoopOf (cond (b && d) (cond (eqb (length ts) (length ss)) (composed (unify_terms o ts ss) ([] ∷ [])) [])
          (cond b (cond (leb (length ss) (length ts)) (unify_c o (length ss) ts Ms ss Ns) [])
          (cond d (cond (leb (length ts) (length ss)) (unify_c o (length ts) ts Ms ss Ns) [])
          (flat_map (λ c. unify_c o c ts Ms ss Ns) (numbers 0 (suc (min (length ts) (length ss))))))))
      pick true p true q = no_labels (eqb-true _ _ p) (eqb-true _ _ q) _ refl
      pick true p false q = no_left_labels (eqb-true _ _ p) (eqb-false _ _ q) _ refl
      pick false p true q = no_right_labels (eqb-false _ _ p) (eqb-true _ _ q) _ refl
      pick false p false q =
          up_to (length ts) (length ss) (length Ms) (length Ns) _ _
          (λ x. (
            λ h. record {
              in_left_lem = omega (arith, h);
              in_right_lem = omega (arith, h);
              no_left = λ z. absurd (eqb-false _ _ p z);
              no_right =
                  λ z. absurd (eqb-false _ _ q z);
            },
            λ s. omega (arith, s.in_left_lem, s.in_right_lem),
          ))
