-- The list of choices holds exactly document 01's choices, in strictly rising order, and no other list does.
-- By induction on the number of digits: each turn puts a digit, in rising order, before each string of the rest. Assumes nothing.
use Prim.Native.Nat.{ℕ, zero, suc, ◌+◌, ◌<◌, ◌≤◌}
use mathlib.Core.Bool.{Bool, true, false, cond, ◌&&◌, false≢true}
use mathlib.Core.List.{List, [], ◌∷◌, ◌++◌, map, Memᴰ}
use mathlib.Core.Logic.{◌⊎◌, inl, inr, ◌↔◌}
use mathlib.Core.Path.{◌≡◌, refl, sym, ◌∙◌}
use native.Mathlib.Decide.{ℕ_discrete}
use native.Mathlib.Omega.{arith}
use borrow.Author.Tests.{leb-true, le-leb, eqb-true, eq-eqb}
use lib.Dec.{eqb, leb}
use lib.ListN.{length}
use Rattle.table.specs.Layout.{word}
use Rattle.unification.specs.Words.{Rising, end, before}
use Rattle.unification.proofs.RisingLaws.{rising_append, rising_map, rising_same}
use Rattle.multiset_unification.specs.Choice.{IsChoice, Before, here, later}
use Rattle.multiset_unification.specs.Computed.Choices.{among, branch, rights, lefts, choices}
use Rattle.multiset_unification.proofs.DigitLaws.{IsRights, none, paired, placed, IsLefts, last, next, choice_digits}

found : (d : ℕ) (es : List ℕ) → among d es ≡ true → Memᴰ d es
unfolding among
found d [] q = absurd (false≢true q)
found d (e ∷ es) q = pick (eqb d e) refl (found d es)
  where
    pick : (b : Bool) → eqb d e ≡ b → (among d es ≡ true → Memᴰ d es) → Memᴰ d (e ∷ es)
    pick true z r = mathlib.Core.List.Memᴰ.head (eqb-true d e z)
    pick false z r = mathlib.Core.List.Memᴰ.tail (r (rw z at q))

find : (d : ℕ) (es : List ℕ) → Memᴰ d es → among d es ≡ true
unfolding among
find d [] x = elim x [ ]
find d (e ∷ es) (mathlib.Core.List.Memᴰ.head q) = rw (eq-eqb d e q)
find d (e ∷ es) (mathlib.Core.List.Memᴰ.tail m) = pick (eqb d e) refl (find d es m)
  where
    pick : (b : Bool) → eqb d e ≡ b → among d es ≡ true → among d (e ∷ es) ≡ true
    pick true z r = rw z
    pick false z r = rw (z, r)

-- a number is found in a list exactly if it is in it
pub among_member : (d : ℕ) (es : List ℕ) → among d es ≡ true ↔ Memᴰ d es
among_member d es = (found d es, find d es)

-- and not found if it is not
pub among_not : (d : ℕ) (es : List ℕ) → (Memᴰ d es → ⊥) → among d es ≡ false
among_not d es h = pick (among d es) refl
  where
    pick : (b : Bool) → among d es ≡ b → b ≡ false
    pick true q = absurd (h ((among_member d es).0 q))
    pick false q = refl

-- A digit from d on, one of k, followed by a string that f has for it.
data Branched (d k : ℕ) (f : ℕ → List (List ℕ)) : List ℕ → Type 0 where
  with : {e : ℕ} {es : List ℕ} → d ≤ e → e < d + k → Memᴰ es (f e) → Branched d k f (e ∷ es)

branch_from : (d k : ℕ) (f : ℕ → List (List ℕ)) (ds : List ℕ) → Memᴰ ds (branch d k f) → Branched d k f ds
unfolding branch
branch_from d zero f ds m = absurd (mathlib.Core.List.Memᴰ.not-nil m)
branch_from d (suc k) f ds m = go (branch_from (suc d) k f ds) (mathlib.Core.List.Memᴰ.append_cases (map (d ∷◌) (f d)) m)
  where
    wider : {es : List ℕ} → Branched (suc d) k f es → Branched d (suc k) f es
    wider (with {e} a b n) = with {e = e} (omega arith) (omega arith) n

    go : (Memᴰ ds (branch (suc d) k f) → Branched (suc d) k f ds) → Memᴰ ds (map (d ∷◌) (f d)) ⊎ Memᴰ ds (branch (suc d) k f) →
        Branched d (suc k) f ds
    go r (inl n) = let s = mathlib.Core.List.Memᴰ.of_map (d ∷◌) (f d) n in rw (← s.2) (with {e = d} (omega arith) (omega arith) s.1)
    go r (inr n) = wider (r n)

in_branch : (d k : ℕ) (f : ℕ → List (List ℕ)) (e : ℕ) (es : List ℕ) → d ≤ e → e < d + k → Memᴰ es (f e) → Memᴰ (e ∷ es) (branch d k f)
unfolding branch
in_branch d zero f e es a b m = absurd (omega arith)
in_branch d (suc k) f e es a b m = go (in_branch (suc d) k f e es) (ℕ_discrete e d)
  where
    go : (suc d ≤ e → e < suc d + k → Memᴰ es (f e) → Memᴰ (e ∷ es) (branch (suc d) k f)) → Dec (e ≡ d) →
        Memᴰ (e ∷ es) (map (d ∷◌) (f d) ++ branch (suc d) k f)
    go r (yes q) =
        let n : Memᴰ (e ∷ es) (map (d ∷◌) (f d)) = rw q (mathlib.Core.List.Memᴰ.map (d ∷◌) (rw q at m)) in
        mathlib.Core.List.Memᴰ.append_left (branch (suc d) k f) n
    go r (no q) = mathlib.Core.List.Memᴰ.append_right (map (d ∷◌) (f d)) (r (omega arith) (omega arith) m)

branch_rises : (d k : ℕ) (f : ℕ → List (List ℕ)) → ((e : ℕ) → Rising Before (f e)) → Rising Before (branch d k f)
unfolding branch
branch_rises d zero f h = end
branch_rises d (suc k) f h =
    rising_append Before (map (d ∷◌) (f d)) (branch (suc d) k f) (rising_map Before Before (d ∷◌) (f d) (λ x y m n b. later b) (h d))
    (branch_rises (suc d) k f h)
    (λ x y m n. apart x y (mathlib.Core.List.Memᴰ.of_map (d ∷◌) (f d) m) (branch_from (suc d) k f y n))
  where
    apart : (x y : List ℕ) → (es : List ℕ) × Memᴰ es (f d) × (d ∷ es ≡ x) → Branched (suc d) k f y → Before x y
    apart x y (es, m, q) (with {e} a b n) = rw (← q) (here {d = d} {e = e} (omega arith))

rights_from : (k : ℕ) (used : List ℕ) (j r : ℕ) (ds : List ℕ) → Memᴰ ds (rights k used j r) → IsRights k used j r ds
unfolding rights
rights_from k used j zero ds m = rw (mathlib.Core.List.Memᴰ.eq_of_singleton m) none
rights_from k used j (suc r) ds m = pick (among (suc j) used) refl (λ es. rights_from k used (suc j) r es) m
  where
    Rest : List ℕ → Type 0
    Rest es = Memᴰ es (rights k used (suc j) r) → IsRights k used (suc j) r es

    mated : Memᴰ (suc j) used → ((es : List ℕ) → Rest es) → {es : List ℕ} → Branched 0 1 (λ d. rights k used (suc j) r) es →
        IsRights k used j (suc r) es
    mated u f (with {e} {es} a b n) = let z : e ≡ 0 = omega arith in rw z (paired u (f es n))

    alone : (Memᴰ (suc j) used → ⊥) → ((es : List ℕ) → Rest es) → {es : List ℕ} → Branched 1 k (λ d. rights k used (suc j) r) es →
        IsRights k used j (suc r) es
    alone u f (with {e} {es} a b n) = placed {d = e} u (omega arith) (omega arith) (f es n)

    pick : (b : Bool) → among (suc j) used ≡ b → ((es : List ℕ) → Rest es) → Memᴰ ds (cond b (branch 0 1 (λ d. rights k used (suc j) r)) (branch 1 k (λ d. rights k used (suc j) r))) → IsRights k used j (suc r) ds
    pick true q f n = mated ((among_member (suc j) used).0 q) f (branch_from 0 1 (λ d. rights k used (suc j) r) ds n)
    pick false q f n = alone (λ u. false≢true (sym q ∙ (among_member (suc j) used).1 u)) f (branch_from 1 k (λ d. rights k used (suc j) r) ds n)

in_rights : {k : ℕ} {used : List ℕ} {j r : ℕ} {ds : List ℕ} → IsRights k used j r ds → Memᴰ ds (rights k used j r)
unfolding rights
in_rights none = mathlib.Core.List.Memᴰ.head refl
in_rights {k} {used = used} (paired {j} {r} {ds} u s) =
    rw ((among_member (suc j) used).1 u) (in_branch 0 1 (λ d. rights k used (suc j) r) 0 ds (omega arith) (omega arith) (in_rights s))
in_rights {k} {used = used} (placed {j} {r} {d} {ds} u a b s) =
    rw (among_not (suc j) used u) (in_branch 1 k (λ d. rights k used (suc j) r) d ds (omega arith) (omega arith) (in_rights s))

-- a digit is passed over exactly if it would pair a right term twice
barred : (d m : ℕ) (used : List ℕ) → leb d m && among d used ≡ false ↔ (d ≤ m → Memᴰ d used → ⊥)
barred d m used = ((λ q a u. false≢true (sym q ∙ both a u)), (λ h. pick (leb d m) refl (among d used) refl h))
  where
    both : d ≤ m → Memᴰ d used → leb d m && among d used ≡ true
    both a u = rw (le-leb d m a, (among_member d used).1 u)

    pick : (b : Bool) → leb d m ≡ b → (c : Bool) → among d used ≡ c → (d ≤ m → Memᴰ d used → ⊥) → b && c ≡ false
    pick true p true q h = absurd (h (leb-true d m p) ((among_member d used).0 q))
    pick true p false q h = refl
    pick false p c q h = refl

unbarred : {A : Type 0} (b : Bool) (x : A) (xs : List A) → Memᴰ x (cond b [] xs) → (b ≡ false) × Memᴰ x xs
unbarred true x xs m = absurd (mathlib.Core.List.Memᴰ.not-nil m)
unbarred false x xs m = (refl, m)

-- The strings that may follow a digit of a left term.
abbrev following : ℕ → ℕ → ℕ → List ℕ → ℕ → ℕ → List (List ℕ)
following m k l used n d = cond (leb d m && among d used) [] (lefts m k l (d ∷ used) n)

lefts_from : (m k l : ℕ) (used : List ℕ) (n : ℕ) (ds : List ℕ) → Memᴰ ds (lefts m k l used n) → IsLefts m k l used n ds
unfolding lefts
lefts_from m k l used zero ds h = last (rights_from k used 0 m ds h)
lefts_from m k l used (suc n) ds h =
    go (λ d es. lefts_from m k l (d ∷ used) n es)
    (branch_from 1 (m + l) (following m k l used n) ds h)
  where
    go : ((d : ℕ) (es : List ℕ) → Memᴰ es (lefts m k l (d ∷ used) n) → IsLefts m k l (d ∷ used) n es) → {es : List ℕ} →
        Branched 1 (m + l) (following m k l used n) es → IsLefts m k l used (suc n) es
    go f (with {e = d} {es} a b q) =
        let s = unbarred (leb d m && among d used) es (lefts m k l (d ∷ used) n) q in
        next {d = d} (omega arith) (omega arith) ((barred d m used).0 s.0) (f d es s.1)

in_lefts : {m k l n : ℕ} {used ds : List ℕ} → IsLefts m k l used n ds → Memᴰ ds (lefts m k l used n)
unfolding lefts
in_lefts (last s) = in_rights s
in_lefts {m} {k} {l} (next {used} {ds} {n} {d} a b c s) =
    in_branch 1 (m + l) (following m k l used n) d ds (omega arith) (omega arith) (rw ((barred d m used).1 c) (in_lefts s))

-- the strings of digits that are listed are those that the walk meets
digits_listed : (m k l : ℕ) (used : List ℕ) (n : ℕ) (ds : List ℕ) → Memᴰ ds (lefts m k l used n) ↔ IsLefts m k l used n ds
digits_listed m k l used n ds = (lefts_from m k l used n ds, (λ s. in_lefts s))

-- the list of choices holds exactly the choices
pub choices_are : (n m k l : ℕ) (ds : List ℕ) → Memᴰ ds (choices n m k l) ↔ IsChoice n m k l ds
unfolding choices
choices_are n m k l ds =
    let x = digits_listed m k l [] n ds in
    let y = choice_digits n m k l ds in
    ((λ q. y.1 (x.0 q)), (λ c. x.1 (y.0 c)))

rights_rise : (k : ℕ) (used : List ℕ) (j r : ℕ) → Rising Before (rights k used j r)
unfolding rights
rights_rise k used j zero = before (λ y m. absurd (mathlib.Core.List.Memᴰ.not-nil m)) end
rights_rise k used j (suc r) = pick (among (suc j) used) (rights_rise k used (suc j) r)
  where
    pick : (b : Bool) → Rising Before (rights k used (suc j) r) → Rising Before (cond b (branch 0 1 (λ d. rights k used (suc j) r)) (branch 1 k (λ d. rights k used (suc j) r)))
    pick true s = branch_rises 0 1 (λ d. rights k used (suc j) r) (λ d. s)
    pick false s = branch_rises 1 k (λ d. rights k used (suc j) r) (λ d. s)

lefts_rise : (m k l : ℕ) (used : List ℕ) (n : ℕ) → Rising Before (lefts m k l used n)
unfolding lefts
lefts_rise m k l used zero = rights_rise k used 0 m
lefts_rise m k l used (suc n) =
    branch_rises 1 (m + l) (following m k l used n)
    (λ d. pick (leb d m && among d used) (lefts_rise m k l (d ∷ used) n))
  where
    pick : {xs : List (List ℕ)} (b : Bool) → Rising Before xs → Rising Before (cond b [] xs)
    pick true s = end
    pick false s = s

-- the choices stand in strictly rising order of their digits
pub choices_rise : (n m k l : ℕ) → Rising Before (choices n m k l)
unfolding choices
choices_rise n m k l = lefts_rise m k l [] n

-- The first place where two strings differ; the first string is smaller there.
pub record Smaller (ds es : List ℕ) : Type 0 where
  pub place : ℕ
  pub in_first : place < length ds
  pub in_second : place < length es
  pub smaller : word ds place < word es place
  pub alike : (j : ℕ) → j < place → word ds j ≡ word es j

to_smaller : (ds es : List ℕ) → Before ds es → Smaller ds es
to_smaller [] es x = elim x [ ]
to_smaller (d ∷ ds) [] x = elim x [ ]
to_smaller (d ∷ ds) (e ∷ es) (here h) =
    record { place = 0; in_first = omega arith; in_second = omega arith; smaller = h; alike = λ j q. absurd (omega arith) }
to_smaller (d ∷ ds) (e ∷ es) (later b) = go (to_smaller ds es b)
  where
    go : Smaller ds es → Smaller (d ∷ ds) (d ∷ es)
    go s =
        record {
          place = suc s.place;
          in_first = omega (arith, s.in_first);
          in_second = omega (arith, s.in_second);
          smaller = s.smaller;
          alike = alike;
        }
      where
        alike : (j : ℕ) → j < suc s.place → word (d ∷ ds) j ≡ word (d ∷ es) j
        alike zero q = refl
        alike (suc j) q = s.alike j (omega arith)

from_place : (ds es : List ℕ) (i : ℕ) → i < length ds → i < length es → word ds i < word es i → ((j : ℕ) → j < i → word ds j ≡ word es j) →
    Before ds es
from_place [] es i a b h f = absurd (omega arith)
from_place (d ∷ ds) [] i a b h f = absurd (omega arith)
from_place (d ∷ ds) (e ∷ es) zero a b h f = here h
from_place (d ∷ ds) (e ∷ es) (suc i) a b h f =
    let q : d ≡ e = f 0 (omega arith) in
    rw q (later (from_place ds es i (omega arith) (omega arith) h (λ j l. f (suc j) (omega arith))))

-- "compared from the first": one string of digits comes before another exactly if it is smaller at the first place where they differ
pub before_means : (ds es : List ℕ) → Before ds es ↔ Smaller ds es
before_means ds es = (to_smaller ds es, λ s. from_place ds es s.place s.in_first s.in_second s.smaller s.alike)

first_digits : (d e : ℕ) (ds es : List ℕ) → Before (d ∷ ds) (e ∷ es) → (d < e) ⊎ ((d ≡ e) × Before ds es)
first_digits d e ds es (here h) = inl h
first_digits d e ds es (later b) = inr (refl, b)

-- of two strings of digits at most one comes before the other
pub before_one_way : (ds es : List ℕ) → Before ds es → Before es ds → ⊥
before_one_way [] es x _ = elim x [ ]
before_one_way (d ∷ ds) [] x _ = elim x [ ]
before_one_way (d ∷ ds) (e ∷ es) a b = go (first_digits d e ds es a) (first_digits e d es ds b) (before_one_way ds es)
  where
    go : (d < e) ⊎ ((d ≡ e) × Before ds es) → (e < d) ⊎ ((e ≡ d) × Before es ds) → (Before ds es → Before es ds → ⊥) → ⊥
    go (inl p) (inl q) f = omega arith
    go (inl p) (inr q) f = omega (arith, q.0)
    go (inr p) (inl q) f = omega (arith, p.0)
    go (inr p) (inr q) f = f p.1 q.1

-- a rising list of exactly the choices is the list of choices
pub choices_one : (n m k l : ℕ) (dss : List (List ℕ)) → Rising Before dss → ((ds : List ℕ) → Memᴰ ds dss ↔ IsChoice n m k l ds) →
    dss ≡ choices n m k l
choices_one n m k l dss r h =
    rising_same Before before_one_way dss (choices n m k l) r (choices_rise n m k l)
    (λ ds. ((λ q. (choices_are n m k l ds).1 ((h ds).0 q)), (λ q. (h ds).1 ((choices_are n m k l ds).0 q))))
