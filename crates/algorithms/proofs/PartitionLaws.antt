-- The ordered partitions of a list in k parts: they are what its placings make, and each stands once.
-- By induction on the list: its first element is put in each part, and taken out again. Assumes nothing.
use Prim.Native.Nat.{ℕ, zero, suc, ◌<◌}
use mathlib.Core.Bool.{Bool, true, false, cond}
use mathlib.Core.List.{List, [], ◌∷◌, map, flat_map, head-eq_of_cons-eq, tail-eq_of_cons-eq, Memᴰ}
use mathlib.Core.Logic.{◌↔◌}
use mathlib.Core.Path.{◌≡◌, refl, sym, ap, ◌∙◌}
use native.Mathlib.Omega.{arith}
use lib.Dec.{eqb}
use Rattle.unification.specs.Node.{tabulate}
use Rattle.unification.specs.Words.{end, before}
use Rattle.unification.proofs.ListLaws.{tabulate_from, tabulate_first, tabulate_same}
use Rattle.unification.proofs.FlatLaws.{in_flat}
use Rattle.unification.proofs.RisingLaws.{rising_flat}
use Rattle.multiset_unification.specs.Choice.{with_digit}
use Rattle.multiset_unification.proofs.PutLaws.{with_digit_lem, without_digit}
use Rattle.algorithms.specs.Algorithms.{in_each, ordered_partitions}
use Rattle.algorithms.specs.Code.Placing.{Distinct, Placing, none, put, parts}
use Rattle.algorithms.proofs.DistinctLaws.{map_distinct}
use Rattle.algorithms.proofs.InsertedLaws.{here, removed, removed_none, removed_inserted}

-- The parts g are the parts f with a put first in part q.
abbrev Added : ℕ → ℕ → (ℕ → List ℕ) → (ℕ → List ℕ) → Type 0
Added a q f g = (g q ≡ a ∷ f q) × ((i : ℕ) → (i ≡ q → ⊥) → g i ≡ f i)

-- what is added to the first part leaves the others
added_first : {a : ℕ} {f g : ℕ → List ℕ} (k : ℕ) → Added a 0 f g → tabulate (suc k) g ≡ (a ∷ f 0) ∷ tabulate k (λ i. f (suc i))
added_first {a} {f} {g} k (h, n) =
    let e : tabulate k (λ i. g (suc i)) ≡ tabulate k (λ i. f (suc i)) =
    tabulate_same k (λ i. g (suc i)) (λ i. f (suc i)) (λ i q. n (suc i) (λ z. absurd (omega (arith, z)))) in
    tabulate_first k g ∙ rw (h, e)

added_later : {a q : ℕ} {f g : ℕ → List ℕ} → Added a (suc q) f g → Added a q (λ i. f (suc i)) (λ i. g (suc i))
added_later {a} {q} (h, n) = (h, λ i d. n (suc i) (λ z. d (omega (arith, z))))

-- what is added to a later one leaves the first
first_left : {a q : ℕ} {f g : ℕ → List ℕ} (k : ℕ) → Added a (suc q) f g → tabulate (suc k) g ≡ f 0 ∷ tabulate k (λ i. g (suc i))
first_left {a} {q} {f} {g} k (h, n) = tabulate_first k g ∙ ap (◌∷ tabulate k (λ i. g (suc i))) (n 0 (λ z. absurd (omega (arith, z))))

in_each_lem : (a k q : ℕ) (f g : ℕ → List ℕ) → q < k → Added a q f g → Memᴰ (tabulate k g) (in_each a (tabulate k f))
unfolding in_each
in_each_lem a zero q f g h d = absurd (omega arith)
in_each_lem a (suc k) zero f g h d = rw (tabulate_first k f) (mathlib.Core.List.Memᴰ.head (added_first k d))
in_each_lem a (suc k) (suc q) f g h d =
    let m : Memᴰ (tabulate k (λ i. g (suc i))) (in_each a (tabulate k (λ i. f (suc i)))) =
    in_each_lem a k q (λ i. f (suc i)) (λ i. g (suc i)) (omega arith) (added_later d) in
    rw (tabulate_first k f, first_left k d) (mathlib.Core.List.Memᴰ.tail (mathlib.Core.List.Memᴰ.map (f 0 ∷◌) m))

each_from : (a k : ℕ) (f : ℕ → List ℕ) (p : List (List ℕ)) → Memᴰ p (in_each a (tabulate k f)) → (q : ℕ) × (q < k) ×
    ((g : ℕ → List ℕ) → Added a q f g → p ≡ tabulate k g)
unfolding in_each tabulate
each_from a zero f p m = absurd (mathlib.Core.List.Memᴰ.not-nil m)
each_from a (suc k) f p m = pick (rw (tabulate_first k f) at m) (λ r n. each_from a k (λ i. f (suc i)) r n)
  where
    Rest : List (List ℕ) → Type 0
    Rest r = (q : ℕ) × (q < k) × ((g : ℕ → List ℕ) → Added a q (λ i. f (suc i)) g → r ≡ tabulate k g)

    Found : Type 0
    Found = (q : ℕ) × (q < suc k) × ((g : ℕ → List ℕ) → Added a q f g → p ≡ tabulate (suc k) g)

    further : (r : List (List ℕ)) → f 0 ∷ r ≡ p → Rest r → Found
    further r e (q, h, s) = (suc q, omega arith, λ g d. sym e ∙ ap (f 0 ∷◌) (s (λ i. g (suc i)) (added_later d)) ∙ sym (first_left k d))

    pick : Memᴰ p (in_each a (f 0 ∷ tabulate k (λ i. f (suc i)))) →
        ((r : List (List ℕ)) → Memᴰ r (in_each a (tabulate k (λ i. f (suc i)))) → Rest r) → Found
    pick (mathlib.Core.List.Memᴰ.head e) r = (0, omega arith, λ g d. e ∙ sym (added_first k d))
    pick (mathlib.Core.List.Memᴰ.tail n) r =
        let s = mathlib.Core.List.Memᴰ.of_map (f 0 ∷◌) (in_each a (tabulate k (λ i. f (suc i)))) n in
        further s.0 s.2 (r s.0 s.1)

-- a digit adds its element to its part
digit_added : (a q : ℕ) (ts qs : List ℕ) → Added a q (λ i. with_digit i ts qs) (λ i. with_digit i (a ∷ ts) (q ∷ qs))
digit_added a q ts qs = (with_digit_lem q a ts qs, λ i n. without_digit i q a ts qs (λ e. n (sym e)))

-- the ordered partitions are the parts that arise by putting each element in one of k parts
pub partitions_are : (ts : List ℕ) (k : ℕ) (p : List (List ℕ)) → Memᴰ p (ordered_partitions ts k) ↔
    ((qs : List ℕ) × Placing k ts qs × (p ≡ parts k ts qs))
unfolding ordered_partitions parts with_digit
partitions_are [] k p = ((λ m. ([], none, mathlib.Core.List.Memᴰ.eq_of_singleton m)), (λ s. mathlib.Core.List.Memᴰ.head s.2))
partitions_are (a ∷ ts) k p = (
  (λ m. there ((in_flat (in_each a) (ordered_partitions ts k) p).0 m) (partitions_are ts k)),
  (λ s. back s.0 s.1 s.2 (partitions_are ts k)),
)
  where
    Are : Type 0
    Are = (r : List (List ℕ)) → Memᴰ r (ordered_partitions ts k) ↔ ((qs : List ℕ) × Placing k ts qs × (r ≡ parts k ts qs))

    placed : (r : List (List ℕ)) → Memᴰ p (in_each a r) → (qs : List ℕ) × Placing k ts qs × (r ≡ parts k ts qs) → (qs : List ℕ) ×
        Placing k (a ∷ ts) qs × (p ≡ parts k (a ∷ ts) qs)
    placed r n (qs, l, e) =
        let m : Memᴰ p (in_each a (parts k ts qs)) = rw (← e) n in
        let s = each_from a k (λ i. with_digit i ts qs) p m in
        (s.0 ∷ qs, put s.1 l, s.2 (λ i. with_digit i (a ∷ ts) (s.0 ∷ qs)) (digit_added a s.0 ts qs))

    there : (r : List (List ℕ)) × Memᴰ r (ordered_partitions ts k) × Memᴰ p (in_each a r) → Are → (qs : List ℕ) × Placing k (a ∷ ts) qs ×
        (p ≡ parts k (a ∷ ts) qs)
    there (r, m, n) are = placed r n ((are r).0 m)

    back : (qs : List ℕ) → Placing k (a ∷ ts) qs → p ≡ parts k (a ∷ ts) qs → Are → Memᴰ p (flat_map (in_each a) (ordered_partitions ts k))
    back [] x e are = elim x [ ]
    back (q ∷ qs) (put h l) e are =
        (in_flat (in_each a) (ordered_partitions ts k) p).1 (
          parts k ts qs,
          (are (parts k ts qs)).1 (qs, l, refl),
          rw e (in_each_lem a k q (λ i. with_digit i ts qs) (λ i. with_digit i (a ∷ ts) (q ∷ qs)) h (digit_added a q ts qs)),
        )

-- a is in none of the parts.
abbrev New : ℕ → List (List ℕ) → Type 0
New a p = (t : List ℕ) → Memᴰ t p → Memᴰ a t → ⊥

-- what has a digit is one of the elements
with_in : (d : ℕ) (ts ds : List ℕ) (a : ℕ) → Memᴰ a (with_digit d ts ds) → Memᴰ a ts
unfolding with_digit
with_in d [] ds a m = m
with_in d (t ∷ ts) [] a m = absurd (mathlib.Core.List.Memᴰ.not-nil m)
with_in d (t ∷ ts) (e ∷ ds) a m = pick (eqb e d) m (with_in d ts ds a)
  where
    pick : (b : Bool) → Memᴰ a (cond b (t ∷ with_digit d ts ds) (with_digit d ts ds)) → (Memᴰ a (with_digit d ts ds) → Memᴰ a ts) → Memᴰ a (t ∷ ts)
    pick true (mathlib.Core.List.Memᴰ.head q) r = mathlib.Core.List.Memᴰ.head q
    pick true (mathlib.Core.List.Memᴰ.tail n) r = mathlib.Core.List.Memᴰ.tail (r n)
    pick false n r = mathlib.Core.List.Memᴰ.tail (r n)

-- what is in a part is one of the elements
in_part : (ts : List ℕ) (k : ℕ) (p : List (List ℕ)) → Memᴰ p (ordered_partitions ts k) → (t : List ℕ) → Memᴰ t p → (a : ℕ) → Memᴰ a t → Memᴰ a ts
unfolding parts
in_part ts k p m t n a l =
    let s = (partitions_are ts k p).0 m in
    let n' : Memᴰ t (tabulate k (λ q. with_digit q ts s.0)) = rw (← s.2) n in
    let j = tabulate_from k (λ q. with_digit q ts s.0) t n' in
    let l' : Memᴰ a (with_digit j.0 ts s.0) = rw (← j.2) l in
    with_in j.0 ts s.0 a l'

parts_same : (a : ℕ) (p : List (List ℕ)) → New a p → map (removed a) p ≡ p
parts_same a [] n = refl
parts_same a (t ∷ p) n = rw (removed_none a t (n t (mathlib.Core.List.Memᴰ.head refl)), parts_same a p (λ u m. n u (mathlib.Core.List.Memᴰ.tail m)))

-- an element that is put in a part is taken out again
taken_back : (a : ℕ) (p r : List (List ℕ)) → New a p → Memᴰ r (in_each a p) → map (removed a) r ≡ p
unfolding in_each
taken_back a [] r n m = absurd (mathlib.Core.List.Memᴰ.not-nil m)
taken_back a (t ∷ p) r n (mathlib.Core.List.Memᴰ.head e) =
    let x : removed a (a ∷ t) ≡ t = removed_inserted here (n t (mathlib.Core.List.Memᴰ.head refl)) in
    rw (e, x, parts_same a p (λ u m. n u (mathlib.Core.List.Memᴰ.tail m)))
taken_back a (t ∷ p) r n (mathlib.Core.List.Memᴰ.tail m) =
    let s = mathlib.Core.List.Memᴰ.of_map (t ∷◌) (in_each a p) m in
    let x : removed a t ≡ t = removed_none a t (n t (mathlib.Core.List.Memᴰ.head refl)) in
    let y : map (removed a) s.0 ≡ p = taken_back a p s.0 (λ u m. n u (mathlib.Core.List.Memᴰ.tail m)) s.1 in
    ap (map (removed a)) (sym s.2) ∙ rw (x, y)

each_distinct : (a : ℕ) (p : List (List ℕ)) → New a p → Distinct (in_each a p)
unfolding in_each
each_distinct a [] n = end
each_distinct a (t ∷ p) n =
    before (λ r m. other r (mathlib.Core.List.Memᴰ.of_map (t ∷◌) (in_each a p) m))
    (map_distinct (t ∷◌) (in_each a p) (λ x y m k e. tail-eq_of_cons-eq e) (each_distinct a p (λ u m. n u (mathlib.Core.List.Memᴰ.tail m))))
  where
    other : (r : List (List ℕ)) → (s : List (List ℕ)) × Memᴰ s (in_each a p) × (t ∷ s ≡ r) → (a ∷ t) ∷ p ≡ r → ⊥
    other r (s, m, e) q =
        let x : a ∷ t ≡ t = head-eq_of_cons-eq (q ∙ sym e) in
        n t (mathlib.Core.List.Memᴰ.head refl) (rw (← x) (mathlib.Core.List.Memᴰ.head refl))

-- each stands once
pub partitions_distinct : (ts : List ℕ) (k : ℕ) → Distinct ts → Distinct (ordered_partitions ts k)
unfolding ordered_partitions
partitions_distinct [] k d = before (λ p m. absurd (mathlib.Core.List.Memᴰ.not-nil m)) end
partitions_distinct (a ∷ ts) k (before b d) =
    rising_flat (λ p r. p ≡ r → ⊥) (λ p r. p ≡ r → ⊥) (in_each a) (ordered_partitions ts k) (partitions_distinct ts k d)
    (λ p m. each_distinct a p (new p m))
    (λ p r m n l u v x y e. l (sym (taken_back a p u (new p m) x) ∙ ap (map (removed a)) e ∙ taken_back a r v (new r n) y))
  where
    new : (p : List (List ℕ)) → Memᴰ p (ordered_partitions ts k) → New a p
    new p m t n l = b a (in_part ts k p m t n a l) refl
