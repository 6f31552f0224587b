-- Choosing c elements of a list: each way to split it is among the choices, each choice is such a way, and none stands twice.
-- By induction on the list. The choices with its first element come before those without it. Assumes nothing.
use Prim.Native.Nat.{ℕ, zero, suc, ◌<◌}
use mathlib.Core.List.Memᴰ
use mathlib.Core.List.{List, [], ◌∷◌, map, Memᴰ}
use mathlib.Core.Logic.{◌⊎◌, inl, inr}
use mathlib.Core.Path.{◌≡◌, refl, sym, ap}
use native.Mathlib.Omega.{arith}
use lib.ListN.{length}
use Rattle.unification.specs.Words.{Rising, end, before}
use Rattle.unification.proofs.RisingLaws.{rising_append, rising_map}
use Rattle.algorithms.specs.Algorithms.{choose}
use Rattle.algorithms.specs.Code.Placing.{Distinct, Split, none, chosen, left, Apart}

-- what is chosen is in the list
pub chosen_in : {F T R : List ℕ} → Split F T R → (x : ℕ) → Memᴰ x T → Memᴰ x F
chosen_in none x m = m
chosen_in (chosen s) x (Memᴰ.head e) = Memᴰ.head e
chosen_in (chosen s) x (Memᴰ.tail m) = Memᴰ.tail (chosen_in s x m)
chosen_in (left s) x m = Memᴰ.tail (chosen_in s x m)

-- so is what is left
pub left_in_lem : {F T R : List ℕ} → Split F T R → (x : ℕ) → Memᴰ x R → Memᴰ x F
left_in_lem none x m = m
left_in_lem (chosen s) x m = Memᴰ.tail (left_in_lem s x m)
left_in_lem (left s) x (Memᴰ.head e) = Memᴰ.head e
left_in_lem (left s) x (Memᴰ.tail m) = Memᴰ.tail (left_in_lem s x m)

-- without repeats, if the list has none
pub chosen_distinct : {F T R : List ℕ} → Split F T R → Distinct F → Distinct T
chosen_distinct none d = end
chosen_distinct (chosen s) (before b d) = before (λ x m. b x (chosen_in s x m)) (chosen_distinct s d)
chosen_distinct (left s) (before b d) = chosen_distinct s d

pub left_distinct : {F T R : List ℕ} → Split F T R → Distinct F → Distinct R
left_distinct none d = end
left_distinct (chosen s) (before b d) = left_distinct s d
left_distinct (left s) (before b d) = before (λ x m. b x (left_in_lem s x m)) (left_distinct s d)

-- all can be left
left_all : (F : List ℕ) → Split F [] F
left_all [] = none
left_all (a ∷ F) = left (left_all F)

-- and are, if none is chosen
none_chosen : {F R : List ℕ} → Split F [] R → R ≡ F
none_chosen none = refl
none_chosen (left {a = a} s) = ap (a ∷◌) (none_chosen s)

-- A first element that is chosen.
abbrev with : ℕ → List ℕ × List ℕ → List ℕ × List ℕ
with a p = (a ∷ p.0, p.1)

-- One that is left.
abbrev without : ℕ → List ℕ × List ℕ → List ℕ × List ℕ
without a p = (p.0, a ∷ p.1)

-- every way to split the list is among the choices
pub in_choose : {F T R : List ℕ} → Split F T R → Memᴰ (T, R) (choose F (length T))
unfolding choose
in_choose none = Memᴰ.head refl
in_choose (chosen {a = a} s) = Memᴰ.append_left _ (Memᴰ.map (with a) (in_choose s))
in_choose (left {a = a} {F = F} {T = []} s) = Memᴰ.head (ap (λ (R : List ℕ). ([], a ∷ R)) (none_chosen s))
in_choose (left {a = a} {F = F} {T = t ∷ T} s) = Memᴰ.append_right (map (with a) (choose F (length T))) (Memᴰ.map (without a) (in_choose s))

-- each choice is such a way, with c elements chosen
pub choose_from : (F : List ℕ) (c : ℕ) (T R : List ℕ) → Memᴰ (T, R) (choose F c) → Split F T R × (length T ≡ c)
unfolding choose
choose_from F zero T R m =
    let e : ◌≡◌ {A = List ℕ × List ℕ} (T, R) ([], F) = Memᴰ.eq_of_singleton m in
    let t : T ≡ [] = ap (λ (p : List ℕ × List ℕ). p.0) e in
    let r : R ≡ F = ap (λ (p : List ℕ × List ℕ). p.1) e in
    rw (t, r) (left_all F, refl)
choose_from [] (suc c) T R m = absurd (Memᴰ.not-nil m)
choose_from (a ∷ F) (suc c) T R m = go (λ T' R' n. choose_from F c T' R' n) (λ T' R' n. choose_from F (suc c) T' R' n)
    (Memᴰ.append_cases (map (with a) (choose F c)) m)
  where
    first : (p : List ℕ × List ℕ) → with a p ≡ (T, R) → Split F p.0 p.1 × (length p.0 ≡ c) → Split (a ∷ F) T R × (length T ≡ suc c)
    first p e s =
        let t : T ≡ a ∷ p.0 = sym (ap (λ (q : List ℕ × List ℕ). q.0) e) in
        let r : R ≡ p.1 = sym (ap (λ (q : List ℕ × List ℕ). q.1) e) in
        rw (t, r) (chosen s.0, ap suc s.1)

    second : (p : List ℕ × List ℕ) → without a p ≡ (T, R) → Split F p.0 p.1 × (length p.0 ≡ suc c) → Split (a ∷ F) T R × (length T ≡ suc c)
    second p e s =
        let t : T ≡ p.0 = sym (ap (λ (q : List ℕ × List ℕ). q.0) e) in
        let r : R ≡ a ∷ p.1 = sym (ap (λ (q : List ℕ × List ℕ). q.1) e) in
        rw (t, r) (left s.0, s.1)

    go : ((T' R' : List ℕ) → Memᴰ (T', R') (choose F c) → Split F T' R' × (length T' ≡ c)) →
        ((T' R' : List ℕ) → Memᴰ (T', R') (choose F (suc c)) → Split F T' R' × (length T' ≡ suc c)) →
        Memᴰ (T, R) (map (with a) (choose F c)) ⊎ Memᴰ (T, R) (map (without a) (choose F (suc c))) → Split (a ∷ F) T R × (length T ≡ suc c)
    go f g (inl n) = let s = Memᴰ.of_map (with a) (choose F c) n in first s.0 s.2 (f s.0.0 s.0.1 s.1)
    go f g (inr n) = let s = Memᴰ.of_map (without a) (choose F (suc c)) n in second s.0 s.2 (g s.0.0 s.0.1 s.1)

-- and none stands twice
pub choose_apart : (F : List ℕ) (c : ℕ) → Distinct F → Rising Apart (choose F c)
unfolding choose
choose_apart F zero d = before (λ y m. absurd (Memᴰ.not-nil m)) end
choose_apart [] (suc c) d = end
choose_apart (a ∷ F) (suc c) (before b d) =
    rising_append Apart (map (with a) (choose F c)) (map (without a) (choose F (suc c)))
    (rising_map Apart Apart (with a) (choose F c) (λ x y m n r. kept x y m r) (choose_apart F c d))
    (rising_map Apart Apart (without a) (choose F (suc c)) (λ x y m n r. r) (choose_apart F (suc c) d))
    (λ x y m n. across x y (Memᴰ.of_map (with a) (choose F c) m) (Memᴰ.of_map (without a) (choose F (suc c)) n))
  where
    other : (k : ℕ) (x : List ℕ × List ℕ) → Memᴰ x (choose F k) → Memᴰ a x.0 → ⊥
    other k x m n = b a (chosen_in (choose_from F k x.0 x.1 m).0 a n) refl

    kept : (x y : List ℕ × List ℕ) → Memᴰ x (choose F c) → Apart x y → Apart (with a x) (with a y)
    kept x y m (z, p, q) = (z, Memᴰ.tail p, not)
      where
        not : Memᴰ z (a ∷ y.0) → ⊥
        not (Memᴰ.head e) = other c x m (Memᴰ.cast (sym e) p)
        not (Memᴰ.tail n) = q n

    across : (x y : List ℕ × List ℕ) → (p : List ℕ × List ℕ) × Memᴰ p (choose F c) × (with a p ≡ x) → (p : List ℕ × List ℕ) ×
        Memᴰ p (choose F (suc c)) × (without a p ≡ y) → Apart x y
    across x y (p, m, e) (q, n, f) = rw (← e, ← f) (a, Memᴰ.head refl, other (suc c) q n)

-- there is no way to choose more than there are
choose_over : (F : List ℕ) (c : ℕ) → length F < c → choose F c ≡ []
unfolding choose
choose_over F zero h = absurd (omega arith)
choose_over [] (suc c) h = refl
choose_over (a ∷ F) (suc c) h = rw (choose_over F c (omega arith), choose_over F (suc c) (omega arith))

-- all can be chosen in one way
pub choose_all : (F : List ℕ) → choose F (length F) ≡ (F, []) ∷ []
unfolding choose
choose_all [] = refl
choose_all (a ∷ F) = rw (choose_all F, choose_over F (suc (length F)) (omega arith))
