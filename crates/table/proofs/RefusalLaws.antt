-- A refusal is given exactly if its condition holds and none before it: laws of any list of conditions, by induction on it, and
-- then of those of a table. Assumes nothing.
use Prim.Native.Nat.{ℕ, suc, ◌<◌}
use mathlib.Core.Bool.{Bool, true, false, not}
use mathlib.Core.Path.{◌≡◌, refl, sym}
use mathlib.Core.Logic.{◌↔◌}
use mathlib.Core.List.{List, [], ◌∷◌, ◌++◌, map, Memᴰ}
use native.Mathlib.Omega.{arith}
use borrow.Author.Tests.{ltb-true, eqb-false, not-true}
use lib.Dec.{eqb, ltb}
use lib.ListN.{drop}
use Rattle.table.specs.Refusal.{conditions, first_held, refusal}
use Rattle.table.proofs.BoolLaws.{and_true_left, and_true_right}
use Rattle.table.proofs.SomeLaws.{every, every_has}

-- Condition n holds and none before it; for n = 0, none holds.
pub data First (n : ℕ) : List (ℕ × Bool) → Type 0 where
  here : {c : ℕ × Bool} {cs : List (ℕ × Bool)} → c.0 ≡ n → c.1 ≡ true → First n (c ∷ cs)
  later : {c : ℕ × Bool} {cs : List (ℕ × Bool)} → c.1 ≡ false → First n cs → First n (c ∷ cs)
  none : n ≡ 0 → First n []

first_held_lem : (n : ℕ) {cs : List (ℕ × Bool)} → First n cs → first_held cs ≡ n
unfolding first_held
first_held_lem n (here e h) = rw h e
first_held_lem n (later h f) = rw h (first_held_lem n f)
first_held_lem n (none e) = sym e

held_first : (n : ℕ) (cs : List (ℕ × Bool)) → first_held cs ≡ n → First n cs
unfolding first_held
held_first n [] e = none (sym e)
held_first n (c ∷ cs) e = pick c.1 refl (held_first n cs)
  where
    pick : (b : Bool) → c.1 ≡ b → (first_held cs ≡ n → First n cs) → First n (c ∷ cs)
    pick true h f = here (rw h at e) h
    pick false h f = later h (f (rw h at e))

-- the number is n exactly if condition n holds and none before it
pub first_means : (n : ℕ) (cs : List (ℕ × Bool)) → first_held cs ≡ n ↔ First n cs
first_means n cs = (held_first n cs, first_held_lem n)

-- The numbers of conditions.
abbrev pub condition_numbers : List (ℕ × Bool) → List ℕ
condition_numbers cs = map (λ (c : ℕ × Bool). c.0) cs

number_first : {n : ℕ} {cs : List (ℕ × Bool)} → First n cs → Memᴰ n (0 ∷ condition_numbers cs)
number_first (here e h) = Memᴰ.tail (Memᴰ.head (sym e))
number_first (later h f) = one_more (number_first f)
  where
    one_more : {n m : ℕ} {ms : List ℕ} → Memᴰ n (0 ∷ ms) → Memᴰ n (0 ∷ m ∷ ms)
    one_more (Memᴰ.head e) = Memᴰ.head e
    one_more (Memᴰ.tail i) = Memᴰ.tail (Memᴰ.tail i)
number_first (none e) = Memᴰ.head e

-- the number of the first that holds is 0 or one of theirs
pub held_number : (cs : List (ℕ × Bool)) → Memᴰ (first_held cs) (0 ∷ condition_numbers cs)
held_number cs = number_first (held_first (first_held cs) cs refl)

-- and so it has what 0 and all of theirs have
pub held_has : (p : ℕ → Bool) (cs : List (ℕ × Bool)) → every p (0 ∷ condition_numbers cs) ≡ true → p (first_held cs) ≡ true
held_has p cs e = every_has p e (held_number cs)

-- a condition that holds comes before all that are added
pub first_before : {n : ℕ} {cs : List (ℕ × Bool)} (ds : List (ℕ × Bool)) → 0 < n → First n cs → First n (cs ++ ds)
first_before ds h (here e q) = here e q
first_before ds h (later q f) = later q (first_before ds h f)
first_before ds h (none e) = absurd (omega arith)

-- Conditions with numbers above 0.
abbrev pub Numbered : List (ℕ × Bool) → Type 0
Numbered cs = every (ltb 0) (condition_numbers cs) ≡ true

above : (c : ℕ × Bool) (cs : List (ℕ × Bool)) → Numbered (c ∷ cs) → 0 < c.0
above c cs a = ltb-true 0 c.0 (and_true_left (ltb 0 c.0) (every (ltb 0) (condition_numbers cs)) a)

others : (c : ℕ × Bool) (cs : List (ℕ × Bool)) → Numbered (c ∷ cs) → Numbered cs
others c cs a = and_true_right (ltb 0 c.0) (every (ltb 0) (condition_numbers cs)) a

-- where none of them holds, the first that holds is among those that are added
pub first_after : {n : ℕ} (cs ds : List (ℕ × Bool)) → Numbered cs → First 0 cs → First n ds → First n (cs ++ ds)
first_after [] ds a z f = f
first_after (c ∷ cs) ds a (here e h) f = absurd (omega (arith, above c cs a, e))
first_after (c ∷ cs) ds a (later h z) f = later h (first_after cs ds (others c cs a) z f)

none_apart : (cs ds : List (ℕ × Bool)) → Numbered cs → First 0 (cs ++ ds) → First 0 cs × First 0 ds
none_apart [] ds a z = (none refl, z)
none_apart (c ∷ cs) ds a (here e h) = absurd (omega (arith, above c cs a, e))
none_apart (c ∷ cs) ds a (later h z) = let r = none_apart cs ds (others c cs a) z in (later h r.0, r.1)

-- none of two lists holds exactly if none of either does
pub none_both : (cs ds : List (ℕ × Bool)) → Numbered cs → First 0 (cs ++ ds) ↔ (First 0 cs × First 0 ds)
none_both cs ds a = (none_apart cs ds a, λ z. first_after cs ds a z.0 z.1)

-- and where none holds, the first does not, and none of the others
pub pass : {n : ℕ} {b : Bool} {cs : List (ℕ × Bool)} → First 0 ((suc n, b) ∷ cs) → (b ≡ false) × First 0 cs
pass (here e h) = absurd (omega arith)
pass (later h f) = (h, f)

-- refusal n is given exactly if condition n holds and none before it
pub refused : (t : List ℕ) (n : ℕ) → refusal t ≡ n ↔ First n (conditions t)
unfolding refusal
refused t n = first_means n (conditions t)

-- "Each number is tried over the whole table before the next.": from 1 to 7
pub conditions_rise : (t : List ℕ) → condition_numbers (conditions t) ≡ 1 ∷ 2 ∷ 3 ∷ 4 ∷ 5 ∷ 6 ∷ 7 ∷ []
unfolding conditions
conditions_rise t = refl

pub conditions_numbered : (t : List ℕ) → Numbered (conditions t)
unfolding conditions
conditions_numbered t = refl

-- checking a table gives no number but 0 and those of its conditions, so none of the refusals that other operations add
pub refusal_not : (t : List ℕ) (n : ℕ) → every (λ (m : ℕ). not (eqb m n)) (0 ∷ condition_numbers (conditions t)) ≡ true → refusal t ≡ n → ⊥
unfolding refusal
refusal_not t n e = eqb-false (refusal t) n (not-true _ (held_has (λ (m : ℕ). not (eqb m n)) (conditions t) e))

-- neither 8 nor 9
pub refusal_own : (t : List ℕ) → (refusal t ≡ 8 → ⊥) × (refusal t ≡ 9 → ⊥)
unfolding conditions
refusal_own t = (refusal_not t 8 refl, refusal_not t 9 refl)

-- the step from one condition to the next
pub not_held : (c : ℕ × Bool) (cs : List (ℕ × Bool)) → c.1 ≡ false → first_held (c ∷ cs) ≡ first_held cs
unfolding first_held
not_held c cs h = rw h

pub held : (c : ℕ × Bool) (cs : List (ℕ × Bool)) → c.1 ≡ true → first_held (c ∷ cs) ≡ c.0
unfolding first_held
held c cs h = rw h

-- None of the first k conditions holds.
abbrev pub Passed : ℕ → List (ℕ × Bool) → Type 0
Passed k cs = first_held cs ≡ first_held (drop k cs)
