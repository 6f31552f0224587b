-- Choices digit by digit, in the order in which they are walked, and that these are document 01's choices.
-- By induction on the number of digits, with the left digits so far kept in a list: only what is in it matters. Assumes nothing.
use Prim.Native.Nat.{ℕ, zero, suc, ◌+◌, ◌<◌, ◌≤◌}
use mathlib.Core.List.Memᴰ
use mathlib.Core.List.{List, [], ◌∷◌, Memᴰ}
use mathlib.Core.Logic.{◌⊎◌, inl, inr, ◌↔◌}
use mathlib.Core.Path.{◌≡◌, refl, sym}
use native.Mathlib.Decide.{ℕ_discrete, dec_lt}
use native.Mathlib.Omega.{arith}
use lib.ListN.{length}
use Rattle.table.specs.Layout.{word}
use Rattle.multiset_unification.specs.Choice.{IsChoice}

-- The digits of r right terms from place j on, where the left digits are in used.
pub data IsRights (k : ℕ) (used : List ℕ) : ℕ → ℕ → List ℕ → Type 0 where
  none : {j : ℕ} → IsRights k used j 0 []
  paired : {j r : ℕ} {ds : List ℕ} → Memᴰ (suc j) used → IsRights k used (suc j) r ds → IsRights k used j (suc r) (0 ∷ ds)
  placed : {j r d : ℕ} {ds : List ℕ} → (Memᴰ (suc j) used → ⊥) → 0 < d → d ≤ k → IsRights k used (suc j) r ds → IsRights k used j (suc r) (d ∷ ds)

-- The digits of n more left terms, after those in used, and then of all m right terms.
pub data IsLefts (m k l : ℕ) : List ℕ → ℕ → List ℕ → Type 0 where
  last : {used ds : List ℕ} → IsRights k used 0 m ds → IsLefts m k l used 0 ds
  next : {used ds : List ℕ} {n d : ℕ} → 0 < d → d ≤ m + l → (d ≤ m → Memᴰ d used → ⊥) → IsLefts m k l (d ∷ used) n ds →
      IsLefts m k l used (suc n) (d ∷ ds)

-- What `IsRights` says, of all places at once.
record Rights (k : ℕ) (used : List ℕ) (j r : ℕ) (ds : List ℕ) : Type 0 where
  pub long : length ds ≡ r
  pub range : (i : ℕ) → i < r → word ds i ≤ k
  pub nought : (i q : ℕ) → i < r → q ≡ j + i → word ds i ≡ 0 ↔ Memᴰ (suc q) used

more_rights : (k : ℕ) (used : List ℕ) (j r d : ℕ) (ds : List ℕ) → d ≤ k → d ≡ 0 ↔ Memᴰ (suc j) used → Rights k used (suc j) r ds →
    Rights k used j (suc r) (d ∷ ds)
more_rights k used j r d ds h e s =
    record { long = let l = s.long in omega (arith, l); range = range; nought = nought }
  where
    range : (i : ℕ) → i < suc r → word (d ∷ ds) i ≤ k
    range zero b = h
    range (suc i) b = s.range i (omega arith)

    nought : (i q : ℕ) → i < suc r → q ≡ j + i → word (d ∷ ds) i ≡ 0 ↔ Memᴰ (suc q) used
    nought zero q b p = let z : q ≡ j = omega arith in rw z e
    nought (suc i) q b p = s.nought i q (omega arith) (omega arith)

less_rights : (k : ℕ) (used : List ℕ) (j r d : ℕ) (ds : List ℕ) → Rights k used j (suc r) (d ∷ ds) → Rights k used (suc j) r ds
less_rights k used j r d ds s =
    record {
      long = let l = s.long in omega (arith, l);
      range = λ i b. s.range (suc i) (omega arith);
      nought = λ i q b p. s.nought (suc i) q (omega arith) (omega arith);
    }

to_rights : {k : ℕ} {used : List ℕ} {j r : ℕ} {ds : List ℕ} → IsRights k used j r ds → Rights k used j r ds
to_rights none = record { long = refl; range = λ i b. absurd (omega arith); nought = λ i q b p. absurd (omega arith) }
to_rights {k} {used = used} (paired {j} {r} {ds} m s) = more_rights k used j r 0 ds (omega arith) ((λ e. m), (λ n. refl)) (to_rights s)
to_rights {k} {used = used} (placed {j} {r} {d} {ds} n p b s) =
    more_rights k used j r d ds b ((λ e. absurd (omega arith)), (λ m. absurd (n m))) (to_rights s)

from_rights : (k : ℕ) (used : List ℕ) (j r : ℕ) (ds : List ℕ) → Rights k used j r ds → IsRights k used j r ds
from_rights k used j zero [] s = none
from_rights k used j zero (d ∷ ds) s = let l = s.long in absurd (omega (arith, l))
from_rights k used j (suc r) [] s = let l = s.long in absurd (omega (arith, l))
from_rights k used j (suc r) (d ∷ ds) s = go (ℕ_discrete d 0) (from_rights k used (suc j) r ds (less_rights k used j r d ds s))
  where
    go : Dec (d ≡ 0) → IsRights k used (suc j) r ds → IsRights k used j (suc r) (d ∷ ds)
    go (yes e) t = rw e (paired ((s.nought 0 j (omega arith) (omega arith)).0 e) t)
    go (no n) t = placed {d = d} (λ m. n ((s.nought 0 j (omega arith) (omega arith)).1 m)) (omega arith) (s.range 0 (omega arith)) t

-- One of n left terms has digit d.
abbrev Given : ℕ → List ℕ → ℕ → Type 0
Given n ds d = (i : ℕ) × (i < n) × (word ds i ≡ d)

-- One of n left terms has digit d, or one before them has.
abbrev Taken : List ℕ → ℕ → List ℕ → ℕ → Type 0
Taken used n ds d = Memᴰ d used ⊎ Given n ds d

-- the first left term may be counted with those before
taken_first : (used : List ℕ) (n d : ℕ) (ds : List ℕ) (e : ℕ) → Taken used (suc n) (d ∷ ds) e ↔ Taken (d ∷ used) n ds e
taken_first used n d ds e = (there, back_to)
  where
    there : Taken used (suc n) (d ∷ ds) e → Taken (d ∷ used) n ds e
    there (inl u) = inl (Memᴰ.tail u)
    there (inr (zero, b, q)) = inl (Memᴰ.head (sym q))
    there (inr (suc i, b, q)) = inr (i, omega arith, q)

    back_to : Taken (d ∷ used) n ds e → Taken used (suc n) (d ∷ ds) e
    back_to (inl (Memᴰ.head q)) = inr (0, omega arith, sym q)
    back_to (inl (Memᴰ.tail u)) = inl u
    back_to (inr (i, b, q)) = inr (suc i, omega arith, q)

-- where there are no more left terms, it is one before them
taken_before : (used ds : List ℕ) (d : ℕ) → Taken used 0 ds d → Memᴰ d used
taken_before used ds d (inl u) = u
taken_before used ds d (inr (i, b, q)) = absurd (omega arith)

-- What `IsLefts` says, of all places at once.
record Lefts (m k l : ℕ) (used : List ℕ) (n : ℕ) (ds : List ℕ) : Type 0 where
  pub long : length ds ≡ n + m
  pub left_range : (i : ℕ) → i < n → (0 < word ds i) × (word ds i ≤ m + l)
  pub right_range : (j p : ℕ) → j < m → p ≡ n + j → word ds p ≤ k
  pub new : (i : ℕ) → i < n → word ds i ≤ m → Memᴰ (word ds i) used → ⊥
  pub once : (i i' : ℕ) → i < i' → i' < n → word ds i ≡ word ds i' → m < word ds i
  pub nought : (j p : ℕ) → j < m → p ≡ n + j → word ds p ≡ 0 ↔ Taken used n ds (suc j)

no_lefts : (m k l : ℕ) (used ds : List ℕ) → Rights k used 0 m ds → Lefts m k l used 0 ds
no_lefts m k l used ds s =
    record {
      long = let e = s.long in omega (arith, e);
      left_range = λ i b. absurd (omega arith);
      right_range = λ j p b e. s.range p (omega arith);
      new = λ i b. absurd (omega arith);
      once = λ i i' a b. absurd (omega arith);
      nought = λ j p b e. let x = s.nought p j (omega arith) (omega arith) in ((λ z. inl (x.0 z)), (λ u. x.1 (taken_before used ds (suc j) u)));
    }

only_rights : (m k l : ℕ) (used ds : List ℕ) → Lefts m k l used 0 ds → Rights k used 0 m ds
only_rights m k l used ds s =
    record {
      long = let e = s.long in omega (arith, e);
      range = λ i b. s.right_range i i b (omega arith);
      nought = λ i q b e. let x = s.nought q i (omega arith) (omega arith) in ((λ z. taken_before used ds (suc q) (x.0 z)), (λ u. x.1 (inl u)));
    }

more_lefts : (m k l : ℕ) (used : List ℕ) (n d : ℕ) (ds : List ℕ) → 0 < d → d ≤ m + l → (d ≤ m → Memᴰ d used → ⊥) → Lefts m k l (d ∷ used) n ds →
    Lefts m k l used (suc n) (d ∷ ds)
more_lefts m k l used n d ds pos top fresh s =
    record {
      long = let e = s.long in omega (arith, e);
      left_range = left_range;
      right_range = right_range;
      new = new;
      once = once;
      nought = nought;
    }
  where
    left_range : (i : ℕ) → i < suc n → (0 < word (d ∷ ds) i) × (word (d ∷ ds) i ≤ m + l)
    left_range zero b = (pos, top)
    left_range (suc i) b = s.left_range i (omega arith)

    right_range : (j p : ℕ) → j < m → p ≡ suc n + j → word (d ∷ ds) p ≤ k
    right_range j zero b e = absurd (omega arith)
    right_range j (suc p) b e = s.right_range j p b (omega arith)

    new : (i : ℕ) → i < suc n → word (d ∷ ds) i ≤ m → Memᴰ (word (d ∷ ds) i) used → ⊥
    new zero b h u = fresh h u
    new (suc i) b h u = s.new i (omega arith) h (Memᴰ.tail u)

    once : (i i' : ℕ) → i < i' → i' < suc n → word (d ∷ ds) i ≡ word (d ∷ ds) i' → m < word (d ∷ ds) i
    once i zero a b e = absurd (omega arith)
    once zero (suc i') a b e = go (dec_lt m d)
      where
        go : Dec (m < d) → m < d
        go (yes q) = q
        go (no q) = absurd (s.new i' (omega arith) (omega arith) (Memᴰ.head (sym e)))
    once (suc i) (suc i') a b e = s.once i i' (omega arith) (omega arith) e

    nought : (j p : ℕ) → j < m → p ≡ suc n + j → word (d ∷ ds) p ≡ 0 ↔ Taken used (suc n) (d ∷ ds) (suc j)
    nought j zero b e = absurd (omega arith)
    nought j (suc p) b e =
        let x = s.nought j p b (omega arith) in
        let y = taken_first used n d ds (suc j) in
        ((λ z. y.1 (x.0 z)), (λ u. x.1 (y.0 u)))

less_lefts : (m k l : ℕ) (used : List ℕ) (n d : ℕ) (ds : List ℕ) → Lefts m k l used (suc n) (d ∷ ds) → Lefts m k l (d ∷ used) n ds
less_lefts m k l used n d ds s =
    record {
      long = let e = s.long in omega (arith, e);
      left_range = λ i b. s.left_range (suc i) (omega arith);
      right_range = λ j p b e. s.right_range j (suc p) b (omega arith);
      new = new;
      once = λ i i' a b e. s.once (suc i) (suc i') (omega arith) (omega arith) e;
      nought = λ j p b e.
          let x = s.nought j (suc p) b (omega arith) in
          let y = taken_first used n d ds (suc j) in
          ((λ z. y.0 (x.0 z)), (λ u. x.1 (y.1 u)));
    }
  where
    new : (i : ℕ) → i < n → word ds i ≤ m → Memᴰ (word ds i) (d ∷ used) → ⊥
    new i b h (Memᴰ.head e) =
        let o : m < d = s.once 0 (suc i) (omega arith) (omega arith) (sym e) in
        omega (arith, o, h, e)
    new i b h (Memᴰ.tail u) = s.new (suc i) (omega arith) h u

to_lefts : {m k l n : ℕ} {used ds : List ℕ} → IsLefts m k l used n ds → Lefts m k l used n ds
to_lefts {m} {k} {l} (last {used} {ds} s) = no_lefts m k l used ds (to_rights s)
to_lefts {m} {k} {l} (next {used} {ds} {n} {d} a b c s) = more_lefts m k l used n d ds a b c (to_lefts s)

from_lefts : (m k l : ℕ) (used : List ℕ) (n : ℕ) (ds : List ℕ) → Lefts m k l used n ds → IsLefts m k l used n ds
from_lefts m k l used zero ds s = last (from_rights k used 0 m ds (only_rights m k l used ds s))
from_lefts m k l used (suc n) [] s = let e = s.long in absurd (omega (arith, e))
from_lefts m k l used (suc n) (d ∷ ds) s =
    let b = s.left_range 0 (omega arith) in
    next b.0 b.1 (s.new 0 (omega arith)) (from_lefts m k l (d ∷ used) n ds (less_lefts m k l used n d ds s))

-- the digits of a choice are those that the walk meets
pub choice_digits : (n m k l : ℕ) (ds : List ℕ) → IsChoice n m k l ds ↔ IsLefts m k l [] n ds
choice_digits n m k l ds = ((λ c. from_lefts m k l [] n ds (there c)), (λ s. back_to (to_lefts s)))
  where
    given : (j : ℕ) → Taken [] n ds (suc j) → Given n ds (suc j)
    given j (inl u) = absurd (Memᴰ.not-nil u)
    given j (inr g) = g

    there : IsChoice n m k l ds → Lefts m k l [] n ds
    there c =
        record {
          long = c.long;
          left_range = c.left_digits;
          right_range = λ j p b e. rw e (c.right_digits j b);
          new = λ i b h u. Memᴰ.not-nil u;
          once = c.once;
          nought = λ j p b e. rw e ((λ z. inr ((c.paired j b).0 z)), (λ u. (c.paired j b).1 (given j u)));
        }

    back_to : Lefts m k l [] n ds → IsChoice n m k l ds
    back_to s =
        record {
          long = s.long;
          left_digits = s.left_range;
          right_digits = λ j b. s.right_range j (n + j) b refl;
          once = s.once;
          paired = λ j b. let x = s.nought j (n + j) b refl in ((λ z. given j (x.0 z)), (λ g. x.1 (inr g)));
        }
