-- `some_below n p` is true exactly if p holds of some number below n. By induction on n. A test of every number of a list holds of
-- each. Assumes nothing.
use Prim.Native.Nat.{ℕ, zero, suc, ◌+◌, ◌<◌, ◌≤◌}
use mathlib.Core.Bool.{Bool, true, false, ◌&&◌, ◌||◌, or-true}
use mathlib.Core.List.{List, [], ◌∷◌, Memᴰ}
use mathlib.Core.Path.{◌≡◌, refl, sym, ap, ◌∙◌}
use mathlib.Core.Logic.{◌↔◌}
use native.Mathlib.Decide.{dec_lt}
use native.Mathlib.Numerals.{add-one}
use native.Mathlib.Omega.{arith}
use lib.ListN.{length, get_or}
use Rattle.std.specs.List.{list_any}
use Rattle.std.proofs.lemmas.List.Elements.{All-from_get_or}
use Rattle.std.proofs.lemmas.List.Folds.{list_any_at, list_any_none}
use Rattle.table.specs.Some.{some_below}
use Rattle.table.proofs.BoolLaws.{or_false_left, or_false_right, or_both_false, and_true_left, and_true_right}

-- found
pub some_here : (p : ℕ → Bool) (i n : ℕ) → i < n → p i ≡ true → some_below n p ≡ true
unfolding some_below
some_here p i zero h e = absurd (omega arith)
some_here p i (suc n) h e = go (λ q. some_here p i n q e) (dec_lt i n)
  where
    go : (i < n → some_below n p ≡ true) → Dec (i < n) → (some_below n p || p n) ≡ true
    go f (yes q) = rw (f q)
    go f (no q) = let s : i ≡ n = omega arith in let f : p n ≡ true = ap p (sym s) ∙ e in rw f (or-true (some_below n p))

-- one more is none
pub some_next : (p : ℕ → Bool) (i : ℕ) → some_below i p ≡ false → p i ≡ false → some_below (i + 1) p ≡ false
unfolding some_below
some_next p i a b = rw add-one (or_both_false (some_below i p) (p i) a b)

-- none at all
pub some_end : (p : ℕ → Bool) (i n : ℕ) → i ≤ n → n ≤ i → some_below i p ≡ false → some_below n p ≡ false
some_end p i n a b e = let s : n ≡ i = omega arith in rw s e

pub some_none : (p : ℕ → Bool) (n : ℕ) → ((i : ℕ) → i < n → p i ≡ false) → some_below n p ≡ false
unfolding some_below
some_none p zero h = refl
some_none p (suc n) h =
    or_both_false (some_below n p) (p n) (some_none p n (λ i q. h i (omega arith))) (h n (omega arith))

pub none_some : (p : ℕ → Bool) (n : ℕ) → some_below n p ≡ false → (i : ℕ) → i < n → p i ≡ false
unfolding some_below
none_some p zero e i h = absurd (omega arith)
none_some p (suc n) e i h =
    go (none_some p n (or_false_left (some_below n p) (p n) e) i) (dec_lt i n)
  where
    go : (i < n → p i ≡ false) → Dec (i < n) → p i ≡ false
    go f (yes q) = f q
    go f (no q) = let s : i ≡ n = omega arith in rw s (or_false_right (some_below n p) (p n) e)

some_found : (p : ℕ → Bool) (n : ℕ) → some_below n p ≡ true → (i : ℕ) × (i < n) × (p i ≡ true)
unfolding some_below
some_found p zero e = let z : ◌≡◌ {A = ℕ} 0 1 = cc in absurd (omega arith)
some_found p (suc n) e = go (some_below n p) refl (some_found p n)
  where
    go : (b : Bool) → some_below n p ≡ b → (some_below n p ≡ true → (i : ℕ) × (i < n) × (p i ≡ true)) → (i : ℕ) × (i < suc n) × (p i ≡ true)
    go true q f = let r = f q in (r.0, omega arith, r.2)
    go false q f = (n, omega arith, rw q at e)

-- the test is true exactly if p holds of some number below n
pub some_means : (p : ℕ → Bool) (n : ℕ) → some_below n p ≡ true ↔ ((i : ℕ) × (i < n) × (p i ≡ true))
some_means p n = (some_found p n, (λ r. some_here p r.0 n r.1 r.2))

-- a test of the elements of a list that is p's at each place is passed by one exactly if p holds of a place
pub some_any : (test p : ℕ → Bool) (xs : List ℕ) → ((i : ℕ) → i < length xs → test (get_or xs i 0) ≡ p i) → list_any test xs ≡ some_below (length xs) p
some_any test p xs h = go (some_below (length xs) p) refl
  where
    go : (b : Bool) → some_below (length xs) p ≡ b → list_any test xs ≡ some_below (length xs) p
    go true e =
        let f = some_found p (length xs) e in
        list_any_at test xs f.0 0 f.1 (h f.0 f.1 ∙ f.2) ∙ sym e
    go false e = list_any_none test xs (All-from_get_or (λ x. test x ≡ false) xs 0 (λ i l. h i l ∙ none_some p (length xs) e i l)) ∙ sym e

-- Every number of a list has the property, as a test that computes.
abbrev pub every : (ℕ → Bool) → List ℕ → Bool
every p [] = true
every p (n ∷ ns) = p n && every p ns

pub every_has : (p : ℕ → Bool) {n : ℕ} {ns : List ℕ} → every p ns ≡ true → Memᴰ n ns → p n ≡ true
every_has p {n} e (Memᴰ.head {x} {xs} q) = ap p q ∙ and_true_left (p x) (every p xs) e
every_has p {n} e (Memᴰ.tail {x} {xs} m) = every_has p (and_true_right (p x) (every p xs) e) m
