-- `first_with` finds the first number with a property: by induction on the list. The numbers below n, in order, are a rising list.
-- So the first node with a property is the least. Assumes nothing.
use Prim.Native.Nat.{ℕ, zero, suc, ◌<◌, ◌≤◌}
use mathlib.Core.Bool.{Bool, true, false, cond, false≢true}
use mathlib.Core.List.Memᴰ
use mathlib.Core.List.{List, [], ◌∷◌, Memᴰ}
use mathlib.Core.Logic.{◌⊎◌, inl, inr}
use mathlib.Core.Path.{◌≡◌, refl, sym, ap}
use native.Mathlib.Omega.{arith}
use borrow.Author.Tests.{eqb-true, eq-eqb}
use lib.ListN.{length}
use Rattle.unification.specs.Node.{Node, variable, application, node_at, tabulate, Present}
use Rattle.unification.specs.Words.{Rising, end, before, Least}
use Rattle.unification.specs.Computed.Solution.{first_with, least_node, is_application, is_variable, is_node_of, node_of}
use Rattle.unification.proofs.ListLaws.{tabulate_member, tabulate_from}
use Rattle.unification.proofs.RisingLaws.{rising_append}

-- what `first_with` gives: the first with the property, or one further on
data First (p : ℕ → Bool) (d x : ℕ) (xs : List ℕ) : ℕ → Type 0 where
  here : p x ≡ true → First p d x xs x
  later : p x ≡ false → First p d x xs (first_with p d xs)

first : (p : ℕ → Bool) (d x : ℕ) (xs : List ℕ) → First p d x xs (first_with p d (x ∷ xs))
unfolding first_with
first p d x xs = pick (p x) refl
  where
    pick : (b : Bool) → p x ≡ b → First p d x xs (cond (p x) x (first_with p d xs))
    pick true e = rw e (here e)
    pick false e = rw e (later e)

-- one that has the property is not the first if the first has it not
further : (p : ℕ → Bool) (x y : ℕ) (ys : List ℕ) → p y ≡ false → p x ≡ true → Memᴰ x (y ∷ ys) → Memᴰ x ys
further p x y ys n h (Memᴰ.head e) = let z : ◌≡◌ {A = ℕ} 0 1 = cc in absurd (omega arith)
further p x y ys n h (Memᴰ.tail m) = m

-- with one that has the property, the first is in the list
pub first_in : (p : ℕ → Bool) (d : ℕ) (xs : List ℕ) (x : ℕ) → Memᴰ x xs → p x ≡ true → Memᴰ (first_with p d xs) xs
first_in p d [] x m h = absurd (Memᴰ.not-nil m)
first_in p d (y ∷ ys) x m h = go (first_with p d (y ∷ ys)) (first p d y ys) (λ n. first_in p d ys x n h)
  where
    go : (w : ℕ) → First p d y ys w → (Memᴰ x ys → Memᴰ (first_with p d ys) ys) → Memᴰ w (y ∷ ys)
    go w (here e) r = Memᴰ.head refl
    go w (later e) r = Memᴰ.tail (r (further p x y ys e h m))

-- with none that has it, it is the number given
first_none : (p : ℕ → Bool) (d : ℕ) (xs : List ℕ) → ((x : ℕ) → Memᴰ x xs → p x ≡ false) → first_with p d xs ≡ d
unfolding first_with
first_none p d [] h = refl
first_none p d (x ∷ xs) h =
    rw (h x (Memᴰ.head refl)) (first_none p d xs (λ y m. h y (Memᴰ.tail m)))

-- and it has the property
pub first_has : (p : ℕ → Bool) (d : ℕ) (xs : List ℕ) (x : ℕ) → Memᴰ x xs → p x ≡ true → p (first_with p d xs) ≡ true
first_has p d [] x m h = absurd (Memᴰ.not-nil m)
first_has p d (y ∷ ys) x m h = go (first_with p d (y ∷ ys)) (first p d y ys) (λ n. first_has p d ys x n h)
  where
    go : (w : ℕ) → First p d y ys w → (Memᴰ x ys → p (first_with p d ys) ≡ true) → p w ≡ true
    go w (here e) r = e
    go w (later e) r = r (further p x y ys e h m)

-- and in a rising list it is the least
pub first_least : (p : ℕ → Bool) (d : ℕ) (xs : List ℕ) → Rising ◌<◌ xs → (x : ℕ) → Memᴰ x xs → p x ≡ true → first_with p d xs ≤ x
first_least p d [] s x m h = absurd (Memᴰ.not-nil m)
first_least p d (y ∷ ys) (before b s) x m h = go (first_with p d (y ∷ ys)) (first p d y ys) (λ n. first_least p d ys s x n h)
  where
    least : (x ≡ y) ⊎ Memᴰ x ys → y ≤ x
    least (inl e) = omega arith
    least (inr n) = let k = b x n in omega (arith, k)

    go : (w : ℕ) → First p d y ys w → (Memᴰ x ys → first_with p d ys ≤ x) → w ≤ x
    go w (here e) r = least (Memᴰ.cases_cons m)
    go w (later e) r = r (further p x y ys e h m)

-- the numbers below n
below : (n i : ℕ) → i < n → Memᴰ i (tabulate n (λ i. i))
below n i h = tabulate_member n (λ i. i) i h

is_below : (n i : ℕ) → Memᴰ i (tabulate n (λ i. i)) → i < n
is_below n i m = let r = tabulate_from n (λ i. i) i m in rw r.2 r.1

numbers_rise : (n : ℕ) → Rising ◌<◌ (tabulate n (λ i. i))
unfolding tabulate
numbers_rise zero = end
numbers_rise (suc n) =
    rising_append ◌<◌ (tabulate n (λ i. i)) (n ∷ []) (numbers_rise n) (before (λ y m. absurd (Memᴰ.not-nil m)) end)
    (λ x y m k. rw (Memᴰ.eq_of_singleton k) (is_below n x m))

-- with a node that has the property, the least is a node
pub least_below : (ns : List Node) (p : ℕ → Bool) (i : ℕ) → i < length ns → p i ≡ true → least_node ns p < length ns
unfolding least_node
least_below ns p i h e = is_below (length ns) (least_node ns p) (first_in p (length ns) _ i (below (length ns) i h) e)

-- and it has the property
pub least_has : (ns : List Node) (p : ℕ → Bool) (i : ℕ) → i < length ns → p i ≡ true → p (least_node ns p) ≡ true
unfolding least_node
least_has ns p i h e = first_has p (length ns) _ i (below (length ns) i h) e

-- and it is the least
pub least_least : (ns : List Node) (p : ℕ → Bool) (i : ℕ) → i < length ns → p i ≡ true → least_node ns p ≤ i
unfolding least_node
least_least ns p i h e = first_least p (length ns) _ (numbers_rise (length ns)) i (below (length ns) i h) e

-- what the test of an application says
pub is_application_lem : (n : Node) → is_application n ≡ true → (f : ℕ) × (us : List ℕ) × (n ≡ application f us)
unfolding is_application
is_application_lem (variable x) h = absurd (false≢true h)
is_application_lem (application f us) h = (f, us, refl)

-- what the test of a variable's node says
pub is_variable_lem : (x : ℕ) (n : Node) → is_variable x n ≡ true → n ≡ variable x
unfolding is_variable
is_variable_lem x (variable y) h = ap variable (sym (eqb-true x y h))
is_variable_lem x (application f us) h = let z : ◌≡◌ {A = ℕ} 0 1 = cc in absurd (omega arith)

-- and the other way round
pub of_variable : (x : ℕ) (n : Node) → n ≡ variable x → is_variable x n ≡ true
unfolding is_variable
of_variable x n e = rw e (eq-eqb x x refl)

-- the least node of a variable that is present
pub node_of_lem : (ns : List Node) (x : ℕ) → Present ns x → Least (λ i. (i < length ns) × (node_at ns i ≡ variable x)) (node_of ns x)
unfolding node_of is_node_of
node_of_lem ns x p =
    record {
      holds = (least_below ns (is_node_of ns x) p.0 p.1 h, is_variable_lem x _ (least_has ns (is_node_of ns x) p.0 p.1 h));
      least = λ m q. least_least ns (is_node_of ns x) m q.0 (of_variable x (node_at ns m) q.1);
    }
  where
    h : is_node_of ns x p.0 ≡ true
    h = of_variable x (node_at ns p.0) p.2

-- a variable that is not present has no node: the number of nodes stands for it
pub node_of_none : (ns : List Node) (x : ℕ) → ((i : ℕ) → i < length ns → node_at ns i ≡ variable x → ⊥) → node_of ns x ≡ length ns
unfolding node_of least_node is_node_of
node_of_none ns x none =
    first_none (is_node_of ns x) (length ns) _ (λ i m. go i (is_below (length ns) i m) (is_node_of ns x i) refl)
  where
    go : (i : ℕ) → i < length ns → (b : Bool) → is_node_of ns x i ≡ b → is_node_of ns x i ≡ false
    go i h true e = absurd (none i h (is_variable_lem x (node_at ns i) e))
    go i h false e = e
