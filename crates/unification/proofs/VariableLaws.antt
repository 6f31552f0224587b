-- The list `variables_of` is rising and holds exactly the variables present: `insert` puts a number in its place, once.
-- By induction on the list, and by cases on how the number compares with the first. Assumes nothing.
use Prim.Native.Nat.{ℕ, zero, suc, ◌+◌, ◌<◌, ◌≤◌}
use mathlib.Core.Bool.{Bool, true, false, cond}
use mathlib.Core.List.Memᴰ
use mathlib.Core.List.{List, [], ◌∷◌, Memᴰ}
use mathlib.Core.Logic.{◌⊎◌, inl, inr}
use mathlib.Core.Path.{◌≡◌, refl, sym, ap}
use native.Mathlib.Omega.{arith}
use borrow.Author.Tests.{ltb-true, ltb-false, eqb-true, eqb-false}
use lib.Dec.{eqb, ltb}
use lib.ListN.{length}
use Rattle.unification.specs.Node.{Node, variable, application, node_at, Present}
use Rattle.unification.specs.Words.{Rising, end, before, AreVariables}
use Rattle.unification.specs.Computed.Variables.{insert, variables_of}
use Rattle.unification.proofs.RisingLaws.{rising_same}

-- what `insert` gives, by how the number compares with the first
data Inserted (x y : ℕ) (ys : List ℕ) : List ℕ → Type 0 where
  ahead : x < y → Inserted x y ys (x ∷ y ∷ ys)
  there : x ≡ y → Inserted x y ys (y ∷ ys)
  after : y < x → Inserted x y ys (y ∷ insert x ys)

inserted : (x y : ℕ) (ys : List ℕ) → Inserted x y ys (insert x (y ∷ ys))
unfolding insert
inserted x y ys = pick (ltb x y) refl (eqb x y) refl
  where
    pick : (a : Bool) → ltb x y ≡ a → (b : Bool) → eqb x y ≡ b →
        Inserted x y ys (cond (ltb x y) (x ∷ y ∷ ys) (cond (eqb x y) (y ∷ ys) (y ∷ insert x ys)))
    pick true p b q = rw p (ahead (ltb-true x y p))
    pick false p true q = rw (p, q) (there (eqb-true x y q))
    pick false p false q =
        let h = ltb-false x y p in
        let d : x ≡ y → ⊥ = eqb-false x y q in
        rw (p, q) (after (omega (arith, h, d)))

insert_from : (x : ℕ) (ys : List ℕ) (z : ℕ) → Memᴰ z (insert x ys) → (z ≡ x) ⊎ Memᴰ z ys
unfolding insert
insert_from x [] z m = Memᴰ.cases_cons m
insert_from x (y ∷ ys) z m = go (insert x (y ∷ ys)) (inserted x y ys) m (insert_from x ys z)
  where
    go : (l : List ℕ) → Inserted x y ys l → Memᴰ z l → (Memᴰ z (insert x ys) → (z ≡ x) ⊎ Memᴰ z ys) → (z ≡ x) ⊎ Memᴰ z (y ∷ ys)
    go l (ahead h) n r = Memᴰ.cases_cons n
    go l (there h) n r = inr n
    go l (after h) (Memᴰ.head e) r = inr (Memᴰ.head e)
    go l (after h) (Memᴰ.tail n) r = deeper (r n)
      where
        deeper : (z ≡ x) ⊎ Memᴰ z ys → (z ≡ x) ⊎ Memᴰ z (y ∷ ys)
        deeper (inl e) = inl e
        deeper (inr k) = inr (Memᴰ.tail k)

insert_here : (x : ℕ) (ys : List ℕ) → Memᴰ x (insert x ys)
unfolding insert
insert_here x [] = Memᴰ.head refl
insert_here x (y ∷ ys) = go (insert x (y ∷ ys)) (inserted x y ys) (insert_here x ys)
  where
    go : (l : List ℕ) → Inserted x y ys l → Memᴰ x (insert x ys) → Memᴰ x l
    go l (ahead h) r = Memᴰ.head refl
    go l (there h) r = Memᴰ.head h
    go l (after h) r = Memᴰ.tail r

insert_keeps : (x : ℕ) (ys : List ℕ) (z : ℕ) → Memᴰ z ys → Memᴰ z (insert x ys)
unfolding insert
insert_keeps x [] z m = absurd (Memᴰ.not-nil m)
insert_keeps x (y ∷ ys) z m = go (insert x (y ∷ ys)) (inserted x y ys) m (insert_keeps x ys z)
  where
    go : (l : List ℕ) → Inserted x y ys l → Memᴰ z (y ∷ ys) → (Memᴰ z ys → Memᴰ z (insert x ys)) → Memᴰ z l
    go l (ahead h) n r = Memᴰ.tail n
    go l (there h) n r = n
    go l (after h) (Memᴰ.head e) r = Memᴰ.head e
    go l (after h) (Memᴰ.tail n) r = Memᴰ.tail (r n)

insert_rises : (x : ℕ) (ys : List ℕ) → Rising ◌<◌ ys → Rising ◌<◌ (insert x ys)
unfolding insert
insert_rises x [] r = before (λ y m. absurd (Memᴰ.not-nil m)) end
insert_rises x (y ∷ ys) r = go (insert x (y ∷ ys)) (inserted x y ys) r (insert_rises x ys)
  where
    go : (l : List ℕ) → Inserted x y ys l → Rising ◌<◌ (y ∷ ys) → (Rising ◌<◌ ys → Rising ◌<◌ (insert x ys)) → Rising ◌<◌ l
    go l (ahead h) (before b s) f = before (λ z m. first z (Memᴰ.cases_cons m)) (before b s)
      where
        first : (z : ℕ) → (z ≡ y) ⊎ Memᴰ z ys → x < z
        first z (inl e) = omega arith
        first z (inr m) = let k = b z m in omega (arith, k)
    go l (there h) s f = s
    go l (after h) (before b s) f = before (λ z m. rest z (insert_from x ys z m)) (f s)
      where
        rest : (z : ℕ) → (z ≡ x) ⊎ Memᴰ z ys → y < z
        rest z (inl e) = omega arith
        rest z (inr m) = b z m

-- the list is rising
pub variables_rise : (ns : List Node) → Rising ◌<◌ (variables_of ns)
unfolding variables_of
variables_rise [] = end
variables_rise (variable x ∷ ns) = insert_rises x (variables_of ns) (variables_rise ns)
variables_rise (application f us ∷ ns) = variables_rise ns

present_later : (n : Node) (ns : List Node) (x : ℕ) → Present ns x → Present (n ∷ ns) x
present_later n ns x p = (suc p.0, omega (arith, p.1), p.2)

-- what the list holds is present
pub variables_present : (ns : List Node) (x : ℕ) → Memᴰ x (variables_of ns) → Present ns x
unfolding variables_of
variables_present [] x m = absurd (Memᴰ.not-nil m)
variables_present (variable y ∷ ns) x m = go (insert_from y (variables_of ns) x m) (variables_present ns x)
  where
    go : (x ≡ y) ⊎ Memᴰ x (variables_of ns) → (Memᴰ x (variables_of ns) → Present ns x) → Present (variable y ∷ ns) x
    go (inl e) r = (0, omega arith, ap variable (sym e))
    go (inr k) r = present_later (variable y) ns x (r k)
variables_present (application f us ∷ ns) x m = present_later (application f us) ns x (variables_present ns x m)

variable_at : (ns : List Node) (x i : ℕ) → i < length ns → node_at ns i ≡ variable x → Memᴰ x (variables_of ns)
unfolding variables_of
variable_at [] x i h e = absurd (omega arith)
variable_at (variable y ∷ ns) x zero h e = let s : y ≡ x = cc in rw s (insert_here x (variables_of ns))
variable_at (application f us ∷ ns) x zero h e = let z : ◌≡◌ {A = ℕ} 0 1 = cc in absurd (omega arith)
variable_at (variable y ∷ ns) x (suc i) h e = insert_keeps y (variables_of ns) x (variable_at ns x i (omega arith) e)
variable_at (application f us ∷ ns) x (suc i) h e = variable_at ns x i (omega arith) e

-- what is present is in the list
pub present_variables : (ns : List Node) (x : ℕ) → Present ns x → Memᴰ x (variables_of ns)
present_variables ns x p = variable_at ns x p.0 p.1 p.2

-- the list is the variables present in rising order
pub variables_are : (ns : List Node) → AreVariables ns (variables_of ns)
variables_are ns =
    record { rising = variables_rise ns; present = λ x. (variables_present ns x, present_variables ns x) }

-- and it is the only such list
pub variables_one : (ns : List Node) (xs : List ℕ) → AreVariables ns xs → xs ≡ variables_of ns
variables_one ns xs v =
    rising_same ◌<◌ (λ x y a b. absurd (omega (arith, a, b))) xs (variables_of ns) v.rising (variables_rise ns)
    (λ x. ((λ m. present_variables ns x ((v.present x).0 m)), (λ m. (v.present x).1 (variables_present ns x m))))

-- rising numbers from a on, all below n, are no more than lie between
rising_few : (n a : ℕ) (xs : List ℕ) → a ≤ n → Rising ◌<◌ xs → ((x : ℕ) → Memᴰ x xs → (a ≤ x) × (x < n)) → a + length xs ≤ n
rising_few n a [] l r h = omega arith
rising_few n a (x ∷ xs) l (before b r) h =
    let f = h x (Memᴰ.head refl) in
    let s = rising_few n (suc x) xs (omega (arith, f)) r (λ y m. (omega (arith, b y m), (h y (Memᴰ.tail m)).1)) in
    omega (arith, f, s)

-- where every variable present is below n, there are at most n
pub variables_few : (ns : List Node) (n : ℕ) → ((x : ℕ) → Present ns x → x < n) → length (variables_of ns) ≤ n
variables_few ns n h =
    let s = rising_few n 0 (variables_of ns) (omega arith) (variables_rise ns) (λ x m. (omega arith, h x (variables_present ns x m))) in
    omega (arith, s)
