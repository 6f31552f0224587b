-- Laws of lists that the definitions are made of, `tabulate`, `gather`, `zip`, and of what stands at places. By induction.
-- Assumes nothing.
use Prim.Native.Nat.{ℕ, zero, suc, ◌-◌, ◌<◌, ◌≤◌}
use mathlib.Core.List.Memᴰ
use mathlib.Core.List.{List, [], ◌∷◌, ◌++◌, Memᴰ, zip, zip_with, map}
use mathlib.Core.Logic.{◌⊎◌, inl, inr, ◌↔◌}
use mathlib.Core.Path.{◌≡◌, refl, ap, ◌∙◌}
use native.Mathlib.Decide.{dec_lt}
use native.Mathlib.Omega.{arith}
use lib.ListN.{length, get_or, take, replicate, length-append, get_or-append}
use lib.Seq.{get_or_at, take-length, length-take-le}
use Rattle.table.specs.Limits.{max_nodes}
use Rattle.unification.specs.Node.{tabulate}
use Rattle.unification.specs.Computed.Classes.{gather}

-- a list of no length is empty
pub length_none : {A : Type 0} (xs : List A) → length xs ≡ 0 → xs ≡ []
length_none [] e = refl
length_none (x ∷ xs) e = absurd (omega arith)

-- functions that agree on the elements make one list of them
pub map_same : {A B : Type 0} (f g : A → B) (xs : List A) → ((x : A) → Memᴰ x xs → f x ≡ g x) → map f xs ≡ map g xs
map_same f g [] h = refl
map_same f g (x ∷ xs) h =
    rw (h x (Memᴰ.head refl), map_same f g xs (λ y m. h y (Memᴰ.tail m)))

-- as many as the numbers below n
pub tabulate_length : {A : Type 0} (n : ℕ) (f : ℕ → A) → length (tabulate n f) ≡ n
unfolding tabulate
tabulate_length zero f = refl
tabulate_length (suc n) f =
    let e : length (tabulate n f) ≡ n = tabulate_length n f in
    let l = length-append (tabulate n f) (f n ∷ []) in
    omega (arith, e, l)

-- each at its place
pub tabulate_at : {A : Type 0} (n : ℕ) (f : ℕ → A) (d : A) (i : ℕ) → i < n → get_or (tabulate n f) i d ≡ f i
unfolding tabulate
tabulate_at zero f d i h = absurd (omega arith)
tabulate_at {A} (suc n) f d i h = go (tabulate_at n f d i) (dec_lt i n)
  where
    go : (i < n → get_or (tabulate n f) i d ≡ f i) → Dec (i < n) → get_or (tabulate n f ++ (f n ∷ [])) i d ≡ f i
    go r (yes q) = get_or-append (tabulate n f) (f n ∷ []) d i (rw (tabulate_length n f) q) ∙ r q
    go r (no q) =
        let e : n ≡ i = omega arith in
        get_or_at (tabulate n f) (f n) [] d i (tabulate_length n f ∙ e) ∙ ap f e

-- the first apart from the others
pub tabulate_first : {A : Type 0} (n : ℕ) (f : ℕ → A) → tabulate (suc n) f ≡ f 0 ∷ tabulate n (λ i. f (suc i))
unfolding tabulate
tabulate_first zero f = refl
tabulate_first {A} (suc n) f = ap (λ (xs : List A). xs ++ (f (suc n) ∷ [])) (tabulate_first n f)

-- functions that agree below n make one list
pub tabulate_same : {A : Type 0} (n : ℕ) (f g : ℕ → A) → ((i : ℕ) → i < n → f i ≡ g i) → tabulate n f ≡ tabulate n g
unfolding tabulate
tabulate_same zero f g h = refl
tabulate_same (suc n) f g h = rw (tabulate_same n f g (λ i q. h i (omega arith)), h n (omega arith)) refl

-- what is in one of the lists is in all of them
pub gathered : {A : Type 0} (n : ℕ) (f : ℕ → List A) (x : A) (i : ℕ) → i < n → Memᴰ x (f i) → Memᴰ x (gather n f)
unfolding gather
gathered zero f x i h m = absurd (omega arith)
gathered {A} (suc n) f x i h m = go (λ q. gathered n f x i q m) (dec_lt i n)
  where
    go : (i < n → Memᴰ x (gather n f)) → Dec (i < n) → Memᴰ x (gather n f ++ f n)
    go r (yes q) = Memᴰ.append_left (f n) (r q)
    go r (no q) = let e : i ≡ n = omega arith in Memᴰ.append_right (gather n f) (rw e at m)

-- and what is in all of them is in one
pub gathered_from : {A : Type 0} (n : ℕ) (f : ℕ → List A) (x : A) → Memᴰ x (gather n f) → (i : ℕ) × (i < n) × Memᴰ x (f i)
unfolding gather
gathered_from zero f x m = absurd (Memᴰ.not-nil m)
gathered_from {A} (suc n) f x m = go (gathered_from n f x) (Memᴰ.append_cases (gather n f) m)
  where
    go : (Memᴰ x (gather n f) → (i : ℕ) × (i < n) × Memᴰ x (f i)) → Memᴰ x (gather n f) ⊎ Memᴰ x (f n) → (i : ℕ) × (i < suc n) × Memᴰ x (f i)
    go r (inl q) = let s = r q in (s.0, omega arith, s.2)
    go r (inr q) = (n, omega arith, q)

tabulate_gather : {A : Type 0} (n : ℕ) (f : ℕ → A) → tabulate n f ≡ gather n (λ i. f i ∷ [])
unfolding tabulate gather
tabulate_gather zero f = refl
tabulate_gather (suc n) f = rw (tabulate_gather n f)

-- what is made of a number below n is in the list
pub tabulate_member : {A : Type 0} (n : ℕ) (f : ℕ → A) (i : ℕ) → i < n → Memᴰ (f i) (tabulate n f)
tabulate_member n f i h =
    rw (tabulate_gather n f) (gathered n (λ j. f j ∷ []) (f i) i h (Memᴰ.head refl))

-- what is in the list is made of a number below n
pub tabulate_from : {A : Type 0} (n : ℕ) (f : ℕ → A) (x : A) → Memᴰ x (tabulate n f) → (j : ℕ) × (j < n) × (x ≡ f j)
tabulate_from n f x m =
    let r = gathered_from n (λ j. f j ∷ []) x (rw (tabulate_gather n f) at m) in
    (r.0, r.1, Memᴰ.eq_of_singleton r.2)

-- a number of the first n of a list stands at some place below n
pub taken : (n : ℕ) (l : List ℕ) (a : ℕ) → Memᴰ a (take n l) → (j : ℕ) × (j < n) × (a ≡ get_or l j 0)
taken zero l a m = absurd (Memᴰ.not-nil m)
taken (suc n) [] a m = absurd (Memᴰ.not-nil m)
taken (suc n) (x ∷ l) a (Memᴰ.head e) = (0, omega arith, e)
taken (suc n) (x ∷ l) a (Memᴰ.tail m) = let r = taken n l a m in (suc r.0, omega (arith, r.1), r.2)

-- what stands at a place is in the list
pub placed : (l : List ℕ) (j : ℕ) → j < length l → Memᴰ (get_or l j 0) l
placed [] j h = absurd (omega arith)
placed (x ∷ l) zero h = Memᴰ.head refl
placed (x ∷ l) (suc j) h = Memᴰ.tail (placed l j (omega arith))

-- and what is in the list stands at some place
pub member_place : (l : List ℕ) (a : ℕ) → Memᴰ a l → (j : ℕ) × (j < length l) × (a ≡ get_or l j 0)
member_place l a m = taken (length l) l a (rw (take-length l) m)

-- what stands at a place of a list is mapped there
pub map_at : (f : ℕ → ℕ) (l : List ℕ) (i : ℕ) → i < length l → get_or (map f l) i 0 ≡ f (get_or l i 0)
map_at f [] i h = absurd (omega arith)
map_at f (x ∷ l) zero h = refl
map_at f (x ∷ l) (suc i) h = map_at f l i (omega arith)

zip_place : (us vs : List ℕ) (a b : ℕ) → Memᴰ (a, b) (zip us vs) → (j : ℕ) × (j < length us) × (j < length vs) × (a ≡ get_or us j 0) ×
    (b ≡ get_or vs j 0)
unfolding zip zip_with
zip_place [] vs a b m = absurd (Memᴰ.not-nil m)
zip_place (u ∷ us) [] a b m = absurd (Memᴰ.not-nil m)
zip_place (u ∷ us) (v ∷ vs) a b (Memᴰ.head e) =
    (0, omega arith, omega arith, ap (λ (p : ℕ × ℕ). p.0) e, ap (λ (p : ℕ × ℕ). p.1) e)
zip_place (u ∷ us) (v ∷ vs) a b (Memᴰ.tail m) =
    let r = zip_place us vs a b m in
    (suc r.0, omega (arith, r.1), omega (arith, r.2), r.3, r.4)

placed_zip : (us vs : List ℕ) (j : ℕ) → j < length us → j < length vs → Memᴰ (get_or us j 0, get_or vs j 0) (zip us vs)
unfolding zip zip_with
placed_zip [] vs j h k = absurd (omega arith)
placed_zip (u ∷ us) [] j h k = absurd (omega arith)
placed_zip (u ∷ us) (v ∷ vs) zero h k = Memᴰ.head refl
placed_zip (u ∷ us) (v ∷ vs) (suc j) h k = Memᴰ.tail (placed_zip us vs j (omega arith) (omega arith))

-- "position by position": the pairs of two lists are those of the elements at one position
pub zip_at : (us vs : List ℕ) (a b : ℕ) → Memᴰ (a, b) (zip us vs) ↔
    ((j : ℕ) × (j < length us) × (j < length vs) × (a ≡ get_or us j 0) × (b ≡ get_or vs j 0))
zip_at us vs a b = (zip_place us vs a b, λ r. rw (r.3, r.4) (placed_zip us vs r.0 r.1 r.2))

-- the pairs of two lists are of an element of each
pub zip_left : (us vs : List ℕ) (a b : ℕ) → Memᴰ (a, b) (zip us vs) → Memᴰ a us
zip_left us vs a b m = let r = zip_place us vs a b m in rw r.3 (placed us r.0 r.1)

-- turned round
pub zip_back : (us vs : List ℕ) (a b : ℕ) → Memᴰ (a, b) (zip us vs) → Memᴰ (b, a) (zip vs us)
zip_back us vs a b m =
    let r = zip_place us vs a b m in
    (zip_at vs us b a).1 (r.0, r.2, r.1, r.4, r.3)

-- so they are of an element of the second
pub zip_right : (us vs : List ℕ) (a b : ℕ) → Memᴰ (a, b) (zip us vs) → Memᴰ b vs
zip_right us vs a b m = zip_left vs us b a (zip_back us vs a b m)

-- a pair of the outer two goes through the middle list
pub zip_through : (us vs ws : List ℕ) → length us ≡ length vs → length vs ≡ length ws → (a c : ℕ) → Memᴰ (a, c) (zip us ws) → (b : ℕ) ×
    Memᴰ (a, b) (zip us vs) × Memᴰ (b, c) (zip vs ws)
zip_through us vs ws h k a c m =
    let r = zip_place us ws a c m in
    let l : r.0 < length vs = omega (arith, r.1) in
    let v = get_or vs r.0 0 in
    (v, (zip_at us vs a v).1 (r.0, r.1, l, r.3, refl), (zip_at vs ws v c).1 (r.0, l, r.2, refl, r.4))

-- the first n of a list, asked for from 0 on, are n
pub part_long : (l : List ℕ) (n : ℕ) → n ≤ length l → length (take (n - 0) l) ≡ n
part_long l n h =
    let e : n - 0 ≡ n = omega arith in
    rw e (length-take-le n l h)

-- so it is of a list of zeros
pub first_long : (n : ℕ) → n ≤ max_nodes → length {A = ℕ} (take (n - 0) (replicate max_nodes 0)) ≡ n
first_long n h = part_long (replicate max_nodes 0) n h
