-- `join` keeps a list of classes a partition, and lowers the number of classes or changes nothing. By counting the roots, the nodes that
-- name their class.
-- Assumes nothing.
use Prim.Native.Nat.{ℕ, zero, suc, ◌+◌, ◌<◌, ◌≤◌}
use mathlib.Core.Bool.{Bool, true, false, cond, false≢true}
use mathlib.Core.List.Memᴰ
use mathlib.Core.List.{List, [], ◌∷◌, Memᴰ}
use mathlib.Core.Logic.{◌⊎◌, inl, inr}
use mathlib.Core.Path.{◌≡◌, refl, sym, ap, ◌∙◌}
use native.Mathlib.Decide.{dec_lt, ℕ_discrete}
use native.Mathlib.Omega.{arith}
use borrow.Author.Tests.{eqb-true, eq-eqb, ne_eqb}
use lib.ListN.{length, length-map}
use lib.Seq.{ext_get_or}
use Rattle.unification.specs.Computed.Classes.{class_of, renamed, join, join_all}
use Rattle.unification.specs.Code.Heads.{Partition, count_below, is_root, roots, Unites}
use Rattle.unification.proofs.ListLaws.{map_at}

-- the class that is renamed
pub renamed_here : (b a c : ℕ) → c ≡ b → renamed b a c ≡ a
unfolding renamed
renamed_here b a c e = rw (eq-eqb c b e)

-- any other stays
pub renamed_other : (b a c : ℕ) → (c ≡ b → ⊥) → renamed b a c ≡ c
unfolding renamed
renamed_other b a c d = rw (ne_eqb c b d)

renamed_new : (b a : ℕ) → renamed b a a ≡ a
renamed_new b a = go (ℕ_discrete a b)
  where
    go : Dec (a ≡ b) → renamed b a a ≡ a
    go (yes e) = renamed_here b a a e
    go (no d) = renamed_other b a a d

-- joining nodes leaves as many of them
pub join_length : (cs : List ℕ) (p : ℕ × ℕ) → length (join cs p) ≡ length cs
unfolding join
join_length cs p = length-map cs (renamed (class_of cs p.1) (class_of cs p.0))

join_at : (cs : List ℕ) (a b i : ℕ) → i < length cs → class_of (join cs (a, b)) i ≡ renamed (class_of cs b) (class_of cs a) (class_of cs i)
unfolding join
join_at cs a b i h = map_at (renamed (class_of cs b) (class_of cs a)) cs i h

-- where a node's class is the second's, it becomes the first's
pub join_second : (cs : List ℕ) (a b i : ℕ) → i < length cs → class_of cs i ≡ class_of cs b → class_of (join cs (a, b)) i ≡ class_of cs a
join_second cs a b i h e = join_at cs a b i h ∙ renamed_here (class_of cs b) (class_of cs a) (class_of cs i) e

-- where not, it stays
pub join_other : (cs : List ℕ) (a b i : ℕ) → i < length cs → (class_of cs i ≡ class_of cs b → ⊥) → class_of (join cs (a, b)) i ≡ class_of cs i
join_other cs a b i h d = join_at cs a b i h ∙ renamed_other (class_of cs b) (class_of cs a) (class_of cs i) d

-- so does the first's class
pub join_first : (cs : List ℕ) (a b i : ℕ) → i < length cs → class_of cs i ≡ class_of cs a → class_of (join cs (a, b)) i ≡ class_of cs a
join_first cs a b i h e =
    join_at cs a b i h ∙ ap (renamed (class_of cs b) (class_of cs a)) e ∙ renamed_new (class_of cs b) (class_of cs a)

-- nodes of one class stay in one
pub join_stays : (cs : List ℕ) (a b i j : ℕ) → i < length cs → j < length cs → class_of cs i ≡ class_of cs j →
    class_of (join cs (a, b)) i ≡ class_of (join cs (a, b)) j
join_stays cs a b i j h k e =
    join_at cs a b i h ∙ ap (renamed (class_of cs b) (class_of cs a)) e ∙ sym (join_at cs a b j k)

join_same : (cs : List ℕ) (a b : ℕ) → class_of cs a ≡ class_of cs b → join cs (a, b) ≡ cs
join_same cs a b e = ext_get_or 0 (join cs (a, b)) cs (join_length cs (a, b)) at
  where
    at : (i : ℕ) → i < length (join cs (a, b)) → class_of (join cs (a, b)) i ≡ class_of cs i
    at i q = go (ℕ_discrete (class_of cs i) (class_of cs b))
      where
        h : i < length cs
        h = rw (join_length cs (a, b)) at q

        go : Dec (class_of cs i ≡ class_of cs b) → class_of (join cs (a, b)) i ≡ class_of cs i
        go (yes z) = join_second cs a b i h z ∙ e ∙ sym z
        go (no z) = join_other cs a b i h z

-- a node has its class
pub in_list : {n : ℕ} {cs : List ℕ} → Partition n cs → (i : ℕ) → i < n → i < length cs
in_list p i h = rw p.size h

-- so it is after joining two nodes
pub join_keeps : (n : ℕ) (cs : List ℕ) (a b : ℕ) → a < n → b < n → Partition n cs → Partition n (join cs (a, b))
join_keeps n cs a b ha hb p = record { size = join_length cs (a, b) ∙ p.size; below = λ i h. below_after i h; own = λ i h. own_after i h }
  where
    below_after : (i : ℕ) → i < n → class_of (join cs (a, b)) i < n
    below_after i h = go (ℕ_discrete (class_of cs i) (class_of cs b))
      where
        go : Dec (class_of cs i ≡ class_of cs b) → class_of (join cs (a, b)) i < n
        go (yes z) = rw (join_second cs a b i (in_list p i h) z) (p.below a ha)
        go (no z) = rw (join_other cs a b i (in_list p i h) z) (p.below i h)

    own_after : (i : ℕ) → i < n → class_of (join cs (a, b)) (class_of (join cs (a, b)) i) ≡ class_of (join cs (a, b)) i
    own_after i h = go (ℕ_discrete (class_of cs i) (class_of cs b))
      where
        go : Dec (class_of cs i ≡ class_of cs b) → class_of (join cs (a, b)) (class_of (join cs (a, b)) i) ≡ class_of (join cs (a, b)) i
        go (yes z) =
            rw (join_second cs a b i (in_list p i h) z)
            (join_first cs a b (class_of cs a) (in_list p (class_of cs a) (p.below a ha)) (p.own a ha))
        go (no z) =
            rw (join_other cs a b i (in_list p i h) z)
            (join_other cs a b (class_of cs i) (in_list p (class_of cs i) (p.below i h)) (λ e. z (sym (p.own i h) ∙ e)) ∙ p.own i h)

bit_le : (a b : Bool) → (a ≡ true → b ≡ true) → cond a 1 0 ≤ cond b 1 0
bit_le true b f = rw (f refl) (omega arith)
bit_le false b f = omega arith

bit_most : (a : Bool) → cond a 1 0 ≤ 1
bit_most true = omega arith
bit_most false = omega arith

-- at most n numbers below n have a property
pub count_most : (n : ℕ) (p : ℕ → Bool) → count_below n p ≤ n
unfolding count_below
count_most zero p = omega arith
count_most (suc n) p =
    let r : count_below n p ≤ n = count_most n p in
    let s = bit_most (p n) in
    omega (arith, r, s)

-- where q has it p has it too: no more have q
pub count_le : (p q : ℕ → Bool) (n : ℕ) → ((i : ℕ) → i < n → q i ≡ true → p i ≡ true) → count_below n q ≤ count_below n p
unfolding count_below
count_le p q zero f = omega arith
count_le p q (suc n) f =
    let r : count_below n q ≤ count_below n p = count_le p q n (λ i h. f i (omega arith)) in
    let s = bit_le (q n) (p n) (f n (omega arith)) in
    omega (arith, r, s)

-- and fewer, where one has p and not q
pub count_less : (p q : ℕ → Bool) (n : ℕ) → ((i : ℕ) → i < n → q i ≡ true → p i ≡ true) → (k : ℕ) → k < n → p k ≡ true → q k ≡ false →
    count_below n q < count_below n p
unfolding count_below
count_less p q zero f k h y z = absurd (omega arith)
count_less p q (suc n) f k h y z = go (λ g. count_less p q n (λ i u. f i (omega arith)) k g y z) (dec_lt k n)
  where
    go : (k < n → count_below n q < count_below n p) → Dec (k < n) → count_below n q + cond (q n) 1 0 < count_below n p + cond (p n) 1 0
    go r (yes g) =
        let r' = r g in
        let s = bit_le (q n) (p n) (f n (omega arith)) in
        omega (arith, r', s)
    go r (no g) =
        let e : k ≡ n = omega arith in
        let y' : p n ≡ true = rw e at y in
        let z' : q n ≡ false = rw e at z in
        let l = count_le p q n (λ i u. f i (omega arith)) in
        rw (y', z') (omega (arith, l))

-- there are at most n
pub roots_most : (n : ℕ) (cs : List ℕ) → roots n cs ≤ n
unfolding roots
roots_most n cs = count_most n (is_root cs)

-- there is one where there is a node
pub roots_some : (n : ℕ) (cs : List ℕ) → Partition n cs → (i : ℕ) → i < n → 0 < roots n cs
unfolding roots is_root
roots_some n cs p i h =
    let none : ℕ → Bool = λ k. false in
    let l = count_less (is_root cs) none n (λ k q e. absurd (false≢true e)) (class_of cs i) (p.below i h) (eq-eqb _ _ (p.own i h)) refl in
    omega (arith, l)

-- joining two classes lowers their number
pub join_lowers : (n : ℕ) (cs : List ℕ) (a b : ℕ) → a < n → b < n → Partition n cs → (class_of cs a ≡ class_of cs b → ⊥) →
    roots n (join cs (a, b)) < roots n cs
unfolding roots is_root
join_lowers n cs a b ha hb p d =
    count_less (is_root cs) (is_root (join cs (a, b))) n were (class_of cs b) (p.below b hb) (eq-eqb _ _ (p.own b hb))
    (ne_eqb _ _ (λ e. d (sym (join_second cs a b (class_of cs b) (in_list p (class_of cs b) (p.below b hb)) (p.own b hb)) ∙ e)))
  where
    were : (i : ℕ) → i < n → is_root (join cs (a, b)) i ≡ true → is_root cs i ≡ true
    were i h r = eq-eqb _ _ (go (eqb-true _ _ r) (ℕ_discrete (class_of cs i) (class_of cs b)))
      where
        go : class_of (join cs (a, b)) i ≡ i → Dec (class_of cs i ≡ class_of cs b) → class_of cs i ≡ i
        go e (yes z) =
            let y : i ≡ class_of cs a = sym e ∙ join_second cs a b i (in_list p i h) z in
            ap (class_of cs) y ∙ p.own a ha ∙ sym y
        go e (no z) = sym (join_other cs a b i (in_list p i h) z) ∙ e

-- one pair more is joined
pub unites_front : (ds : List ℕ) (a b : ℕ) (todo : List (ℕ × ℕ)) → class_of ds a ≡ class_of ds b → Unites ds todo → Unites ds ((a, b) ∷ todo)
unites_front ds a b todo e u c d (Memᴰ.head z) =
    ap (λ (t : ℕ × ℕ). class_of ds t.0) z ∙ e ∙ sym (ap (λ (t : ℕ × ℕ). class_of ds t.1) z)
unites_front ds a b todo e u c d (Memᴰ.tail m) = u c d m

-- Joining the pairs lowers the number of classes, or each was of one class and nothing changes.
abbrev pub Lowers : ℕ → List (ℕ × ℕ) → List ℕ → Type 0
Lowers n qs cs = (roots n (join_all cs qs) < roots n cs) ⊎ ((join_all cs qs ≡ cs) × Unites cs qs)

-- so it is with pairs of nodes
pub join_all_lowers : (n : ℕ) (qs : List (ℕ × ℕ)) (cs : List ℕ) → Partition n cs → ((a b : ℕ) → Memᴰ (a, b) qs → (a < n) × (b < n)) → Lowers n qs cs
unfolding join_all
join_all_lowers n [] cs p h = inr (refl, λ a b m. absurd (Memᴰ.not-nil m))
join_all_lowers n (q ∷ qs) cs p h =
    go (ℕ_discrete (class_of cs q.0) (class_of cs q.1)) (join_all_lowers n qs cs p tail) (join_all_lowers n qs (join cs q) kept tail)
  where
    tail : (a b : ℕ) → Memᴰ (a, b) qs → (a < n) × (b < n)
    tail a b m = h a b (Memᴰ.tail m)

    both : (q.0 < n) × (q.1 < n)
    both = h q.0 q.1 (Memᴰ.head refl)

    kept : Partition n (join cs q)
    kept = join_keeps n cs q.0 q.1 both.0 both.1 p

    go : Dec (class_of cs q.0 ≡ class_of cs q.1) → Lowers n qs cs → Lowers n qs (join cs q) → Lowers n (q ∷ qs) cs
    go (yes e) (inl l) s = inl (rw (join_same cs q.0 q.1 e) l)
    go (yes e) (inr r) s = inr (rw (join_same cs q.0 q.1 e) r.0, unites_front cs q.0 q.1 qs e r.1)
    go (no d) r (inl l) =
        let k = join_lowers n cs q.0 q.1 both.0 both.1 p d in
        inl (omega (arith, k, l))
    go (no d) r (inr s) = inl (rw s.0 (join_lowers n cs q.0 q.1 both.0 both.1 p d))
