-- Circles: how far it is to a node that follows, and two circles of which two nodes exchange the ones after them are one.
-- Assumes nothing.
use Prim.Native.Nat.{ℕ, zero, suc, ◌+◌, ◌-◌, ◌<◌, ◌≤◌}
use mathlib.Core.Bool.{Bool, true, not, cond, ◌&&◌}
use mathlib.Core.List.{List, map}
use mathlib.Core.Logic.{◌⊎◌, inl, inr}
use mathlib.Core.Path.{◌≡◌, refl, sym, ap, ◌∙◌}
use native.Mathlib.Decide.{ℕ_discrete, dec_lt}
use native.Mathlib.Omega.{arith}
use borrow.Author.Tests.{eq-eqb, ne_eqb, eqb-false, not-true}
use lib.Dec.{eqb}
use lib.ListN.{length, set, length-set}
use lib.Seq.{get_or-set_same, get_or-set_other}
use Rattle.table.specs.Layout.{word}
use Rattle.table.proofs.BoolLaws.{and_true_left}
use Rattle.unification.specs.Computed.Classes.{class_of, renamed}
use Rattle.unification.proofs.ListLaws.{map_at}
use Rattle.unification.proofs.PigeonLaws.{pigeons}
use Rattle.unification.proofs.CountLaws.{renamed_here, renamed_other}
use Rattle.nodes.specs.Code.Circle.{Follows, here, onward, Circles}
use Rattle.nodes.specs.Code.Uniting.{Circling, TwoHeads, exchanged}

-- what follows on what follows
pub follows_on : {next : List ℕ} {i j k : ℕ} → Follows next i j → Follows next j k → Follows next i k
follows_on here g = g
follows_on (onward f) g = onward (follows_on f g)

-- what follows on the node after node i
pub step_on : {next : List ℕ} {x j : ℕ} (i : ℕ) → word next i ≡ x → Follows next x j → Follows next i j
step_on {j = j} i e f = onward {i = i} {j = j} (rw e f)

-- The node k steps after node i.
unfoldable steps_on : List ℕ → ℕ → ℕ → ℕ
steps_on next zero i = i
steps_on next (suc k) i = steps_on next k (word next i)

-- How far it is from node i to node g, at most so many steps.
unfoldable pub distance : List ℕ → ℕ → ℕ → ℕ → ℕ
distance next g zero i = 0
distance next g (suc k) i = cond (eqb i g) 0 (suc (distance next g k (word next i)))

module _ (next : List ℕ) where
  -- what follows is some steps away
  follows_steps : {i j : ℕ} → Follows next i j → (k : ℕ) × (steps_on next k i ≡ j)
  unfolding steps_on
  follows_steps here = (0, refl)
  follows_steps (onward f) = let r = follows_steps f in (suc r.0, r.1)

  -- so many steps and so many more
  steps_more : (p r s i : ℕ) → s ≡ p + r → steps_on next s i ≡ steps_on next r (steps_on next p i)
  unfolding steps_on
  steps_more zero r s i e = let d : s ≡ r = omega arith in ap (λ (k : ℕ). steps_on next k i) d
  steps_more (suc p) r zero i e = absurd (omega arith)
  steps_more (suc p) r (suc s) i e = steps_more p r s (word next i) (omega arith)

  module _ (n : ℕ) (below : (i : ℕ) → i < n → word next i < n) where
    -- they come to nodes
    steps_below : (k i : ℕ) → i < n → steps_on next k i < n
    unfolding steps_on
    steps_below zero i h = h
    steps_below (suc k) i h = steps_below k (word next i) (below i h)

    -- fewer steps than there are nodes are enough: more pass some node twice
    enough : (b k i j : ℕ) → k < b → i < n → steps_on next k i ≡ j → (m : ℕ) × (m < n) × (steps_on next m i ≡ j)
    enough zero k i j l h e = absurd (omega arith)
    enough (suc b) k i j l h e = go (λ p u v. enough b p i j u h v) (dec_lt k n)
      where
        go : ((p : ℕ) → p < b → steps_on next p i ≡ j → (m : ℕ) × (m < n) × (steps_on next m i ≡ j)) → Dec (k < n) → (m : ℕ) × (m < n) ×
            (steps_on next m i ≡ j)
        go f (yes z) = (k, z, e)
        go f (no z) =
            let r = pigeons n (λ p. steps_on next p i) (λ p q. steps_below p i h) in
            let x = r.2 in
            let y = r.3 in
            let a = steps_more r.1 (k - r.1) k i (omega (arith, y, z)) in
            let c = steps_more r.0 (k - r.1) (r.0 + (k - r.1)) i refl in
            f (r.0 + (k - r.1)) (omega (arith, x, y, z, l)) (c ∙ ap (steps_on next (k - r.1)) r.4 ∙ sym a ∙ e)

  -- more steps than are needed make no difference
  distance_same : (g n k i : ℕ) → k ≤ n → steps_on next k i ≡ g → distance next g (suc n) i ≡ distance next g n i
  unfolding distance steps_on
  distance_same g zero zero i l e = rw (eq-eqb i g e)
  distance_same g zero (suc k) i l e = absurd (omega arith)
  distance_same g (suc n) zero i l e = rw (eq-eqb i g e)
  distance_same g (suc n) (suc k) i l e =
      ap (λ (x : ℕ). cond (eqb i g) 0 (suc x)) (distance_same g n k (word next i) (omega arith) e)

  -- a step on it is less far
  distance_less : (g n k i : ℕ) → k < n → steps_on next k i ≡ g → (i ≡ g → ⊥) → distance next g n (word next i) < distance next g n i
  unfolding distance steps_on
  distance_less g zero k i l e d = absurd (omega arith)
  distance_less g (suc n) zero i l e d = absurd (d e)
  distance_less g (suc n) (suc k) i l e d =
      let q = distance_same g n k (word next i) (omega arith) e in
      rw (ne_eqb i g d) (omega (arith, q))

-- a step nearer to a node that follows
pub nearer : (n : ℕ) (next : List ℕ) (g i : ℕ) → Circling n next g → i < n → Follows next i g → (i ≡ g → ⊥) →
    distance next g (length next) (word next i) < distance next g (length next) i
nearer n next g i c l f d =
    let r = follows_steps next f in
    let m = enough next n c.below (suc r.0) r.0 i g (omega arith) l r.1 in
    let u = m.1 in
    let v = c.size in
    distance_less next g (length next) m.0 i (omega (arith, u, v)) m.2 d

-- it follows still
pub follows_still : {next : List ℕ} {i g : ℕ} → Follows next i g → (i ≡ g → ⊥) → Follows next (word next i) g
follows_still here d = absurd (d refl)
follows_still (onward f) d = f

-- a test that node i is not g, and another test
pub not_there : (i g : ℕ) (b : Bool) → (not (eqb i g) && b) ≡ true → i ≡ g → ⊥
not_there i g b e = eqb-false i g (not-true _ (and_true_left (not (eqb i g)) b e))

-- a head can be come back to
pub circling : {n : ℕ} {heads next : List ℕ} {g h : ℕ} → TwoHeads n heads next g h → Circling n next g
circling {next = next} {g = g} t =
    record {
      inside = t.first;
      size = t.circles.size;
      below = t.circles.below;
      back = t.circles.around (word next g) g (t.circles.below g t.first) t.first (t.circles.same g t.first);
    }

-- the heads in the other order
pub turned : {n : ℕ} {heads next : List ℕ} {g h : ℕ} → TwoHeads n heads next g h → TwoHeads n heads next h g
turned t =
    record {
      partition = t.partition;
      circles = t.circles;
      first = t.second;
      second = t.first;
      first_own = t.second_own;
      second_own = t.first_own;
      apart = λ e. t.apart (sym e);
    }

-- Nodes g and h exchange the ones after them.
pub record Exchange (next : List ℕ) (g h : ℕ) (next' : List ℕ) : Type 0 where
  pub first : word next' g ≡ word next h
  pub second : word next' h ≡ word next g
  pub other : (i : ℕ) → (i ≡ g → ⊥) → (i ≡ h → ⊥) → word next' i ≡ word next i

module _ (n : ℕ) (heads next : List ℕ) (g h : ℕ) (next' : List ℕ) (t : TwoHeads n heads next g h) (x : Exchange next g h next') where
  -- within a class of neither the way is the same
  way_other : {i j : ℕ} → Follows next i j → i < n → (class_of heads i ≡ g → ⊥) → (class_of heads i ≡ h → ⊥) → Follows next' i j
  way_other here l d e = here
  way_other (onward {i} {j} f) l d e =
      let q = t.circles.same i l in
      let r : Follows next' (word next i) j = way_other f (t.circles.below i l) (λ z. d (sym q ∙ z)) (λ z. e (sym q ∙ z)) in
      let w : word next' i ≡ word next i = x.other i (λ z. d (ap (class_of heads) z ∙ t.first_own)) (λ z. e (ap (class_of heads) z ∙ t.second_own)) in
      step_on i w r

  -- a node of the class of g other than g has the same node after it
  same_after : (i : ℕ) → class_of heads i ≡ g → (i ≡ g → ⊥) → word next' i ≡ word next i
  same_after i e d = x.other i d (λ z. t.apart (sym e ∙ ap (class_of heads) z ∙ t.second_own))

  -- from a node of the class of g the way is the same, or passes g
  way_on : {i j : ℕ} → Follows next i j → i < n → class_of heads i ≡ g → Follows next' i j ⊎ Follows next' i g
  way_on here l e = inl here
  way_on (onward {i} {j} f) l e =
      go (ℕ_discrete i g) (way_on f (t.circles.below i l) (t.circles.same i l ∙ e))
    where
      go : Dec (i ≡ g) → Follows next' (word next i) j ⊎ Follows next' (word next i) g → Follows next' i j ⊎ Follows next' i g
      go (yes z) r = inr (rw z here)
      go (no z) (inl r) = inl (step_on i (same_after i e z) r)
      go (no z) (inr r) = inr (step_on i (same_after i e z) r)

  -- from a node of the class of g or from the one after g the way is the same
  way_next : {i j : ℕ} → Follows next i j → i < n → class_of heads i ≡ g → Follows next' i j ⊎ Follows next' (word next g) j
  way_next here l e = inl here
  way_next (onward {i} {j} f) l e =
      go (ℕ_discrete i g) (way_next f (t.circles.below i l) (t.circles.same i l ∙ e))
    where
      go : Dec (i ≡ g) → Follows next' (word next i) j ⊎ Follows next' (word next g) j → Follows next' i j ⊎ Follows next' (word next g) j
      go (yes z) (inl r) = inr (rw z at r)
      go (yes z) (inr r) = inr r
      go (no z) (inl r) = inl (step_on i (same_after i e z) r)
      go (no z) (inr r) = inr r

  -- g follows on its class
  to_first : (i : ℕ) → i < n → class_of heads i ≡ g → Follows next' i g
  to_first i l e = go (way_on (t.circles.around i g l t.first (e ∙ sym t.first_own)) l e)
    where
      go : Follows next' i g ⊎ Follows next' i g → Follows next' i g
      go (inl r) = r
      go (inr r) = r

  -- its class follows on h
  from_second : (j : ℕ) → j < n → class_of heads j ≡ g → Follows next' h j
  from_second j l e = step_on h x.second (go (way_next (t.circles.around (word next g) j b l (c ∙ sym e)) b c))
    where
      b : word next g < n
      b = t.circles.below g t.first

      c : class_of heads (word next g) ≡ g
      c = t.circles.same g t.first ∙ t.first_own

      go : Follows next' (word next g) j ⊎ Follows next' (word next g) j → Follows next' (word next g) j
      go (inl r) = r
      go (inr r) = r

-- the exchange the other way round
exchange_turned : {next : List ℕ} {g h : ℕ} {next' : List ℕ} → Exchange next g h next' → Exchange next h g next'
exchange_turned x = record { first = x.second; second = x.first; other = λ i d e. x.other i e d }

module _ (n : ℕ) (heads next : List ℕ) (g h : ℕ) (t : TwoHeads n heads next g h) where
  -- the two heads do
  pub exchange : Exchange next g h (exchanged next g h)
  unfolding exchanged
  exchange =
      let e = t.circles.size in
      let p = t.first in
      let q = t.second in
      let k = length-set next g (word next h) in
      record {
        first = get_or-set_other (set next g (word next h)) h g (word next g) 0 t.apart ∙
            get_or-set_same next g (word next h) 0 (omega (arith, e, p));
        second = get_or-set_same (set next g (word next h)) h (word next g) 0 (omega (arith, e, q, k));
        other = λ i d z. get_or-set_other (set next g (word next h)) h i (word next g) 0 z ∙ get_or-set_other next g i (word next h) 0 d;
      }

  -- A node is of the class of g, of that of h, or of neither, and has its head after the class of g becomes a part of that of h.
  data Case (i : ℕ) : Type 0 where
    of_first : class_of heads i ≡ g → class_of (map (renamed g h) heads) i ≡ h → Case i
    of_second : class_of heads i ≡ h → class_of (map (renamed g h) heads) i ≡ h → Case i
    of_other : (class_of heads i ≡ g → ⊥) → (class_of heads i ≡ h → ⊥) → class_of (map (renamed g h) heads) i ≡ class_of heads i → Case i

  -- so is each node
  case_of : (i : ℕ) → i < n → Case i
  case_of i l = go (ℕ_discrete (class_of heads i) g) (ℕ_discrete (class_of heads i) h)
    where
      at : class_of (map (renamed g h) heads) i ≡ renamed g h (class_of heads i)
      at = map_at (renamed g h) heads i (rw t.partition.size l)

      go : Dec (class_of heads i ≡ g) → Dec (class_of heads i ≡ h) → Case i
      go (yes z) d = of_first z (at ∙ renamed_here g h (class_of heads i) z)
      go (no z) (yes d) = of_second d (at ∙ renamed_other g h (class_of heads i) z ∙ d)
      go (no z) (no d) = of_other z d (at ∙ renamed_other g h (class_of heads i) z)

  -- nodes of one class stay in one
  stay : (i j : ℕ) → i < n → j < n → class_of heads i ≡ class_of heads j → class_of (map (renamed g h) heads) i ≡ class_of (map (renamed g h) heads) j
  stay i j l k e =
      map_at (renamed g h) heads i (rw t.partition.size l) ∙ ap (renamed g h) e ∙ sym (map_at (renamed g h) heads j (rw t.partition.size k))

  -- the two heads are of one class after
  heads_one : class_of (map (renamed g h) heads) g ≡ class_of (map (renamed g h) heads) h
  heads_one =
      map_at (renamed g h) heads g (rw t.partition.size t.first)
      ∙ renamed_here g h (class_of heads g) t.first_own
      ∙ sym
      (map_at (renamed g h) heads h (rw t.partition.size t.second) ∙ ap (renamed g h) t.second_own ∙ renamed_other g h h (λ z. t.apart (sym z)))

  -- there are as many nodes
  pub exchanged_long : length (exchanged next g h) ≡ length next
  unfolding exchanged
  exchanged_long = length-set (set next g (word next h)) h (word next g) ∙ length-set next g (word next h)

  -- the one after a node is a node
  below_after : (i : ℕ) → i < n → Dec (i ≡ g) → Dec (i ≡ h) → word (exchanged next g h) i < n
  below_after i l (yes z) d = rw (z, exchange.first) (t.circles.below h t.second)
  below_after i l (no z) (yes d) = rw (d, exchange.second) (t.circles.below g t.first)
  below_after i l (no z) (no d) = rw (exchange.other i z d) (t.circles.below i l)

  -- the one that was after a node is of its class
  next_stays : (i : ℕ) → i < n → class_of (map (renamed g h) heads) (word next i) ≡ class_of (map (renamed g h) heads) i
  next_stays i l = stay (word next i) i (t.circles.below i l) l (t.circles.same i l)

  -- so is the one that is now
  one_class : (i : ℕ) → i < n → Dec (i ≡ g) → Dec (i ≡ h) →
      class_of (map (renamed g h) heads) (word (exchanged next g h) i) ≡ class_of (map (renamed g h) heads) i
  one_class i l (yes z) d = rw (z, exchange.first) (next_stays h t.second ∙ sym heads_one)
  one_class i l (no z) (yes d) = rw (d, exchange.second) (next_stays g t.first ∙ heads_one)
  one_class i l (no z) (no d) = rw (exchange.other i z d) (next_stays i l)

  -- each head follows on the other
  to_second : Follows (exchanged next g h) g h
  to_second = from_second n heads next h g (exchanged next g h) (turned t) (exchange_turned exchange) h t.second t.second_own

  -- and the other way round
  to_other : Follows (exchanged next g h) h g
  to_other = from_second n heads next g h (exchanged next g h) t exchange g t.first t.first_own

  -- every node of a class follows on every other
  around_after : (i j : ℕ) → i < n → j < n → class_of (map (renamed g h) heads) i ≡ class_of (map (renamed g h) heads) j → Case i → Case j →
      Follows (exchanged next g h) i j
  around_after i j l k e (of_first p u) (of_first q v) =
      follows_on (to_first n heads next g h (exchanged next g h) t exchange i l p)
      (follows_on to_second (from_second n heads next g h (exchanged next g h) t exchange j k q))
  around_after i j l k e (of_first p u) (of_second q v) =
      follows_on (to_first n heads next g h (exchanged next g h) t exchange i l p)
      (from_second n heads next h g (exchanged next g h) (turned t) (exchange_turned exchange) j k q)
  around_after i j l k e (of_second p u) (of_first q v) =
      follows_on (to_first n heads next h g (exchanged next g h) (turned t) (exchange_turned exchange) i l p)
      (from_second n heads next g h (exchanged next g h) t exchange j k q)
  around_after i j l k e (of_second p u) (of_second q v) =
      follows_on (to_first n heads next h g (exchanged next g h) (turned t) (exchange_turned exchange) i l p)
      (follows_on to_other (from_second n heads next h g (exchanged next g h) (turned t) (exchange_turned exchange) j k q))
  around_after i j l k e (of_first p u) (of_other a b v) = absurd (b (sym v ∙ sym e ∙ u))
  around_after i j l k e (of_second p u) (of_other a b v) = absurd (b (sym v ∙ sym e ∙ u))
  around_after i j l k e (of_other a b u) (of_first q v) = absurd (b (sym u ∙ e ∙ v))
  around_after i j l k e (of_other a b u) (of_second q v) = absurd (b (sym u ∙ e ∙ v))
  around_after i j l k e (of_other a b u) (of_other c d v) =
      way_other n heads next g h (exchanged next g h) t exchange (t.circles.around i j l k (sym u ∙ e ∙ v)) l a b

  -- two circles are made one
  pub circles_linked : Circles n (map (renamed g h) heads) (exchanged next g h)
  circles_linked =
      record {
        size = rw exchanged_long t.circles.size;
        below = λ i l. below_after i l (ℕ_discrete i g) (ℕ_discrete i h);
        same = λ i l. one_class i l (ℕ_discrete i g) (ℕ_discrete i h);
        around = λ i j l k e. around_after i j l k e (case_of i l) (case_of j k);
      }
