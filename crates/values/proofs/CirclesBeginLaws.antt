-- Circles of the members of classes, node by node: a node that is its own head begins one, any other is put behind its head. Assumes
-- nothing.
use Prim.Native.Nat.{ℕ, ◌+◌, ◌≤◌, ◌<◌}
use mathlib.Core.List.{List}
use mathlib.Core.Path.{◌≡◌, refl, sym, ap, subst, ◌∙◌}
use native.Mathlib.Decide.{ℕ_discrete, dec_lt}
use native.Mathlib.Omega.{arith}
use lib.ListN.{length, replicate, set, length-set, length-replicate, get_or-replicate, get_or-eq_default}
use lib.Seq.{get_or-set_same, get_or-set_other}
use Rattle.table.specs.Limits.{max_nodes}
use Rattle.table.specs.Layout.{word}
use Rattle.unification.specs.Computed.Classes.{class_of}
use Rattle.unification.proofs.CountLaws.{roots_most}
use Rattle.nodes.specs.Code.Circle.{Follows, here, onward, CirclesBefore}
use Rattle.nodes.specs.Code.Trail.{links, Trailed}
use Rattle.nodes.proofs.CircleLaws.{follows_on}
use Rattle.values.specs.Code.Start.{PutHead}

-- zeros are 0 at each place, and past the end
zeros : (n k : ℕ) → word (replicate n 0) k ≡ 0
zeros n k = go (dec_lt k n)
  where
    go : Dec (k < n) → word (replicate n 0) k ≡ 0
    go (yes l) = get_or-replicate n k 0 0 l
    go (no l) = get_or-eq_default (replicate n 0) 0 (let e = length-replicate {A = ℕ} n 0 in omega (arith, l, e))

-- no node is in a circle yet
pub circles_none : (heads next : List ℕ) → next ≡ replicate links 0 → CirclesBefore heads next 0
circles_none heads next e =
    record {
      size = rw e (length-replicate {A = ℕ} links 0);
      clear = λ k h. rw e (zeros links k);
      below = λ k h. absurd (omega arith);
      same = λ k h. absurd (omega arith);
      around = λ j k h. absurd (omega arith);
    }

-- all are, and no head has gone
pub circles_all : (heads next : List ℕ) (i : ℕ) → length heads ≤ max_nodes → i ≤ length heads → length heads ≤ i → CirclesBefore heads next i →
    Trailed (length heads) heads next
circles_all heads next i few h l c =
    let e : length heads ≡ i = omega arith in
    let q = c.size in
    let z = c.clear 256 (omega arith) in
    let r = roots_most (length heads) heads in
    record {
      circles = record { size = omega (arith, few, q); below = rw e c.below; same = rw e c.same; around = rw e c.around };
      few = few;
      size = q;
      room = omega (arith, z, r, few);
      clear = λ k w. c.clear k (omega (arith, w));
    }

module _ (heads next : List ℕ) (i : ℕ) (b : i < length heads) (few : length heads ≤ max_nodes) (c : CirclesBefore heads next i) where
  -- a node that is its own head, and that of none before it
  module _ (e : class_of heads i ≡ i) (low : (k : ℕ) → k < i → class_of heads k ≤ k) where
    abbrev begun : List ℕ
    begun = set next i i

    begun_here : word begun i ≡ i
    begun_here = let l = c.size in get_or-set_same next i i 0 (omega (arith, l, few))

    begun_other : (k : ℕ) → k < i → word begun k ≡ word next k
    begun_other k h = get_or-set_other next i k i 0 (λ z. omega (arith, z, h))

    begun_follows : {j k : ℕ} → j < i → Follows next j k → Follows begun j k
    begun_follows h here = here
    begun_follows {j} {k} h (onward g) =
        let r : Follows begun (word begun j) k = rw (begun_other j h) (begun_follows (c.below j h) g) in
        onward r

    -- it begins a circle
    circle_begins : CirclesBefore heads (set next i i) (i + 1)
    circle_begins =
        record {
          size = length-set next i i ∙ c.size;
          below = λ k h. below_at k h (ℕ_discrete k i);
          same = λ k h. same_at k h (ℕ_discrete k i);
          around = λ j k h l q. around_at j k h l q (ℕ_discrete j i) (ℕ_discrete k i);
          clear = λ k h. get_or-set_other next i k i 0 (λ z. omega (arith, z, h, b, few)) ∙ c.clear k h;
        }
      where
        below_at : (k : ℕ) → k < i + 1 → Dec (k ≡ i) → word begun k < i + 1
        below_at k h (yes z) = let x = ap (word begun) z ∙ begun_here in omega (arith, x)
        below_at k h (no n) =
            let l : k < i = omega (arith, n) in
            let x = begun_other k l in
            let y = c.below k l in
            omega (arith, x, y)

        same_at : (k : ℕ) → k < i + 1 → Dec (k ≡ i) → class_of heads (word begun k) ≡ class_of heads k
        same_at k h (yes z) = ap (class_of heads) (ap (word begun) z ∙ begun_here ∙ sym z)
        same_at k h (no n) =
            let l : k < i = omega (arith, n) in
            ap (class_of heads) (begun_other k l) ∙ c.same k l

        around_at : (j k : ℕ) → j < i + 1 → k < i + 1 → class_of heads j ≡ class_of heads k → Dec (j ≡ i) → Dec (k ≡ i) → Follows begun j k
        around_at j k h l q (yes y) (yes z) = rw (y, z) here
        around_at j k h l q (yes y) (no n) =
            let x = low k (omega (arith, n)) in
            let u : i ≡ class_of heads k = sym e ∙ ap (class_of heads) (sym y) ∙ q in
            absurd (omega (arith, x, u, n))
        around_at j k h l q (no n) (yes z) =
            let x = low j (omega (arith, n)) in
            let u : class_of heads j ≡ i = q ∙ ap (class_of heads) z ∙ e in
            absurd (omega (arith, x, u, n))
        around_at j k h l q (no m) (no n) =
            begun_follows (omega (arith, m)) (c.around j k (omega (arith, m)) (omega (arith, n)) q)

  -- a node with another head, which is before it and its own
  module _ (h : ℕ) (head-before : h < i) (e : class_of heads i ≡ h) (own : class_of heads h ≡ h) where
    abbrev put : List ℕ
    put = set (set next i (word next h)) h i

    head_own : class_of heads h ≡ class_of heads i
    head_own = own ∙ sym e

    put_head : word put h ≡ i
    put_head =
        let l = c.size in
        let x = length-set next i (word next h) in
        get_or-set_same (set next i (word next h)) h i 0 (omega (arith, l, x, few, head-before))

    put_here : word put i ≡ word next h
    put_here =
        let l = c.size in
        get_or-set_other (set next i (word next h)) h i i 0 (λ z. omega (arith, z, head-before)) ∙
        get_or-set_same next i (word next h) 0 (omega (arith, l, few))

    put_other : (k : ℕ) → k < i → (k ≡ h → ⊥) → word put k ≡ word next k
    put_other k l n =
        get_or-set_other (set next i (word next h)) h k i 0 n ∙ get_or-set_other next i k (word next h) 0 (λ z. omega (arith, z, l))

    -- from the head to the node, and on to what came next
    put_follows : {j k : ℕ} → j < i → Follows next j k → Follows put j k
    put_follows l here = here
    put_follows {j} {k} l (onward g) = go (ℕ_discrete j h) (put_follows (c.below j l) g)
      where
        go : Dec (j ≡ h) → Follows put (word next j) k → Follows put j k
        go (yes z) r =
            let r' : Follows put (word put i) k = rw put_here (subst (λ (x : ℕ). Follows put (word next x) k) z r) in
            let r'' : Follows put (word put j) k = rw (z, put_head) (onward r') in
            onward r''
        go (no n) r =
            let r' : Follows put (word put j) k = rw (put_other j l n) r in
            onward r'

    -- it is put behind its head
    circle_grows : CirclesBefore heads (set (set next i (word next h)) h i) (i + 1)
    circle_grows =
        record {
          size = length-set (set next i (word next h)) h i ∙ length-set next i (word next h) ∙ c.size;
          below = λ k l. below_at k l (ℕ_discrete k i) (ℕ_discrete k h);
          same = λ k l. same_at k l (ℕ_discrete k i) (ℕ_discrete k h);
          around = λ j k l m q. around_at j k l m q (ℕ_discrete j i) (ℕ_discrete k i);
          clear = λ k l.
              get_or-set_other (set next i (word next h)) h k i 0 (λ z. omega (arith, z, l, head-before, few)) ∙
              get_or-set_other next i k (word next h) 0 (λ z. omega (arith, z, l, few)) ∙ c.clear k l;
        }
      where
        below_at : (k : ℕ) → k < i + 1 → Dec (k ≡ i) → Dec (k ≡ h) → word put k < i + 1
        below_at k l (yes z) t =
            let x = ap (word put) z ∙ put_here in
            let y = c.below h head-before in
            omega (arith, x, y)
        below_at k l (no n) (yes z) = let x = ap (word put) z ∙ put_head in omega (arith, x)
        below_at k l (no n) (no m) =
            let u : k < i = omega (arith, n) in
            let x = put_other k u m in
            let y = c.below k u in
            omega (arith, x, y)

        same_at : (k : ℕ) → k < i + 1 → Dec (k ≡ i) → Dec (k ≡ h) → class_of heads (word put k) ≡ class_of heads k
        same_at k l (yes z) t =
            ap (class_of heads) (ap (word put) z ∙ put_here) ∙ c.same h head-before ∙ head_own ∙ ap (class_of heads) (sym z)
        same_at k l (no n) (yes z) =
            ap (class_of heads) (ap (word put) z ∙ put_head) ∙ sym head_own ∙ ap (class_of heads) (sym z)
        same_at k l (no n) (no m) =
            let u : k < i = omega (arith, n) in
            ap (class_of heads) (put_other k u m) ∙ c.same k u

        around_at : (j k : ℕ) → j < i + 1 → k < i + 1 → class_of heads j ≡ class_of heads k → Dec (j ≡ i) → Dec (k ≡ i) → Follows put j k
        around_at j k l m q (yes y) (yes z) = rw (y, z) here
        around_at j k l m q (yes y) (no n) =
            let u : k < i = omega (arith, n) in
            let v = c.below h head-before in
            let r = put_follows v (c.around (word next h) k v u (c.same h head-before ∙ head_own ∙ ap (class_of heads) (sym y) ∙ q)) in
            let r' : Follows put (word put j) k = rw (y, put_here) r in
            onward r'
        around_at j k l m q (no n) (yes z) =
            let u : j < i = omega (arith, n) in
            let r = put_follows u (c.around j h u head-before (q ∙ ap (class_of heads) z ∙ sym head_own)) in
            let t : Follows put (word put h) k = rw (put_head, z) here in
            follows_on r (onward t)
        around_at j k l m q (no n) (no o) =
            put_follows (omega (arith, n)) (c.around j k (omega (arith, n)) (omega (arith, o)) q)

-- Node i is given head h.
module _ (heads next : List ℕ) (i h : ℕ) (b : i < length heads) (few : length heads ≤ max_nodes) (c : CirclesBefore heads next i) where
  headed_here : class_of (set heads i h) i ≡ h
  headed_here = get_or-set_same heads i h 0 b

  headed_other : (k : ℕ) → k < i → class_of (set heads i h) k ≡ class_of heads k
  headed_other k l = get_or-set_other heads i k h 0 (λ z. omega (arith, z, l))

  headed_few : length (set heads i h) ≤ max_nodes
  headed_few = let x = length-set heads i h in omega (arith, x, few)

  headed_inside : i < length (set heads i h)
  headed_inside = let x = length-set heads i h in omega (arith, x, b)

  -- the nodes before it are in their circles as before
  circles_headed : CirclesBefore (set heads i h) next i
  circles_headed =
      record {
        size = c.size;
        below = c.below;
        same = λ k l. headed_other (word next k) (c.below k l) ∙ c.same k l ∙ sym (headed_other k l);
        around = λ j k l m q. c.around j k l m (sym (headed_other j l) ∙ q ∙ headed_other k m);
        clear = c.clear;
      }

  -- it is its own head, and that of none before it
  pub head_begins : ((k : ℕ) → k < i → class_of heads k ≤ k) → h ≡ i → PutHead heads next i h (set heads i h) (set next i i)
  head_begins low e =
      record {
        headed = refl;
        circles =
            circle_begins (set heads i h) next i headed_inside headed_few circles_headed (headed_here ∙ e)
            (λ k l. let x = headed_other k l in let y = low k l in omega (arith, x, y));
      }

  -- its head is before it and its own
  pub head_grows : h ≤ i → (h < i → class_of heads h ≡ h) → (h ≡ i → ⊥) →
      PutHead heads next i h (set heads i h) (set (set next i (word next h)) h i)
  head_grows l own d =
      let m : h < i = omega (arith, l, d) in
      record {
        headed = refl;
        circles = circle_grows (set heads i h) next i headed_inside headed_few circles_headed h m headed_here (headed_other h m ∙ own m);
      }
