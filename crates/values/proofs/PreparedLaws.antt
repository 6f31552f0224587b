-- What binding words need: the open applications are listed behind the counts, and the closed ones with a table of them. A list goes on
-- with the next number that has its property. Assumes nothing.
use Prim.Native.Nat.{ℕ, zero, suc, ◌+◌, ◌≤◌, ◌<◌}
use mathlib.Core.Bool.{Bool, true, false, not, ◌&&◌, false≢true}
use mathlib.Core.List.{List}
use mathlib.Core.Logic.{◌⊎◌, inl, inr}
use mathlib.Core.Path.{◌≡◌, refl, sym, ap, ◌∙◌}
use native.Mathlib.Decide.{ℕ_discrete}
use native.Mathlib.Nat.{mod-lt}
use native.Mathlib.Omega.{arith}
use borrow.Author.Tests.{eq-eqb, ne_eqb, eqb-true, eqb-false, not-true}
use borrow.Author.Count.{below_more}
use lib.Dec.{eqb}
use lib.ListN.{length, set, take, drop, length-set, length-drop}
use lib.Seq.{get_or-set_same, get_or-set_other, get_or-take, get_or-drop, length-take-le}
use Rattle.table.specs.Limits.{max_nodes}
use Rattle.table.specs.Layout.{word, kind_of, count_of, node_count, argument_of}
use Rattle.table.proofs.BoolLaws.{and_true_left, and_true_right}
use Rattle.unification.specs.Computed.Classes.{class_of}
use Rattle.unification.specs.Code.Heads.{Partition}
use Rattle.unification.specs.Code.Sections.{Sections}
use Rattle.unification.proofs.SectionLaws.{counted_application}
use Rattle.nodes.specs.Code.Open.{IsClosed, closed_test, Counts, CountedAt, OpenListed, closed_head_test}
use Rattle.nodes.specs.Code.Named.{Themselves}
use Rattle.values.specs.declared.applications.Applications.{Applications}
use Rattle.values.specs.Code.Applications.{keys, Sizes, IsEmpty, with_place, Chained}
use Rattle.values.specs.Code.Naming.{key_up_to, key_of, key_at, Representative}
use Rattle.values.specs.Code.Prepared.{Gathered, IsOpen, OpenBefore, CountNoted, none_looked_at, some_looked_at, ClosedNoted, ListsClosed}
use Rattle.nodes.proofs.OpenLaws.{closed_true, closed_test_lem, looked_at}
use Rattle.values.proofs.AlikeLaws.{key_kept}
use Rattle.values.proofs.ChainLaws.{chained_none, chained_add}
use Rattle.values.proofs.CountLaws.{counts_none, counts_next, counts_kept, counts_end}

-- how long a part of a list is
part_long : (start n : ℕ) (l : List ℕ) → start + n ≤ length l → length (take n (drop start l)) ≡ n
part_long start n l h =
    let d = length-drop start l in
    length-take-le n (drop start l) (omega (arith, d))

-- what stands in it
part_at : (start n p : ℕ) (l : List ℕ) → p < n → word (take n (drop start l)) p ≡ word l (start + p)
part_at start n p l h = get_or-take n (drop start l) p 0 h ∙ get_or-drop start l p 0

-- at first there are none
gathered_none : (P : ℕ → Type 0) (start : ℕ) (prepared : List ℕ) → Gathered P start prepared 0 0
gathered_none P start prepared =
    record {
      few = omega arith;
      below = λ p h. absurd (omega arith);
      has = λ p h. absurd (omega arith);
      rising = λ p q l h. absurd (omega arith);
      whole = λ k h. absurd (omega arith);
    }

-- the same numbers have another property, and stand in another list
pub gathered_same : (P P' : ℕ → Type 0) (start : ℕ) (prepared prepared' : List ℕ) (count i : ℕ) → ((k : ℕ) → k < i → P k → P' k) →
    ((k : ℕ) → k < i → P' k → P k) → ((p : ℕ) → p < count → word prepared' (start + p) ≡ word prepared (start + p)) →
    Gathered P start prepared count i → Gathered P' start prepared' count i
gathered_same P P' start prepared prepared' count i there back kept g =
    record {
      few = g.few;
      below = λ p h. rw (kept p h) (g.below p h);
      has = λ p h. rw (kept p h) (there (word prepared (start + p)) (g.below p h) (g.has p h));
      rising = λ p q l h. rw (kept p (omega arith), kept q h) (g.rising p q l h);
      whole = λ k l q. let w = g.whole k l (back k l q) in (w.0, w.1, kept w.0 w.1 ∙ w.2);
    }

module _ (P : ℕ → Type 0) (start : ℕ) (prepared : List ℕ) (count i : ℕ) (g : Gathered P start prepared count i) where
  -- a number without the property
  gathered_skip : (P i → ⊥) → Gathered P start prepared count (i + 1)
  gathered_skip n =
      let f = g.few in
      record {
        few = omega (arith, f);
        below = λ p h. let b = g.below p h in omega (arith, b);
        has = g.has;
        rising = g.rising;
        whole = below_more (λ k. P k → (p : ℕ) × (p < count) × (word prepared (start + p) ≡ k)) i g.whole (λ h. absurd (n h));
      }

  -- a number with it is put behind the others
  gathered_put : (prepared' : List ℕ) → P i → ((p : ℕ) → p < count → word prepared' (start + p) ≡ word prepared (start + p)) →
      word prepared' (start + count) ≡ i → Gathered P start prepared' (count + 1) (i + 1)
  gathered_put prepared' here kept put =
      let f = g.few in
      record {
        few = omega (arith, f);
        below = below_more (λ p. word prepared' (start + p) < i + 1) count (λ p l. let e = kept p l in let b = g.below p l in omega (arith, e, b))
            (omega (arith, put));
        has = below_more (λ p. P (word prepared' (start + p))) count (λ p l. rw (kept p l) (g.has p l)) (rw put here);
        rising = λ p q l h. rising_at p q l h (ℕ_discrete q count);
        whole = below_more (λ k. P k → (p : ℕ) × (p < count + 1) × (word prepared' (start + p) ≡ k)) i
            (λ k l h. let w = g.whole k l h in let b = w.1 in (w.0, omega (arith, b), kept w.0 w.1 ∙ w.2)) (λ h. (count, omega arith, put));
      }
    where
      rising_at : (p q : ℕ) → p < q → q < count + 1 → Dec (q ≡ count) → word prepared' (start + p) < word prepared' (start + q)
      rising_at p q l h (yes e) =
          let u : p < count = omega (arith, e) in
          let x = kept p u in
          let b = g.below p u in
          let y : word prepared' (start + q) ≡ i = ap (λ (k : ℕ). word prepared' (start + k)) e ∙ put in
          omega (arith, x, b, y)
      rising_at p q l h (no n) =
          let v : q < count = omega (arith, n) in
          let x = kept p (omega (arith, v)) in
          let y = kept q v in
          let r = g.rising p q l v in
          omega (arith, x, y, r)

-- at first there are none
pub open_none : (nodes arguments counts : List ℕ) → Sections nodes arguments → 512 ≤ length counts → OpenBefore nodes arguments counts counts 0 0
open_none nodes arguments counts s l =
    let z = s.limit in
    record {
      size = refl;
      counted = counts_none nodes arguments counts (omega (arith, z, l));
      gathered = gathered_none (IsOpen counts) 256 counts;
      fewer = omega arith;
      behind = λ k h. refl;
    }

module _ (nodes arguments counts₀ counts : List ℕ) (opens i count : ℕ) (s : Sections nodes arguments)
    (o : OpenBefore nodes arguments counts₀ counts opens i) (h : i < node_count nodes) (l : 512 ≤ length counts₀)
    (d : CountedAt nodes arguments counts i count) where
  -- a node is below the limit, and so are the open ones before it
  pub open_place : (i < max_nodes) × (opens < max_nodes) × (512 ≤ length counts)
  open_place =
      let z = s.limit in
      let f = o.gathered.few in
      let e = o.size in
      (omega (arith, z, h), omega (arith, z, f, h), omega (arith, e, l))

  -- The counts, with that of node i.
  abbrev counted_here : List ℕ
  counted_here = set counts i count

  here : word counted_here i ≡ count
  here = let p = open_place in let a = p.0 in let b = p.2 in get_or-set_same counts i count 0 (omega (arith, a, b))

  other : (k : ℕ) → (k ≡ i → ⊥) → word counted_here k ≡ word counts k
  other k n = get_or-set_other counts i k count 0 n

  counted_next : Counts nodes arguments counted_here (i + 1)
  counted_next = counts_next nodes arguments counts s i count h o.counted d

  -- the open ones before node i are the same by other counts that are the same before it
  gathered_before : (counts' : List ℕ) → ((k : ℕ) → k < i → word counts' k ≡ word counts k) →
      Gathered (IsOpen counts') 256 counted_here opens i
  gathered_before counts' e =
      let b = open_place.0 in
      gathered_same (IsOpen counts) (IsOpen counts') 256 counts counted_here opens i (λ k m q. rw (e k m) q) (λ k m q. rw (e k m) at q)
      (λ p m. other (256 + p) (λ z. omega (arith, z, b))) o.gathered

  -- a node none of whose arguments is looked at
  open_skip : count ≡ 0 → OpenBefore nodes arguments counts₀ (set counts i count) opens (i + 1)
  open_skip e =
      let f = o.fewer in
      let b = open_place.0 in
      record {
        size = length-set counts i count ∙ o.size;
        counted = counted_next;
        gathered =
            gathered_skip (IsOpen counted_here) 256 counted_here opens i (gathered_before counted_here (λ k m. other k (λ z. omega (arith, z, m))))
            (λ q. omega (arith, q, here, e));
        fewer = omega (arith, f);
        behind = λ k m. other k (λ z. omega (arith, z, m, b)) ∙ o.behind k m;
      }

  -- one with arguments that are looked at has a node before it
  open_later : (count ≡ 0 → ⊥) → 0 < i
  open_later n = go d.some
    where
      go : (count ≡ 0) ⊎ (count ≡ count_of nodes i) → 0 < i
      go (inl e) = absurd (n e)
      go (inr e) = let a = s.smaller i 0 h (omega (arith, n, e)) in omega (arith, a)

  -- and is put behind the others
  open_put : (count ≡ 0 → ⊥) → OpenBefore nodes arguments counts₀ (set (set counts i count) (256 + opens) i) (opens + 1) (i + 1)
  open_put n =
      record {
        size = long ∙ o.size;
        counted = counts_kept nodes arguments counted_here listed (i + 1) (omega arith) (length-set counted_here (256 + opens) i) at_node
            counted_next;
        gathered =
            gathered_put (IsOpen listed) 256 counted_here opens i
            (gathered_before listed (λ k m. at_node k (omega arith) ∙ other k (λ z. omega (arith, z, m)))) listed some
            (λ p m. apart (256 + p) (λ z. omega (arith, z, m)))
            (get_or-set_same counted_here (256 + opens) i 0 (omega (arith, p.1, p.2, length-set counts i count)));
        fewer = let f = o.fewer in let b = open_later n in omega (arith, f, b);
        behind = λ k m. apart k (λ z. omega (arith, z, m, p.1)) ∙ other k (λ z. omega (arith, z, m, p.0)) ∙ o.behind k m;
      }
    where
      p : (i < max_nodes) × (opens < max_nodes) × (512 ≤ length counts)
      p = open_place

      listed : List ℕ
      listed = set counted_here (256 + opens) i

      long : length listed ≡ length counts
      long = length-set counted_here (256 + opens) i ∙ length-set counts i count

      apart : (k : ℕ) → (k ≡ 256 + opens → ⊥) → word listed k ≡ word counted_here k
      apart k m = get_or-set_other counted_here (256 + opens) k i 0 m

      at_node : (k : ℕ) → k < node_count nodes → word listed k ≡ word counted_here k
      at_node k m = let z = s.limit in apart k (λ y. omega (arith, y, m, z))

      some : 0 < word listed i
      some = let e = at_node i h in omega (arith, e, here, n)

  -- one node more
  pub open_next : (r : ℕ) (counts' : List ℕ) → CountNoted counts i count opens r counts' → OpenBefore nodes arguments counts₀ counts' r (i + 1)
  open_next r counts' (none_looked_at e x y) = rw (x, y) (open_skip e)
  open_next r counts' (some_looked_at n x y) = rw (x, y) (open_put n)

-- the open applications of all nodes
pub open_all : (nodes arguments counts₀ counts : List ℕ) (opens i n : ℕ) → Sections nodes arguments → 512 ≤ length counts₀ → n ≡ node_count nodes →
    n ≤ max_nodes → i ≤ n → n ≤ i → OpenBefore nodes arguments counts₀ counts opens i →
    Counts nodes arguments counts (node_count nodes) × ((opens < max_nodes) × (OpenListed nodes counts (take opens (drop 256 counts)) ×
    (((k : ℕ) → 512 ≤ k → word counts k ≡ word counts₀ k) × (length counts ≡ length counts₀))))
open_all nodes arguments counts₀ counts opens i n s l e m a b o = (
  right,
  (
    few,
    (
      record { node = λ p h. rw (at p h) (node p (rw long at h)); applied = λ p h. rw (at p h) (applied p (rw long at h)); whole = whole },
      (o.behind, o.size),
    ),
  ),
)
  where
    right : Counts nodes arguments counts (node_count nodes)
    right = counts_end nodes arguments counts i n e a b o.counted

    few : opens < max_nodes
    few = let f = o.fewer in omega (arith, f)

    long : length (take opens (drop 256 counts)) ≡ opens
    long = let z = o.size in part_long 256 opens counts (omega (arith, z, l, few))

    at : (p : ℕ) → p < length (take opens (drop 256 counts)) → word (take opens (drop 256 counts)) p ≡ word counts (256 + p)
    at p h = part_at 256 opens p counts (rw long at h)

    node : (p : ℕ) → p < opens → word counts (256 + p) < node_count nodes
    node p h = let x = o.gathered.below p h in omega (arith, x)

    applied : (p : ℕ) → p < opens → kind_of nodes (word counts (256 + p)) ≡ 0 → ⊥
    applied p h =
        counted_application nodes arguments s (word counts (256 + p)) 0 (node p h)
        (looked_at right (word counts (256 + p)) 0 (node p h) (o.gathered.has p h))

    whole : (k : ℕ) → k < node_count nodes → 0 < word counts k →
        (p : ℕ) × (p < length (take opens (drop 256 counts))) × (word (take opens (drop 256 counts)) p ≡ k)
    whole k h q =
        let w = o.gathered.whole k (omega arith) q in
        (w.0, rw long w.1, part_at 256 opens w.0 counts w.1 ∙ w.2)

key_up_to_small : (nodes arguments heads names : List ℕ) (h j : ℕ) → key_up_to nodes arguments heads names h j < keys
unfolding key_up_to
key_up_to_small nodes arguments heads names h zero = mod-lt _ (omega arith)
key_up_to_small nodes arguments heads names h (suc j) = mod-lt _ (omega arith)

-- there are so many keys
key_small : (nodes arguments heads names : List ℕ) (h : ℕ) → key_of nodes arguments heads names h < keys
unfolding key_of
key_small nodes arguments heads names h = key_up_to_small nodes arguments heads names h (count_of nodes h)

-- A closed application with arguments that is the head of its class.
pub record IsClosedHead (nodes counts heads : List ℕ) (i : ℕ) : Type 0 where
  pub is_closed : IsClosed nodes counts i
  pub compound : 0 < count_of nodes i
  pub own : class_of heads i ≡ i

-- the test says so
head_true : (nodes counts heads : List ℕ) (i : ℕ) → i < node_count nodes → closed_head_test nodes counts heads i ≡ true →
    IsClosedHead nodes counts heads i
unfolding closed_head_test
head_true nodes counts heads i h e =
    let a = and_true_left (closed_test nodes counts i && not (eqb (count_of nodes i) 0)) (eqb (class_of heads i) i) e in
    let b = eqb-false (count_of nodes i) 0 (not-true _ (and_true_right (closed_test nodes counts i) (not (eqb (count_of nodes i) 0)) a)) in
    record {
      is_closed = closed_true nodes counts i h (and_true_left (closed_test nodes counts i) (not (eqb (count_of nodes i) 0)) a);
      compound = omega (arith, b);
      own = eqb-true (class_of heads i) i (and_true_right (closed_test nodes counts i && not (eqb (count_of nodes i) 0)) (eqb (class_of heads i) i)
          e);
    }

-- and only of these
head_false : (nodes counts heads : List ℕ) (i : ℕ) → closed_head_test nodes counts heads i ≡ false → IsClosedHead nodes counts heads i → ⊥
unfolding closed_head_test
head_false nodes counts heads i e m =
    let c = m.compound in
    false≢true
    (sym e ∙ rw (
      closed_test_lem nodes counts i m.is_closed,
      ne_eqb (count_of nodes i) 0 (λ z. omega (arith, z, c)),
      eq-eqb (class_of heads i) i
          m.own,
    ))

-- a closed application is noted by its key
pub closed_noted : (nodes arguments heads names order : List ℕ) (t : Applications) (place i k : ℕ) → k ≡ key_of nodes arguments heads names i →
    Sizes t → {order' : List ℕ} {t' : Applications} → order' ≡ set order place i → t' ≡ with_place t place k →
    ClosedNoted nodes arguments heads names order t place i order' t'
closed_noted nodes arguments heads names order t place i k e z x y = record { sizes = z; placed = x; chained = y ∙ ap (with_place t place) e }

-- a representative depends on the node at its place
representative_same : (nodes l l' names : List ℕ) (q : ℕ) → word l' q ≡ word l q → Representative nodes l names q → Representative nodes l' names q
representative_same nodes l l' names q e r = record { application = rw e r.application; itself = rw e r.itself }

key_at_same : (nodes arguments heads l l' names : List ℕ) (q : ℕ) → word l' q ≡ word l q →
    key_at nodes arguments heads l' names q ≡ key_at nodes arguments heads l names q
unfolding key_at
key_at_same nodes arguments heads l l' names q e = ap (key_of nodes arguments heads names) e

-- what stands in the first places of a list
first_at : (n p : ℕ) (l : List ℕ) → p < n → word (take n l) p ≡ word l (0 + p)
first_at n p l h = get_or-take n l p 0 h ∙ ap (word l) (let e : p ≡ 0 + p = omega arith in e)

-- Of the nodes before node i, the closed applications with arguments that are heads are listed, and stand in the table.
pub record ClosedBefore (nodes arguments counts heads order : List ℕ) (t : Applications) (count i : ℕ) : Type 0 where
  pub order_long : length order ≡ max_nodes
  pub gathered : Gathered (IsClosedHead nodes counts heads) 0 order count i
  pub chained : (names : List ℕ) → length names ≡ node_count nodes → Themselves names →
      Chained (Representative nodes (take count order) names) (key_at nodes arguments heads (take count order) names) t count

-- at first there are none
pub closed_list_none : (nodes arguments counts heads order : List ℕ) (t : Applications) → length order ≡ max_nodes → IsEmpty t →
    ClosedBefore nodes arguments counts heads order t 0 0
closed_list_none nodes arguments counts heads order t a e =
    record {
      order_long = a;
      gathered = gathered_none (IsClosedHead nodes counts heads) 0 order;
      chained = λ names l m. chained_none _ _ t e;
    }

module _ (nodes arguments counts heads order : List ℕ) (t : Applications) (count i : ℕ) (o : ClosedBefore nodes arguments counts heads order t count i) where
  -- a node that is none
  pub closed_list_skip : (v : Bool) → v ≡ closed_head_test nodes counts heads i → v ≡ false → {order' : List ℕ} {t' : Applications} {count' : ℕ} →
      order' ≡ order → t' ≡ t → count' ≡ count → ClosedBefore nodes arguments counts heads order' t' count' (i + 1)
  closed_list_skip v e f x y w =
      rw (x, y, w)
      (record {
        order_long = o.order_long;
        gathered = gathered_skip (IsClosedHead nodes counts heads) 0 order count i o.gathered (head_false nodes counts heads i (sym e ∙ f));
        chained = o.chained;
      })

  module _ (names : List ℕ) (p : Partition (node_count nodes) heads) (s : Sections nodes arguments) (long : length names ≡ node_count nodes)
      (themselves : Themselves names) (h : i < node_count nodes) (few : count < max_nodes) where
    abbrev k : ℕ
    k = key_of nodes arguments heads names i

    abbrev noted : List ℕ
    noted = set order count i

    noted_here : word noted (0 + count) ≡ i
    noted_here =
        let e : 0 + count ≡ count = omega arith in
        let l = o.order_long in
        ap (word noted) e ∙ get_or-set_same order count i 0 (omega (arith, l, few))

    noted_list : (q : ℕ) → q < count → word noted (0 + q) ≡ word order (0 + q)
    noted_list q b = get_or-set_other order count (0 + q) i 0 (λ z. omega (arith, z, b))

    -- the list so far, as a part
    list_kept : (q : ℕ) → q < count → word (take (count + 1) noted) q ≡ word (take count order) q
    list_kept q b = first_at (count + 1) q noted (omega arith) ∙ noted_list q b ∙ sym (first_at count q order b)

    list_here : word (take (count + 1) noted) count ≡ i
    list_here = first_at (count + 1) count noted (omega arith) ∙ noted_here

    -- a key does not depend on which names there are
    one_key : (names' : List ℕ) → length names' ≡ node_count nodes → Themselves names' → key_of nodes arguments heads names' i ≡ k
    one_key names' m t =
        key_kept nodes arguments heads names names' i
        (λ j q.
        let a = s.smaller i j h q in
        let b = p.below (argument_of nodes arguments i j) (omega (arith, a, h)) in
        t.itself (class_of heads (argument_of nodes arguments i j)) (omega (arith, b, m))
        ∙ sym (themselves.itself (class_of heads (argument_of nodes arguments i j)) (omega (arith, b, long))))

    -- one more is put into the table
    chained_put : Sizes t → IsClosedHead nodes counts heads i → (names' : List ℕ) → length names' ≡ node_count nodes → Themselves names' →
        Chained (Representative nodes (take (count + 1) noted) names') (key_at nodes arguments heads (take (count + 1) noted) names')
        (with_place t count k) (count + 1)
    unfolding key_at
    chained_put z c names' m u =
        chained_add (Representative nodes before names') (Representative nodes after names') (key_at nodes arguments heads before names')
        (key_at nodes arguments heads after names') t count
        (λ q b. representative_same nodes before after names' q (list_kept q b))
        (λ q b. representative_same nodes after before names' q (sym (list_kept q b)))
        (λ q b. key_at_same nodes arguments heads before after names' q (list_kept q b)) (o.chained names' m u) k
        (record { application = rw list_here c.is_closed.applied; itself = rw list_here (u.itself i (omega (arith, m, h))) })
        (ap (key_of nodes arguments heads names') list_here ∙ one_key names' m u) (key_small nodes arguments heads names i) z.latest z.earlier few
      where
        before : List ℕ
        before = take count order

        after : List ℕ
        after = take (count + 1) noted

    -- one that is
    pub closed_list_put : (v : Bool) → v ≡ closed_head_test nodes counts heads i → v ≡ true → (order₁ : List ℕ) (t₁ : Applications) →
        ClosedNoted nodes arguments heads names order t count i order₁ t₁ → {order' : List ℕ} {t' : Applications} {count' : ℕ} →
        order' ≡ order₁ → t' ≡ t₁ → count' ≡ count + 1 → ClosedBefore nodes arguments counts heads order' t' count' (i + 1)
    closed_list_put v e f order₁ t₁ d x y w =
        let c = head_true nodes counts heads i h (sym e ∙ f) in
        rw (x, y, w, d.placed, d.chained)
        (record {
          order_long = length-set order count i ∙ o.order_long;
          gathered = gathered_put (IsClosedHead nodes counts heads) 0 order count i o.gathered noted c noted_list noted_here;
          chained = chained_put d.sizes c;
        })

-- the closed applications of all nodes
pub closed_list_all : (nodes arguments counts heads order : List ℕ) (t : Applications) (count i n : ℕ) → n ≡ node_count nodes → n ≤ max_nodes →
    i ≤ n → n ≤ i → ClosedBefore nodes arguments counts heads order t count i → ListsClosed nodes arguments counts heads count order t
closed_list_all nodes arguments counts heads order t count i n e m a b o =
    record {
      few = few;
      listed = record {
        is_closed = λ p h. rw (at p h) (o.gathered.has p (rw long at h)).is_closed;
        compound = λ p h. rw (at p h) (o.gathered.has p (rw long at h)).compound;
        own = λ p h. rw (at p h) (o.gathered.has p (rw long at h)).own;
        rising = λ p q g h.
            let u : q < count = rw long at h in
            let x = first_at count p order (omega (arith, g, u)) in
            let y = first_at count q order u in
            let r = o.gathered.rising p q g u in
            omega (arith, x, y, r);
        whole = λ k c f d.
            let v = c.node in
            let w = o.gathered.whole k (omega (arith, v)) (record { is_closed = c; compound = f; own = d }) in
            (w.0, rw long w.1, first_at count w.0 order w.1 ∙ w.2);
      };
      chained = record { chained = λ names h m. rw long (o.chained names h m) };
    }
  where
    few : count ≤ max_nodes
    few = let f = o.gathered.few in omega (arith, f)

    long : length (take count order) ≡ count
    long = length-take-le count order (let z = o.order_long in omega (arith, z, few))

    at : (p : ℕ) → p < length (take count order) → word (take count order) p ≡ word order (0 + p)
    at p h = first_at count p order (rw long at h)
