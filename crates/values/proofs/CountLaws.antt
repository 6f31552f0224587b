-- How many arguments of a node are looked at, counted node by node. Assumes nothing.
use Prim.Native.Nat.{ℕ, ◌+◌, ◌≤◌, ◌<◌}
use mathlib.Core.Bool.{Bool, true, false, ◌&&◌, false≢true}
use mathlib.Core.List.{List}
use mathlib.Core.Logic.{◌⊎◌, inl, inr}
use mathlib.Core.Path.{◌≡◌, refl, sym, ap, ◌∙◌}
use native.Mathlib.Decide.{ℕ_discrete}
use native.Mathlib.Omega.{arith}
use borrow.Author.Count.{below_more}
use lib.ListN.{length, set, length-set}
use lib.Seq.{get_or-set_same, get_or-set_other}
use Rattle.table.specs.Layout.{word, count_of, node_count, argument_of}
use Rattle.unification.specs.Code.Sections.{Sections}
use Rattle.nodes.specs.Code.Open.{IsClosed, closed_test, Counts, CountedAt}
use Rattle.nodes.proofs.OpenLaws.{closed_true, closed_false}

-- Of the first j arguments of node i all are closed applications, or some one is not.
pub record ClosedSoFar (nodes arguments counts : List ℕ) (i j : ℕ) (v : Bool) : Type 0 where
  pub all : v ≡ true → (q : ℕ) → q < j → IsClosed nodes counts (argument_of nodes arguments i q)
  pub not_all : v ≡ false → (q : ℕ) × (q < j) × (IsClosed nodes counts (argument_of nodes arguments i q) → ⊥)

-- at first none is asked for
pub closed_none : (nodes arguments counts : List ℕ) (i : ℕ) → ClosedSoFar nodes arguments counts i 0 true
closed_none nodes arguments counts i = record { all = λ e q h. absurd (omega arith); not_all = λ e. absurd (false≢true (sym e)) }

-- one argument more
pub closed_next : (nodes arguments counts : List ℕ) (i j a : ℕ) (v t : Bool) → a < node_count nodes → a ≡ argument_of nodes arguments i j →
    t ≡ closed_test nodes counts a → ClosedSoFar nodes arguments counts i j v → ClosedSoFar nodes arguments counts i (j + 1) (v && t)
closed_next nodes arguments counts i j a v t small is e b = pick v t e b
  where
    still : ClosedSoFar nodes arguments counts i j false → ClosedSoFar nodes arguments counts i (j + 1) false
    still b =
        record {
          all = λ z. absurd (false≢true z);
          not_all = λ z. let r = b.not_all refl in (r.0, omega (arith, r.1), r.2);
        }

    pick : (v t : Bool) → t ≡ closed_test nodes counts a → ClosedSoFar nodes arguments counts i j v →
        ClosedSoFar nodes arguments counts i (j + 1) (v && t)
    pick true true e b =
        record {
          all = λ z.
              below_more (λ q. IsClosed nodes counts (argument_of nodes arguments i q)) j (b.all refl)
              (rw is at (closed_true nodes counts a small (sym e)));
          not_all = λ z. absurd (false≢true (sym z));
        }
    pick true false e b =
        record { all = λ z. absurd (false≢true z); not_all = λ z. (j, omega arith, λ c. closed_false nodes counts a (sym e) (rw is c)) }
    pick false true e b = still b
    pick false false e b = still b

module _ (nodes arguments counts : List ℕ) (i j n : ℕ) (v : Bool) (c : n ≡ count_of nodes i) (l : j ≤ n) (m : n ≤ j)
    (b : ClosedSoFar nodes arguments counts i j v) where
  -- all are closed, so none is looked at
  pub counted_none : v ≡ true → CountedAt nodes arguments counts i 0
  counted_none e = record { some = inl refl; below = λ z q h. b.all e q (omega arith); above = λ z. refl }

  -- one is not, so all are looked at
  pub counted_some : v ≡ false → CountedAt nodes arguments counts i n
  counted_some e =
      let r = b.not_all e in
      record {
        some = inr c;
        below = λ z. absurd (omega (arith, r.1, l, z));
        above = λ z. absurd (r.2 (z r.0 (omega (arith, r.1, l, c))));
      }

-- no node is counted yet
pub counts_none : (nodes arguments counts : List ℕ) → node_count nodes ≤ length counts → Counts nodes arguments counts 0
counts_none nodes arguments counts h =
    record {
      enough = h;
      some = λ i l. absurd (omega arith);
      below = λ i l. absurd (omega arith);
      above = λ i l. absurd (omega arith);
    }

module _ (nodes arguments counts : List ℕ) (s : Sections nodes arguments) (i r : ℕ) (h : i < node_count nodes)
    (c : Counts nodes arguments counts i) (d : CountedAt nodes arguments counts i r) where
  abbrev after : List ℕ
  after = set counts i r

  here : word after i ≡ r
  here = let l = c.enough in get_or-set_same counts i r 0 (omega (arith, l))

  other : (k : ℕ) → k < i → word after k ≡ word counts k
  other k l = get_or-set_other counts i k r 0 (λ z. omega (arith, l, z))

  -- closed applications below node i stay so
  stays : (k : ℕ) → k < i → IsClosed nodes counts k → IsClosed nodes after k
  stays k l m = record { node = m.node; applied = m.applied; none = other k l ∙ m.none }

  -- and were so
  was : (k : ℕ) → k < i → IsClosed nodes after k → IsClosed nodes counts k
  was k l m = record { node = m.node; applied = m.applied; none = sym (other k l) ∙ m.none }

  argument_below : (k j : ℕ) → k < i + 1 → j < count_of nodes k → argument_of nodes arguments k j < i
  argument_below k j l q =
      let a = s.smaller k j (omega arith) q in
      omega (arith, a)

  -- one node more
  pub counts_next : Counts nodes arguments (set counts i r) (i + 1)
  counts_next =
      record {
        enough = rw (length-set counts i r) c.enough;
        some = below_more (λ k. (word after k ≡ 0) ⊎ (word after k ≡ count_of nodes k)) i (λ k l. rw (other k l) (c.some k l)) (rw here d.some);
        below = λ k l. below_at k l (ℕ_discrete k i);
        above = λ k l. above_at k l (ℕ_discrete k i);
      }
    where
      below_at : (k : ℕ) → k < i + 1 → Dec (k ≡ i) → IsClosed nodes after k → (j : ℕ) → j < count_of nodes k →
          IsClosed nodes after (argument_of nodes arguments k j)
      below_at k l (yes e) m j q =
          stays (argument_of nodes arguments k j) (argument_below k j l q)
          (rw e (d.below (sym here ∙ ap (word after) (sym e) ∙ m.none) j (rw e at q)))
      below_at k l (no n) m j q =
          let b : k < i = omega (arith, n) in
          stays (argument_of nodes arguments k j) (argument_below k j l q) (c.below k b (was k b m) j q)

      above_at : (k : ℕ) → k < i + 1 → Dec (k ≡ i) → ((j : ℕ) → j < count_of nodes k → IsClosed nodes after (argument_of nodes arguments k j)) →
          word after k ≡ 0
      above_at k l (yes e) m =
          ap (word after) e ∙ here ∙ d.above (λ j q. was (argument_of nodes arguments i j) (argument_below i j (omega arith) q) ((rw e at m) j q))
      above_at k l (no n) m =
          let b : k < i = omega (arith, n) in
          other k b ∙ c.above k b (λ j q. was (argument_of nodes arguments k j) (argument_below k j l q) (m j q))

-- counts stay right where those of the nodes stay
pub counts_kept : (nodes arguments counts counts' : List ℕ) (n : ℕ) → n ≤ node_count nodes → length counts' ≡ length counts →
    ((k : ℕ) → k < node_count nodes → word counts' k ≡ word counts k) → Counts nodes arguments counts n → Counts nodes arguments counts' n
counts_kept nodes arguments counts counts' n b l e c =
    record {
      enough = rw l c.enough;
      some = λ i h. rw (e i (omega arith)) (c.some i h);
      below = λ i h m j q. there (argument_of nodes arguments i j) (c.below i h (back i m) j q);
      above = λ i h m. e i (omega arith) ∙ c.above i h (λ j q. back (argument_of nodes arguments i j) (m j q));
    }
  where
    there : (k : ℕ) → IsClosed nodes counts k → IsClosed nodes counts' k
    there k m = record { node = m.node; applied = m.applied; none = e k m.node ∙ m.none }

    back : (k : ℕ) → IsClosed nodes counts' k → IsClosed nodes counts k
    back k m = record { node = m.node; applied = m.applied; none = sym (e k m.node) ∙ m.none }

-- the counts of as many nodes as there are
pub counts_end : (nodes arguments counts : List ℕ) (i n : ℕ) → n ≡ node_count nodes → i ≤ n → n ≤ i → Counts nodes arguments counts i →
    Counts nodes arguments counts (node_count nodes)
counts_end nodes arguments counts i n c a b m = let e : node_count nodes ≡ i = omega arith in rw e m
