-- Naming where each number names itself at first: closed applications that are heads keep their names, as those that are alike are one,
-- and an order of open ones is named behind them. Assumes nothing.
use Prim.Native.Nat.{ℕ, ◌+◌, ◌-◌, ◌<◌, ◌≤◌}
use mathlib.Core.List.{List, ◌++◌}
use mathlib.Core.Logic.{◌⊎◌, inl, inr}
use mathlib.Core.Path.{◌≡◌, sym, ap, ◌∙◌}
use native.Mathlib.Decide.{ℕ_discrete, dec_lt}
use native.Mathlib.Omega.{arith}
use lib.ListN.{length, take, drop, length-append, get_or-append}
use lib.Seq.{get_or-append-add, take_at, length-take-le}
use Rattle.table.specs.Limits.{max_nodes}
use Rattle.table.specs.Layout.{word, name_of, count_of, node_count, argument_of}
use Rattle.terms.specs.Term.{Term, var, app}
use Rattle.unification.specs.Node.{each, nodes_from}
use Rattle.unification.specs.Unifier.{value}
use Rattle.unification.specs.Computed.Classes.{class_of}
use Rattle.unification.specs.Code.Sections.{Sections}
use Rattle.unification.specs.Code.Heads.{Partition}
use Rattle.unification.proofs.NodeLaws.{each_equal, value_application}
use Rattle.unification.proofs.SectionLaws.{run, is_node, application_from, run_long, counted_application, pair_place, sections_well_formed}
use Rattle.nodes.specs.Code.Open.{IsClosed, Counts, OpenListed}
use Rattle.nodes.specs.Code.Order.{Met, leaf, before, Ordered}
use Rattle.nodes.specs.Code.Named.{value_name, Alike, Applied, Named, Themselves}
use Rattle.values.specs.declared.applications.Applications.{Applications}
use Rattle.values.specs.Code.Naming.{Nameable, IsPlaced, key_of, key_at, NamedBefore, Naming, NamedAlong}
use Rattle.binding.specs.Code.Binding.{HeadNames, NamesLeast, NoneLeads}
use Rattle.values.specs.Code.Prepared.{ClosedListed, ClosedTable}
use Rattle.nodes.specs.Code.Formed.{Formed}
use Rattle.values.proofs.AlikeLaws.{alike_same}
use Rattle.values.proofs.ChainLaws.{chained_same}
use Rattle.values.proofs.FindLaws.{order_short}
use Rattle.binding.proofs.BindingLaws.{heads_named}

-- there are no more nodes than the limit
nodes_few : (nodes arguments : List ℕ) → Sections nodes arguments → node_count nodes ≤ max_nodes
nodes_few nodes arguments s = let z = s.limit in omega (arith, z)

module _ (nodes arguments : List ℕ) (s : Sections nodes arguments) (counts heads : List ℕ) (k : Counts nodes arguments counts (node_count nodes))
    (f : Formed nodes arguments counts heads) where
  -- The term of a node.
  abbrev term_at : ℕ → Term
  term_at = value (nodes_from nodes arguments) var

  -- closed applications of one class have one term
  one_term : (a b : ℕ) → IsClosed nodes counts a → IsClosed nodes counts b → class_of heads a ≡ class_of heads b → term_at a ≡ term_at b
  one_term a b p q e = sym (f.closed.valued a p) ∙ ap term_at e ∙ f.closed.valued b q

  module _ (names : List ℕ) (l : length names ≡ node_count nodes) (t : Themselves names) where
    -- a class is named by its head
    own_name : (i : ℕ) → i < node_count nodes → value_name heads names i ≡ class_of heads i
    own_name i h = let b = f.partition.below i h in t.itself (class_of heads i) (omega (arith, b, l))

    -- closed applications that are alike have one head
    closed_alike : (g h : ℕ) → IsClosed nodes counts g → IsClosed nodes counts h → Alike nodes arguments heads names g h →
        class_of heads g ≡ class_of heads h
    closed_alike g h p q a =
        let e : each term_at (run nodes arguments g) ≡ each term_at (run nodes arguments h) = each_equal term_at term_at (run nodes arguments g)
        (run nodes arguments h) (run_long nodes arguments s g p.node ∙ a.count ∙ sym (run_long nodes arguments s h q.node))
        (λ x y m. at x y ((pair_place nodes arguments s g h p.node q.node x y).0 m)) in
        f.closed.shared g h p q
        (spelt g p ∙ ap (λ (n : ℕ). app n (each term_at (run nodes arguments g))) a.name ∙ ap (app (name_of nodes h)) e ∙ sym (spelt h q))
      where
        spelt : (i : ℕ) → IsClosed nodes counts i → term_at i ≡ app (name_of nodes i) (each term_at (run nodes arguments i))
        spelt i m =
            value_application (nodes_from nodes arguments) (sections_well_formed nodes arguments s) var i (name_of nodes i) (run nodes arguments i)
            (is_node nodes arguments i m.node) (application_from nodes arguments i m.node m.applied)

        at : (x y : ℕ) →
            (j : ℕ) × (j < count_of nodes g) × (j < count_of nodes h) × (x ≡ argument_of nodes arguments g j) ×
            (y ≡ argument_of nodes arguments h j) →
            term_at x ≡ term_at y
        at x y (j, i, i', u, v) =
            let b = k.below g p.node p j i in
            let c = k.below h q.node q j i' in
            ap term_at u
            ∙ one_term (argument_of nodes arguments g j) (argument_of nodes arguments h j) b c
            (sym (own_name (argument_of nodes arguments g j) b.node) ∙ a.per_argument j i ∙ own_name (argument_of nodes arguments h j) c.node)
            ∙ ap term_at (sym v)

    -- Where no argument of a head is looked at.
    module _ (z : (i : ℕ) → i < node_count nodes → word counts (class_of heads i) ≡ 0) where
      -- a head that is an application is closed
      head_closed : (i : ℕ) → i < node_count nodes → Applied nodes heads i → IsClosed nodes counts (class_of heads i)
      head_closed i h n = record { node = f.partition.below i h; applied = n; none = z i h }

      -- classes are named by their heads
      closed_named : Named nodes arguments heads names
      closed_named =
          record {
            node = λ i h. rw (own_name i h) (f.partition.below i h);
            variable = λ i h e. own_name i h;
            application = λ i h n. rw (own_name i h) n;
            composed = λ i j h b n m a.
                ap (word names)
                (sym (f.partition.own i h) ∙ closed_alike (class_of heads i) (class_of heads j) (head_closed i h n) (head_closed j b m) a
                ∙ f.partition.own j b);
            taken_apart = λ i j h b n m e.
                let d : class_of heads i ≡ class_of heads j = sym (own_name i h) ∙ e ∙ own_name j b in
                rw d (alike_same (class_of heads j));
          }

      -- so closed applications by nodes not after them
      closed_least : NamesLeast nodes arguments counts heads names
      closed_least =
          record {
            alike = λ i h n. rw (own_name i h) (alike_same (class_of heads i));
            least = λ i m. rw (own_name i m.node) (f.closed.least i m);
          }

      -- which is what binding words need
      pub themselves_named : HeadNames nodes arguments heads names × NamesLeast nodes arguments counts heads names
      themselves_named = (heads_named nodes arguments heads names closed_named s f.partition l, closed_least)

  -- The closed heads with arguments, and behind them an order of the open ones.
  module _ (closed placed : List ℕ) (c : ClosedListed nodes counts heads closed) (o : Ordered nodes arguments (word counts) heads placed) where
    -- Both.
    abbrev order : List ℕ
    order = closed ++ placed

    -- A place is one of the first or one of the second.
    data Part (p : ℕ) : Type 0 where
      front : p < length closed → word order p ≡ word closed p → Part p
      back : (q : ℕ) → q < length placed → p ≡ length closed + q → word order p ≡ word placed q → Part p

    part : (p : ℕ) → p < length order → Part p
    part p h = go (dec_lt p (length closed))
      where
        go : Dec (p < length closed) → Part p
        go (yes l) = front l (get_or-append closed placed 0 p l)
        go (no n) =
            let e : p ≡ length closed + (p - length closed) = omega (arith, n) in
            let b = length-append closed placed in
            back (p - length closed) (omega (arith, n, b, h)) e (ap (word order) e ∙ get_or-append-add closed placed (p - length closed) 0)

    -- all arguments of an open application are looked at
    counted_all : (g : ℕ) → g < node_count nodes → 0 < word counts g → word counts g ≡ count_of nodes g
    counted_all g h l = go (k.some g h)
      where
        go : (word counts g ≡ 0) ⊎ (word counts g ≡ count_of nodes g) → word counts g ≡ count_of nodes g
        go (inl z) = absurd (omega (arith, z, l))
        go (inr e) = e

    -- the first are closed
    front_closed : (p : ℕ) → p < length closed → word order p ≡ word closed p → IsClosed nodes counts (word order p)
    front_closed p l e = rw e (c.is_closed p l)

    -- the second are open
    back_counts : (p q : ℕ) → q < length placed → word order p ≡ word placed q → 0 < word counts (word order p)
    back_counts p q l e = rw e (o.listed.compound q l)

    part_node : (p : ℕ) → Part p → word order p < node_count nodes
    part_node p (front l e) = rw e (c.is_closed p l).node
    part_node p (back q l d e) = rw e (o.listed.node q l)

    part_compound : (p : ℕ) → Part p → 0 < count_of nodes (word order p)
    part_compound p (front l e) = rw e (c.compound p l)
    part_compound p (back q l d e) =
        let x = back_counts p q l e in
        let y = counted_all (word order p) (part_node p (back q l d e)) x in
        omega (arith, x, y)

    part_once : (p q : ℕ) → p < q → Part p → Part q → word order p ≡ word order q → ⊥
    part_once p q h (front l e) (front m d) z =
        let x = c.rising p q h m in
        omega (arith, x, e, d, z)
    part_once p q h (front l e) (back r m u d) z =
        let x = (front_closed p l e).none in
        let y = back_counts q r m d in
        let w = ap (word counts) z in
        omega (arith, x, y, w)
    part_once p q h (back r l u e) (front m d) z = absurd (omega (arith, h, u, m))
    part_once p q h (back r l u e) (back v m w d) z =
        o.listed.once r v (omega (arith, h, u, w)) m (sym e ∙ z ∙ d)

    -- the head of an argument of a closed application stands before it, if it stands there
    closed_first : (q g j : ℕ) → q < length closed → word order q ≡ word closed q → j < count_of nodes (word order q) →
        class_of heads (argument_of nodes arguments (word order q) j) ≡ g → IsClosed nodes counts g × (g < word order q)
    closed_first q g j l e h d =
        let m = front_closed q l e in
        let a = k.below (word order q) m.node m j h in
        let x = f.closed.least (argument_of nodes arguments (word order q) j) a in
        let y = s.smaller (word order q) j m.node h in
        (rw d at (f.closed.closed (argument_of nodes arguments (word order q) j) a), omega (arith, x, y, d))

    part_first : (p q j : ℕ) → q ≤ p → Part p → Part q → j < count_of nodes (word order q) →
        class_of heads (argument_of nodes arguments (word order q) j) ≡ word order p → ⊥
    part_first p q j b (front l e) (front m d) h z = go (ℕ_discrete q p)
      where
        go : Dec (q ≡ p) → ⊥
        go (yes i) =
            let x = (closed_first q (word order p) j m d h z).1 in
            let y = ap (word order) i in
            omega (arith, x, y)
        go (no n) =
            let x = (closed_first q (word order p) j m d h z).1 in
            let y = c.rising q p (omega (arith, b, n)) l in
            omega (arith, x, y, e, d)
    part_first p q j b (back r l u e) (front m d) h z =
        let x = (closed_first q (word order p) j m d h z).0.none in
        let y = back_counts p r l e in
        omega (arith, x, y)
    part_first p q j b (front l e) (back v m w d) h z = absurd (omega (arith, b, w, l))
    part_first p q j b (back r l u e) (back v m w d) h z =
        let x = counted_all (word order q) (part_node q (back v m w d)) (back_counts q v m d) in
        let i : j < word counts (word order q) = omega (arith, h, x) in
        met (rw z at (rw (← d) at (o.listed.first v m) j i))
      where
        met : Met (word counts) placed v (word order p) → ⊥
        met (leaf y) = let x = back_counts p r l e in omega (arith, x, y)
        met (before t y g) = o.listed.once t r (omega (arith, b, u, w, y)) l (g ∙ e)

    -- nodes can be named along both
    prefix_nameable : Nameable nodes arguments heads (closed ++ placed)
    prefix_nameable =
        record {
          node = λ p h. part_node p (part p h);
          once = λ p q h l. part_once p q h (part p (omega arith)) (part q l);
          first = λ p q j b h. part_first p q j b (part p h) (part q (omega arith));
        }

    -- they are not too many
    pub prefix_few : length closed + length placed ≤ max_nodes
    prefix_few =
        let x = order_short nodes arguments heads order prefix_nameable in
        let y = nodes_few nodes arguments s in
        let z = length-append closed placed in
        omega (arith, x, y, z)

    -- a head with arguments stands in one of both
    head_placed : (i : ℕ) → i < node_count nodes → 0 < count_of nodes (class_of heads i) → IsPlaced order (class_of heads i)
    head_placed i h l = go (ℕ_discrete (word counts (class_of heads i)) 0)
      where
        b : class_of heads i < node_count nodes
        b = f.partition.below i h

        z : length order ≡ length closed + length placed
        z = length-append closed placed

        met : (word counts (class_of heads i) ≡ 0 → ⊥) → Met (word counts) placed (length placed) (class_of heads i) →
            IsPlaced order (class_of heads i)
        met n (leaf e) = absurd (n e)
        met n (before q m e) =
            (length closed + q, omega (arith, z, m), get_or-append-add closed placed q 0 ∙ e)

        go : Dec (word counts (class_of heads i) ≡ 0) → IsPlaced order (class_of heads i)
        go (yes e) =
            let r = c.whole (class_of heads i) (record {
              node = b;
              applied = counted_application nodes arguments s (class_of heads i) 0 b l;
              none = e;
            }) l (f.partition.own i h) in
            let m = r.1 in
            (r.0, omega (arith, z, m), get_or-append closed placed 0 r.0 m ∙ r.2)
        go (no n) = met n (o.whole i h)

    module _ (names : List ℕ) (l : length names ≡ node_count nodes) (t : Themselves names) where
      itself : (p : ℕ) → p < length order → word names (word order p) ≡ word order p
      itself p h = let b = part_node p (part p h) in t.itself (word order p) (omega (arith, b, l))

      -- a place of the first is a place
      longer : (q : ℕ) → q < length closed → q < length order
      longer q h = let z = length-append closed placed in omega (arith, z, h)

      same_node : (q : ℕ) → q < length closed → word order q ≡ word closed q
      same_node q h = get_or-append closed placed 0 q h

      -- no two places of the first are alike
      closed_apart : (q r : ℕ) → q < length closed → r < length closed → Alike nodes arguments heads names (word order q) (word order r) → q ≡ r
      closed_apart q r h b a =
          let e : word closed q ≡ word closed r = sym (c.own q h)
          ∙ closed_alike names l t (word closed q) (word closed r) (c.is_closed q h) (c.is_closed r b) (rw (same_node q h, same_node r b) at a)
          ∙ c.own r b in
          go e (ℕ_discrete q r) (dec_lt q r)
        where
          go : word closed q ≡ word closed r → Dec (q ≡ r) → Dec (q < r) → q ≡ r
          go e (yes z) d = z
          go e (no n) (yes d) = let x = c.rising q r d b in absurd (omega (arith, x, e))
          go e (no n) (no d) = let x = c.rising r q (omega (arith, n, d)) h in absurd (omega (arith, x, e))

      -- the first are named
      first_named : NamedBefore nodes arguments heads (closed ++ placed) names (length closed)
      first_named =
          record {
            variable = λ q h e. itself q (longer q h);
            application = λ q h n. record {
              place = q;
              before = omega arith;
              representative = record { application = n; itself = itself q (longer q h) };
              named = itself q (longer q h);
              alike = alike_same (word order q);
            };
            apart = λ q r h b x y. closed_apart q r h b;
          }

      first_naming : (u : Applications) → ClosedTable nodes arguments heads closed u →
          Naming nodes arguments heads (closed ++ placed) names u (length closed)
      unfolding key_at
      first_naming u x =
          record {
            readable = record { sections = s; partition = f.partition; long = l };
            ordered = prefix_nameable;
            whole = record {
              compound = λ p h. part_compound p (part p h);
              placed = head_placed;
              itself = λ i h z. t.itself i (omega arith);
              constants = f.constants;
            };
            named = first_named;
            chained = chained_same _ _ _ _ u (length closed)
                (λ q h r. record { application = rw (same_node q h) r.application; itself = rw (same_node q h) r.itself })
                (λ q h r. record { application = rw (same_node q h) at r.application; itself = rw (same_node q h) at r.itself })
                (λ q h. ap (λ (g : ℕ). key_of nodes arguments heads names g) (same_node q h)) (x.chained names l t);
          }

    -- what is named along them has the least names of closed applications
    named_least : (names : List ℕ) → NamedAlong nodes arguments heads (closed ++ placed) names → NamesLeast nodes arguments counts heads names
    named_least names m =
        record { alike = m.alike; least = λ i q. go i q (m.outside i q.node) }
      where
        at : (i p : ℕ) → IsClosed nodes counts i → word order p ≡ class_of heads i → Part p →
            (r : ℕ) × (r ≤ p) × (word names (word order p) ≡ word order r) × (word names (word order r) ≡ word order r) →
            value_name heads names i ≤ i
        at i p q e (back v b w d) x =
            let y = back_counts p v b d in
            let z = (f.closed.closed i q).none in
            let u = ap (word counts) e in
            absurd (omega (arith, y, z, u))
        at i p q e (front b d) (r, h, x, y) = pick (ℕ_discrete r p)
          where
            n : value_name heads names i ≡ word order r
            n = ap (word names) (sym e) ∙ x

            z : class_of heads i ≤ i
            z = f.closed.least i q

            pick : Dec (r ≡ p) → value_name heads names i ≤ i
            pick (yes u) = let w = ap (word order) u in omega (arith, n, w, e, z)
            pick (no u) =
                let v : r < p = omega (arith, u, h) in
                let w = c.rising r p v b in
                let g = get_or-append closed placed 0 r (omega (arith, v, b)) in
                omega (arith, n, g, w, d, e, z)

        go : (i : ℕ) → IsClosed nodes counts i → IsPlaced order (class_of heads i) ⊎ (value_name heads names i ≡ class_of heads i) →
            value_name heads names i ≤ i
        go i q (inr e) = let x = f.closed.least i q in omega (arith, e, x)
        go i q (inl (p, l, e)) = at i p q e (part p l) (m.along.earlier p l)

    -- The same for an order that is both.
    module _ (xs : List ℕ) (e : xs ≡ closed ++ placed) where
      -- naming goes on behind the closed ones
      pub prefix_naming : (names : List ℕ) → length names ≡ node_count nodes → Themselves names → (u : Applications) →
          ClosedTable nodes arguments heads closed u →
          Naming nodes arguments heads xs names u (length closed) × (length closed ≤ length xs)
      prefix_naming names l t u x =
          let z = ap length e ∙ length-append closed placed in
          (rw e (first_naming names l t u x), omega (arith, z))

      -- and closed applications have the least names
      pub prefix_least : (names : List ℕ) → NamedAlong nodes arguments heads xs names → NamesLeast nodes arguments counts heads names
      prefix_least names m = named_least names (rw e at m)

-- so no argument of a head is looked at
pub none_leads : (nodes counts opens heads : List ℕ) → OpenListed nodes counts opens → Partition (node_count nodes) heads →
    NoneLeads counts opens heads (length opens) → (i : ℕ) → i < node_count nodes → word counts (class_of heads i) ≡ 0
none_leads nodes counts opens heads o q n i h = go (ℕ_discrete (word counts (class_of heads i)) 0)
  where
    go : Dec (word counts (class_of heads i) ≡ 0) → word counts (class_of heads i) ≡ 0
    go (yes e) = e
    go (no z) =
        let r = o.whole (class_of heads i) (q.below i h) (omega (arith, z)) in
        ap (word counts) (sym (q.own i h) ∙ ap (class_of heads) (sym r.2)) ∙ n.none r.0 r.1

-- how long the first ones of an order are
pub first_few : (ys : List ℕ) (start : ℕ) → length ys ≡ max_nodes → start ≤ max_nodes → length (take start ys) ≡ start
first_few ys start l f = length-take-le start ys (omega arith)

-- what is put into an order behind the first ones, and how long these are
pub order_put : (placed ys zs : List ℕ) (start end : ℕ) → length ys ≡ max_nodes → start ≤ max_nodes → end ≡ start + length placed →
    zs ≡ take start ys ++ placed ++ drop (start + length placed) ys →
    (take (end - 0) zs ≡ take start ys ++ placed) × (length (take start ys) ≡ start)
order_put placed ys zs start end l f d g =
    let m = first_few ys start l f in
    let z : end - 0 ≡ length (take start ys ++ placed) = omega (arith, d, m, length-append (take start ys) placed) in
    (ap (take (end - 0)) g ∙ take_at (take start ys ++ placed) (drop (start + length placed) ys) (end - 0) (sym z), m)
