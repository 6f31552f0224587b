-- An order mended: where a pair more is joined, the order before it and an order of what the pair leads to make an order of all.
-- A node whose head changed is of a class that the pair leads to, by induction on how it is joined with its head. Assumes nothing.
use Prim.Native.Nat.{ℕ, zero, suc, ◌<◌, ◌≤◌}
use mathlib.Core.List.{List, [], ◌∷◌, ◌++◌, Memᴰ, zip}
use mathlib.Core.Logic.{◌⊎◌, inl, inr}
use mathlib.Core.Path.{◌≡◌, refl, sym, ap, ◌∙◌}
use native.Mathlib.Decide.{dec_lt, ℕ_discrete}
use native.Mathlib.Omega.{arith}
use lib.ListN.{length, length-append, get_or-append}
use lib.Seq.{get_or_at}
use Rattle.table.specs.Layout.{word, count_of, node_count, argument_of}
use Rattle.unification.specs.Node.{Node, application, node_at, nodes_from}
use Rattle.unification.specs.Closure.{Joined, given, one_variable, arguments as by-arguments, same, back, on}
use Rattle.unification.specs.Computed.Classes.{class_of}
use Rattle.unification.specs.Code.Given.{Inside}
use Rattle.unification.specs.Code.Heads.{Partition}
use Rattle.unification.specs.Code.Sections.{Sections}
use Rattle.unification.specs.Code.Solved.{IsClosure, HeadFits}
use Rattle.unification.proofs.ListLaws.{zip_right, zip_through}
use Rattle.unification.proofs.JoinedLaws.{more_joined, joined_inside}
use Rattle.unification.proofs.SolvedLaws.{closure_inside, joined_head}
use Rattle.unification.proofs.SectionLaws.{is_node, counted, argument_place, sections_well_formed}
use Rattle.nodes.specs.Code.Open.{Counts, ClosedHeads}
use Rattle.nodes.specs.Code.Order.{Met, leaf, before, Listed, Ordered, OrderedBelow}
use Rattle.classes.proofs.OrderedLaws.{looked_node, closed_argument}

-- what is met before a place is met before a later one
met_later : (due : ℕ → ℕ) (order : List ℕ) (p r g : ℕ) → p ≤ r → Met due order p g → Met due order r g
met_later due order p r g l (leaf e) = leaf e
met_later due order p r g l (before q k e) = before q (omega arith) e

-- and in a longer list
met_longer : (due : ℕ → ℕ) (order : List ℕ) (h p g : ℕ) → p ≤ length order → Met due order p g → Met due (order ++ (h ∷ [])) p g
met_longer due order h p g l (leaf e) = leaf e
met_longer due order h p g l (before q k e) = before q k (get_or-append order (h ∷ []) 0 q (omega arith) ∙ e)

-- whether a number stands in a list
stands : (order : List ℕ) (h : ℕ) → Dec ((q : ℕ) × (q < length order) × (word order q ≡ h))
stands [] h = no (λ r. omega (arith, r.1))
stands (g ∷ order) h = go (ℕ_discrete g h) (stands order h)
  where
    go : Dec (g ≡ h) → Dec ((q : ℕ) × (q < length order) × (word order q ≡ h)) → Dec ((q : ℕ) × (q < length (g ∷ order)) × (word (g ∷ order) q ≡ h))
    go (yes e) r = yes (0, omega arith, e)
    go (no n) (yes r) = yes (suc r.0, omega (arith, r.1), r.2)
    go (no n) (no m) = no (λ r. nowhere r.0 r.1 r.2)
      where
        nowhere : (q : ℕ) → q < length (g ∷ order) → word (g ∷ order) q ≡ h → ⊥
        nowhere zero l e = n e
        nowhere (suc q) l e = m (q, omega arith, e)

-- one node more behind an order
listed_more : (nodes arguments : List ℕ) (due : ℕ → ℕ) (heads order : List ℕ) → Listed nodes arguments due heads order → (h : ℕ) →
    h < node_count nodes → 0 < due h → ((q : ℕ) → q < length order → word order q ≡ h → ⊥) →
    ((j : ℕ) → j < due h → Met due order (length order) (class_of heads (argument_of nodes arguments h j))) →
    Listed nodes arguments due heads (order ++ (h ∷ []))
listed_more nodes arguments due heads order l h inside some new first =
    record { node = node; compound = compound; once = once; first = λ p q. firsts p q (at p q) }
  where
    longer : length (order ++ (h ∷ [])) ≡ suc (length order)
    longer = let e = length-append order (h ∷ []) in omega (arith, e)

    old : (p : ℕ) → p < length order → word (order ++ (h ∷ [])) p ≡ word order p
    old p q = get_or-append order (h ∷ []) 0 p q

    last : word (order ++ (h ∷ [])) (length order) ≡ h
    last = get_or_at order h [] 0 (length order) refl

    at : (p : ℕ) → p < length (order ++ (h ∷ [])) → (p < length order) ⊎ (p ≡ length order)
    at p q = go (dec_lt p (length order))
      where
        go : Dec (p < length order) → (p < length order) ⊎ (p ≡ length order)
        go (yes r) = inl r
        go (no r) = inr (omega (arith, longer))

    node : (p : ℕ) → p < length (order ++ (h ∷ [])) → word (order ++ (h ∷ [])) p < node_count nodes
    node p q = go (at p q)
      where
        go : (p < length order) ⊎ (p ≡ length order) → word (order ++ (h ∷ [])) p < node_count nodes
        go (inl r) = rw (old p r) (l.node p r)
        go (inr r) = rw (r, last) inside

    compound : (p : ℕ) → p < length (order ++ (h ∷ [])) → 0 < due (word (order ++ (h ∷ [])) p)
    compound p q = go (at p q)
      where
        go : (p < length order) ⊎ (p ≡ length order) → 0 < due (word (order ++ (h ∷ [])) p)
        go (inl r) = rw (old p r) (l.compound p r)
        go (inr r) = rw (r, last) some

    once : (p q : ℕ) → p < q → q < length (order ++ (h ∷ [])) → word (order ++ (h ∷ [])) p ≡ word (order ++ (h ∷ [])) q → ⊥
    once p q k b e = go (at q b)
      where
        go : (q < length order) ⊎ (q ≡ length order) → ⊥
        go (inl r) = l.once p q k r (sym (old p (omega arith)) ∙ e ∙ old q r)
        go (inr r) = new p (omega arith) (sym (old p (omega arith)) ∙ e ∙ ap (word (order ++ (h ∷ []))) r ∙ last)

    firsts : (p : ℕ) → p < length (order ++ (h ∷ [])) → (p < length order) ⊎ (p ≡ length order) → (j : ℕ) →
        j < due (word (order ++ (h ∷ [])) p) →
        Met due (order ++ (h ∷ [])) p (class_of heads (argument_of nodes arguments (word (order ++ (h ∷ [])) p) j))
    firsts p q (inl r) = rw (old p r) (λ j b. met_longer due order h p _ (omega arith) (l.first p r j b))
    firsts p q (inr r) = rw (r, last) (λ j b. met_longer due order h (length order) _ (omega arith) (first j b))

module _ (nodes arguments : List ℕ) (s : Sections nodes arguments) (ps : List (ℕ × ℕ)) (inside : Inside (nodes_from nodes arguments) ps) (a b : ℕ)
    (inside' : Inside (nodes_from nodes arguments) ((a, b) ∷ ps)) (old : List ℕ) (c : IsClosure (nodes_from nodes arguments) ps (class_of old))
    (heads : List ℕ) (c' : IsClosure (nodes_from nodes arguments) ((a, b) ∷ ps) (class_of heads)) where
  abbrev ns : List Node
  ns = nodes_from nodes arguments

  -- nodes of one head before have one now
  pub still_one : (i j : ℕ) → i < length ns → j < length ns → class_of old i ≡ class_of old j → class_of heads i ≡ class_of heads j
  still_one i j p q e =
      joined_head ns (sections_well_formed nodes arguments s) ((a, b) ∷ ps) inside' (class_of heads) c'
      (more_joined ((a, b) ∷ ps) (λ r m. Memᴰ.tail m) (on (rw e at (c.joined i p)) (back (c.joined j q))))

  module _ (counts : List ℕ) (k : Counts nodes arguments counts (node_count nodes)) (closed : ClosedHeads nodes arguments counts heads)
      (below : OrderedBelow nodes arguments (word counts) heads a) where
    -- The head of node i is met in the order of what the pair leads to.
    abbrev Reached : ℕ → Type 0
    Reached i = Met (word counts) below.order (length below.order) (class_of heads i)

    -- an argument of a node that is met, if it is looked at
    looked_reached : (g : ℕ) → Met (word counts) below.order (length below.order) g → (j : ℕ) → j < word counts g →
        Reached (argument_of nodes arguments g j)
    looked_reached g (leaf e) j l = absurd (omega arith)
    looked_reached g (before q b e) j l =
        met_later (word counts) below.order q (length below.order) (class_of heads (argument_of nodes arguments g j)) (omega arith)
        (rw e at (below.listed.first q b) j l)

    -- any argument: that of a closed application has a closed head
    reached_argument : (g : ℕ) → g < node_count nodes → Met (word counts) below.order (length below.order) g → (j : ℕ) →
        j < count_of nodes g → Reached (argument_of nodes arguments g j)
    reached_argument g n m j l = go (k.some g n)
      where
        go : (word counts g ≡ 0) ⊎ (word counts g ≡ count_of nodes g) → Reached (argument_of nodes arguments g j)
        go (inl e) = leaf (closed.closed _ (closed_argument nodes arguments s counts k g j n l e)).none
        go (inr e) = looked_reached g m j (omega (arith, e, l))

    -- Nodes i and j had one head, or have one that is reached.
    abbrev OneHead : ℕ → ℕ → Type 0
    OneHead i j = (class_of old i ≡ class_of old j) ⊎ (Reached i × Reached j × (class_of heads i ≡ class_of heads j))

    reached_same : (i j : ℕ) → class_of heads i ≡ class_of heads j → Reached i → Reached j
    reached_same i j e r = rw e at r

    together_on : (i j k : ℕ) → i < length ns → j < length ns → k < length ns → OneHead i j → OneHead j k → OneHead i k
    together_on i j k p q r (inl d) (inl e) = inl (d ∙ e)
    together_on i j k p q r (inl d) (inr (x, y, e)) =
        let z = still_one i j p q d in
        inr (reached_same j i (sym z) x, y, z ∙ e)
    together_on i j k p q r (inr (x, y, e)) (inl d) =
        let z = still_one j k q r d in
        inr (x, reached_same j k z y, e ∙ z)
    together_on i j k p q r (inr (x, y, d)) (inr (v, w, e)) = inr (x, w, d ∙ e)

    -- the pair, or a pair before it
    given_together : (i j : ℕ) → Memᴰ {A = ℕ × ℕ} (i, j) ((a, b) ∷ ps) → OneHead i j
    given_together i j (Memᴰ.head e) =
        let d : class_of heads a ≡ class_of heads b = c'.given a b (Memᴰ.head refl) in
        let x : a ≡ i = sym (ap (λ (r : ℕ × ℕ). r.0) e) in
        let y : b ≡ j = sym (ap (λ (r : ℕ × ℕ). r.1) e) in
        inr (rw x at below.from, rw y at (reached_same a b d below.from), c'.given i j (Memᴰ.head e))
    given_together i j (Memᴰ.tail m) = inl (c.given i j m)

    -- an argument of a node whose head is reached
    argument_reached : (i f : ℕ) (us vs : List ℕ) → i < length ns → node_at ns i ≡ application f us → length us ≡ length vs → Reached i → (x y : ℕ) →
        Memᴰ (x, y) (zip us vs) → Reached x
    argument_reached i f us vs p d l r x y m = go (c'.applications i f us p d)
      where
        go : HeadFits ns (class_of heads) i f us → Reached x
        go h =
            let t = zip_through us h.arguments vs h.as_long (sym h.as_long ∙ l) x y m in
            let g : class_of heads i < node_count nodes =
            counted nodes arguments (class_of heads i)
            (closure_inside ns (sections_well_formed nodes arguments s) ((a, b) ∷ ps) inside' (class_of heads) c' i p) in
            let q = argument_place nodes arguments s (class_of heads i) g f h.arguments h.applied t.0 (zip_right us h.arguments x t.0 t.1) in
            reached_same (argument_of nodes arguments (class_of heads i) q.0) x
            (ap (class_of heads) (sym q.2) ∙ sym (h.one_head x t.0 t.1)) (reached_argument (class_of heads i) g r q.0 q.1)

    -- joined nodes are
    joined_together : {i j : ℕ} → Joined ns ((a, b) ∷ ps) i j → OneHead i j
    joined_together (given {a = i} {b = j} m) = given_together i j m
    joined_together (one_variable {i} {j} {x} p q d e) = inl (c.one_variable i j x p q d e)
    joined_together (by-arguments {i} {j} {f} {g} {a = x} {b = y} {us} {vs} d e l q m) =
        go (joined_inside ns (sections_well_formed nodes arguments s) ((a, b) ∷ ps) inside' q) (joined_together q)
      where
        go : (i < length ns) × (j < length ns) → OneHead i j → OneHead x y
        go (p, r) (inl z) =
            inl
            (joined_head ns (sections_well_formed nodes arguments s) ps inside (class_of old) c
            (by-arguments d e l (on (rw z at (c.joined i p)) (back (c.joined j r))) m))
        go (p, r) (inr (v, w, z)) =
            let o : class_of heads x ≡ class_of heads y =
            joined_head ns (sections_well_formed nodes arguments s) ((a, b) ∷ ps) inside' (class_of heads) c' (by-arguments d e l q m) in
            let t = argument_reached i f us vs p d l.1 v x y m in
            inr (t, reached_same x y o t, o)
    joined_together (same p) = inl refl
    joined_together (back {i} {j} q) = turn (joined_together q)
      where
        turn : OneHead i j → OneHead j i
        turn (inl e) = inl (sym e)
        turn (inr (x, y, e)) = inr (y, x, sym e)
    joined_together (on {i} {j} {k} p q) =
        let x = joined_inside ns (sections_well_formed nodes arguments s) ((a, b) ∷ ps) inside' p in
        let y = joined_inside ns (sections_well_formed nodes arguments s) ((a, b) ∷ ps) inside' q in
        together_on i j k x.0 x.1 y.1 (joined_together p) (joined_together q)

    module _ (partition : Partition (node_count nodes) heads)
        (were-heads : (i : ℕ) → i < node_count nodes → class_of old (class_of heads i) ≡ class_of heads i) where
      -- a node's head is as it was, or reached
      kept_or_reached : (i : ℕ) → i < node_count nodes → (class_of old i ≡ class_of heads i) ⊎ Reached i
      kept_or_reached i p = go (joined_together (c'.joined i (is_node nodes arguments i p)))
        where
          go : OneHead i (class_of heads i) → (class_of old i ≡ class_of heads i) ⊎ Reached i
          go (inl e) = inl (e ∙ were-heads i p)
          go (inr (x, y, e)) = inr x

      module _ (earlier : List ℕ) (o : Ordered nodes arguments (word counts) old earlier) where
        -- An order that has all that is reached, and the first p of the order before that are heads still.
        record Mended (p : ℕ) (order : List ℕ) : Type 0 where
          listed : Listed nodes arguments (word counts) heads order
          reached : (g : ℕ) → Met (word counts) below.order (length below.order) g → Met (word counts) order (length order) g
          kept : (q : ℕ) → q < p → class_of heads (word earlier q) ≡ word earlier q → Met (word counts) order (length order) (word earlier q)

        -- what was met before place p is met
        mended_met : (p : ℕ) (order : List ℕ) → Mended p order → (i : ℕ) → i < node_count nodes → Met (word counts) earlier p (class_of old i) →
            Met (word counts) order (length order) (class_of heads i)
        mended_met p order m i l t = go (kept_or_reached i l) t
          where
            go : (class_of old i ≡ class_of heads i) ⊎ Reached i → Met (word counts) earlier p (class_of old i) →
                Met (word counts) order (length order) (class_of heads i)
            go (inr r) u = m.reached (class_of heads i) r
            go (inl e) (leaf z) = leaf (rw e at z)
            go (inl e) (before q k z) =
                let y : word earlier q ≡ class_of heads i = z ∙ e in
                rw y at (m.kept q k (ap (class_of heads) y ∙ partition.own i l ∙ sym y))

        -- no place of the order before is passed yet
        mended_none : Mended 0 below.order
        mended_none = record { listed = below.listed; reached = λ g m. m; kept = λ q l. absurd (omega arith) }

        -- what stands at a place is no head any more, or is met
        mended_passed : (p : ℕ) (order : List ℕ) → Mended p order →
            (class_of heads (word earlier p) ≡ word earlier p → Met (word counts) order (length order) (word earlier p)) → Mended (suc p) order
        mended_passed p order m t = record { listed = m.listed; reached = m.reached; kept = λ q l. go q l (dec_lt q p) }
          where
            go : (q : ℕ) → q < suc p → Dec (q < p) → class_of heads (word earlier q) ≡ word earlier q →
                Met (word counts) order (length order) (word earlier q)
            go q l (yes k) = m.kept q k
            go q l (no k) = let e : q ≡ p = omega arith in rw e t

        -- it is put behind the others
        mended_put : (p : ℕ) (order : List ℕ) → p < length earlier → Mended p order →
            ((q : ℕ) → q < length order → word order q ≡ word earlier p → ⊥) → Mended (suc p) (order ++ (word earlier p ∷ []))
        mended_put p order l m new =
            mended_passed p (order ++ (word earlier p ∷ []))
            (record {
              listed =
                  listed_more nodes arguments (word counts) heads order m.listed (word earlier p) (o.listed.node p l)
                  (o.listed.compound p l) new
                  (λ j q. mended_met p order m (argument_of nodes arguments (word earlier p) j)
                  (looked_node nodes arguments s counts k (word earlier p) j (o.listed.node p l) q) (o.listed.first p l j q));
              reached = λ g r. still g (m.reached g r);
              kept = λ q k e. still (word earlier q) (m.kept q k e);
            })
            (λ e. before (length order) (omega (arith, longer)) (get_or_at order (word earlier p) [] 0 (length order) refl))
          where
            longer : length (order ++ (word earlier p ∷ [])) ≡ suc (length order)
            longer = let e = length-append order (word earlier p ∷ []) in omega (arith, e)

            still : (g : ℕ) → Met (word counts) order (length order) g →
                Met (word counts) (order ++ (word earlier p ∷ [])) (length (order ++ (word earlier p ∷ []))) g
            still g t =
                met_later (word counts) (order ++ (word earlier p ∷ [])) (length order) (length (order ++ (word earlier p ∷ []))) g
                (omega (arith, longer)) (met_longer (word counts) order (word earlier p) (length order) g (omega arith) t)

        -- one place more
        mended_next : (p : ℕ) → p < length earlier → (order : List ℕ) × Mended p order → (order : List ℕ) × Mended (suc p) order
        mended_next p l (order, m) = go (ℕ_discrete (class_of heads (word earlier p)) (word earlier p)) (stands order (word earlier p))
          where
            go : Dec (class_of heads (word earlier p) ≡ word earlier p) → Dec ((q : ℕ) × (q < length order) × (word order q ≡ word earlier p)) →
                (order : List ℕ) × Mended (suc p) order
            go (no n) r = (order, mended_passed p order m (λ e. absurd (n e)))
            go (yes e) (yes r) = (order, mended_passed p order m (λ z. before r.0 r.1 r.2))
            go (yes e) (no n) = (order ++ (word earlier p ∷ []), mended_put p order l m (λ q k z. n (q, k, z)))

        mended_to : (p : ℕ) → p ≤ length earlier → (order : List ℕ) × Mended p order
        mended_to zero l = (below.order, mended_none)
        mended_to (suc p) l = mended_next p (omega arith) (mended_to p (omega arith))

        -- the order mended
        pub mended : (order : List ℕ) × Ordered nodes arguments (word counts) heads order
        mended =
            let r = mended_to (length earlier) (omega arith) in (
              r.0,
              record { listed = r.1.listed; whole = λ i l. mended_met (length earlier) r.0 r.1 i l (o.whole i l) },
            )
