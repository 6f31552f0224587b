-- Classes in an order in which those of arguments come first are a solved form: the rank of a node is its own number where none of
-- its arguments is looked at, and otherwise past all nodes, by its first place. A class that leads to itself reaches itself, and
-- there is none where there is an order. Assumes nothing.
use Prim.Native.Nat.{ℕ, zero, suc, ◌+◌, ◌<◌, ◌≤◌}
use mathlib.Core.Bool.{Bool, true, false, cond}
use mathlib.Core.List.{List, [], ◌∷◌}
use mathlib.Core.Logic.{◌⊎◌, inl, inr}
use mathlib.Core.Path.{◌≡◌, refl}
use native.Mathlib.Decide.{ℕ_discrete}
use native.Mathlib.Omega.{arith}
use borrow.Author.Tests.{eqb-true, eqb-false, eq-eqb, ne_eqb}
use lib.Dec.{eqb}
use lib.ListN.{length}
use Rattle.table.specs.Layout.{word, count_of, node_count, argument_of}
use Rattle.unification.specs.Closure.{same, Reaches, step, steps}
use Rattle.unification.specs.Outcome.{unified}
use Rattle.unification.specs.Computed.Classes.{class_of}
use Rattle.unification.specs.Computed.Unifying.{outcome}
use Rattle.unification.specs.Code.Given.{Inside}
use Rattle.unification.specs.Code.Heads.{Partition}
use Rattle.unification.specs.Node.{nodes_from}
use Rattle.unification.specs.Code.Sections.{Sections}
use Rattle.unification.specs.Code.Solved.{IsClosure, Solved}
use Rattle.unification.proofs.OutcomeLaws.{solved_decides}
use Rattle.unification.proofs.SectionLaws.{nodes_long, counted, application_from, argument_place, place_argument, counted_application, sections_well_formed}
use Rattle.nodes.specs.Code.Open.{IsClosed, Counts, ClosedHeads}
use Rattle.nodes.specs.Code.Order.{Leads, next, further, Looped, Met, leaf, before, Listed, Ordered}
use Rattle.nodes.proofs.OpenLaws.{looked_at}

-- The first place of a number in a list; past its end where it has none.
place_in : List ℕ → ℕ → ℕ
place_in [] x = 0
place_in (y ∷ ys) x = cond (eqb y x) 0 (suc (place_in ys x))

-- what stands at a place has a first place
place_of : (ys : List ℕ) (x q : ℕ) → q < length ys → word ys q ≡ x → (place_in ys x ≤ q) × (word ys (place_in ys x) ≡ x)
unfolding place_in
place_of [] x q h e = absurd (omega arith)
place_of (y ∷ ys) x zero h e = pick (eqb y x) refl
  where
    pick : (b : Bool) → eqb y x ≡ b → (cond b 0 (suc (place_in ys x)) ≤ 0) × (word (y ∷ ys) (cond b 0 (suc (place_in ys x))) ≡ x)
    pick true z = (omega arith, e)
    pick false z = absurd (eqb-false y x z e)
place_of (y ∷ ys) x (suc q) h e = pick (eqb y x) refl (place_of ys x q (omega arith) e)
  where
    pick : (b : Bool) → eqb y x ≡ b → (place_in ys x ≤ q) × (word ys (place_in ys x) ≡ x) → (cond b 0 (suc (place_in ys x)) ≤ suc q) ×
        (word (y ∷ ys) (cond b 0 (suc (place_in ys x))) ≡ x)
    pick true z r = (omega arith, eqb-true y x z)
    pick false z r = (omega (arith, r.0), r.1)

-- The rank of a node: its own number where none of its arguments is looked at, and otherwise past all nodes, by its first place.
pub rank : List ℕ → List ℕ → List ℕ → ℕ → ℕ
rank nodes counts order h = cond (eqb (word counts h) 0) h (node_count nodes + suc (place_in order h))

-- that of a node none of whose arguments is looked at
rank_leaf : (nodes counts order : List ℕ) (h : ℕ) → word counts h ≡ 0 → rank nodes counts order h ≡ h
unfolding rank
rank_leaf nodes counts order h e = rw (eq-eqb (word counts h) 0 e)

-- that of any other
rank_compound : (nodes counts order : List ℕ) (h : ℕ) → (word counts h ≡ 0 → ⊥) →
    rank nodes counts order h ≡ node_count nodes + suc (place_in order h)
unfolding rank
rank_compound nodes counts order h n = rw (ne_eqb (word counts h) 0 n)

-- what is met has a small rank
rank_met : (nodes counts order : List ℕ) (p h : ℕ) → p ≤ length order → h < node_count nodes → Met (word counts) order p h →
    rank nodes counts order h ≤ node_count nodes + p
rank_met nodes counts order p h l n (leaf e) = let r = rank_leaf nodes counts order h e in omega arith
rank_met nodes counts order p h l n (before q k e) = go (ℕ_discrete (word counts h) 0)
  where
    go : Dec (word counts h ≡ 0) → rank nodes counts order h ≤ node_count nodes + p
    go (yes z) = let r = rank_leaf nodes counts order h z in omega arith
    go (no z) =
        let r = rank_compound nodes counts order h z in
        let t = (place_of order h q (omega arith) e).0 in
        omega arith

-- the head of an argument that is looked at has a smaller rank
rank_falls : (nodes arguments counts heads order : List ℕ) → Listed nodes arguments (word counts) heads order → (h : ℕ) →
    Met (word counts) order (length order) h → (j : ℕ) → j < word counts h → class_of heads (argument_of nodes arguments h j) < node_count nodes →
    rank nodes counts order (class_of heads (argument_of nodes arguments h j)) < rank nodes counts order h
rank_falls nodes arguments counts heads order l h (leaf e) j k n = absurd (omega arith)
rank_falls nodes arguments counts heads order l h (before q b e) j k n =
    let t = place_of order h q b e in
    let p : place_in order h < length order = omega (arith, t.0) in
    let m : Met (word counts) order (place_in order h) (class_of heads (argument_of nodes arguments h j)) =
    rw t.1 at (l.first (place_in order h) p) j k in
    let r = rank_compound nodes counts order h (λ z. omega arith) in
    let s = rank_met nodes counts order (place_in order h) (class_of heads (argument_of nodes arguments h j)) (omega arith) n m in
    omega arith

module _ (nodes arguments : List ℕ) (s : Sections nodes arguments) (counts : List ℕ) (k : Counts nodes arguments counts (node_count nodes)) where
  -- it is a node
  pub looked_node : (i j : ℕ) → i < node_count nodes → j < word counts i → argument_of nodes arguments i j < node_count nodes
  looked_node i j b l = omega (arith, s.smaller i j b (looked_at k i j b l))

  -- an argument of a node none of whose arguments is looked at is a closed application
  pub closed_argument : (i j : ℕ) → i < node_count nodes → j < count_of nodes i → word counts i ≡ 0 →
      IsClosed nodes counts (argument_of nodes arguments i j)
  closed_argument i j b l e =
      k.below i b (record { node = b; applied = counted_application nodes arguments s i j b l; none = e }) j l

  -- what a node leads to is a head
  leads_head : (heads : List ℕ) {h g : ℕ} → Leads nodes arguments (word counts) heads h g → (i : ℕ) × (i < node_count nodes) × (class_of heads i ≡ g)
  leads_head heads (next {h = h} {g = g} j b l e) = (argument_of nodes arguments h j, looked_node h j b l, e)
  leads_head heads (further p q) = leads_head heads q

  module _ (heads : List ℕ) (partition : Partition (node_count nodes) heads) where
    -- what a head leads to has a smaller rank
    leads_falls : (order : List ℕ) → Ordered nodes arguments (word counts) heads order → {h g : ℕ} →
        Leads nodes arguments (word counts) heads h g → (i : ℕ) → i < node_count nodes → class_of heads i ≡ h →
        rank nodes counts order g < rank nodes counts order h
    leads_falls order o (next {h = h} {g = g} j b l e) i q d =
        rw (← e) (rank_falls nodes arguments counts heads order o.listed h (rw d at (o.whole i q)) j l (partition.below _ (looked_node h j b l)))
    leads_falls order o (further {h} {g} {k = f} p q) i b d =
        let m = leads_head heads p in
        let x : rank nodes counts order g < rank nodes counts order h = leads_falls order o p i b d in
        let y : rank nodes counts order f < rank nodes counts order g = leads_falls order o q m.0 m.1 m.2 in
        omega arith

    -- where there is an order, no node leads to itself
    pub ordered_unlooped : (order : List ℕ) → Ordered nodes arguments (word counts) heads order → Looped nodes arguments (word counts) heads → ⊥
    ordered_unlooped order o (h, b, l) =
        let m = leads_head heads l in
        let x = leads_falls order o l m.0 m.1 m.2 in
        omega arith

-- what leads reaches
pub leads_reaches :
    (nodes arguments : List ℕ) (s : Sections nodes arguments) (heads : List ℕ) (ps : List (ℕ × ℕ)) (h : Inside (nodes_from nodes arguments) ps)
    (c : IsClosure (nodes_from nodes arguments) ps (class_of heads)) (counts : List ℕ) (k : Counts nodes arguments counts (node_count nodes))
    {i j : ℕ} →
    Leads nodes arguments (word counts) heads i j → Reaches (nodes_from nodes arguments) ps i j
leads_reaches nodes arguments s heads ps h c counts k (next {h = i} {g = g} j b l e) =
    let n : j < count_of nodes i = looked_at k i j b l in
    let a : argument_of nodes arguments i j < length (nodes_from nodes arguments) =
    rw (nodes_long nodes arguments) (looked_node nodes arguments s counts k i j b l) in
    let d : i < length (nodes_from nodes arguments) = rw (nodes_long nodes arguments) b in
    step (same {i = i} d) (application_from nodes arguments i b (counted_application nodes arguments s i j b n))
    (place_argument nodes arguments s i j b n)
    (rw e at (c.joined (argument_of nodes arguments i j) a))
leads_reaches nodes arguments s heads ps h c counts k (further p q) =
    steps (leads_reaches nodes arguments s heads ps h c counts k p) (leads_reaches nodes arguments s heads ps h c counts k q)

module _ (nodes arguments : List ℕ) (s : Sections nodes arguments) (counts : List ℕ) (k : Counts nodes arguments counts (node_count nodes))
    (heads : List ℕ) (partition : Partition (node_count nodes) heads) (closed-heads : ClosedHeads nodes arguments counts heads)
    (ps : List (ℕ × ℕ)) (h : Inside (nodes_from nodes arguments) ps) (c : IsClosure (nodes_from nodes arguments) ps (class_of heads))
    (order : List ℕ) (o : Ordered nodes arguments (word counts) heads order) where
  -- the ranks of heads are small
  pub ordered_enough : (i : ℕ) → i < length (nodes_from nodes arguments) →
      rank nodes counts order (class_of heads i) < suc (node_count nodes + suc (length order))
  ordered_enough i b =
      let q : i < node_count nodes = counted nodes arguments i b in
      let r = rank_met nodes counts order (length order) (class_of heads i) (omega arith) (partition.below i q) (o.whole i q) in
      omega arith

  -- the head of an argument of a head has a smaller rank
  argument_falls : (i : ℕ) → i < node_count nodes → (j : ℕ) → j < count_of nodes (class_of heads i) →
      rank nodes counts order (class_of heads (argument_of nodes arguments (class_of heads i) j)) < rank nodes counts order (class_of heads i)
  argument_falls i b j l = go (k.some (class_of heads i) g)
    where
      g : class_of heads i < node_count nodes
      g = partition.below i b

      a : argument_of nodes arguments (class_of heads i) j < class_of heads i
      a = s.smaller (class_of heads i) j g l

      -- the head is a closed application, and so is that of its argument
      shut : word counts (class_of heads i) ≡ 0 →
          rank nodes counts order (class_of heads (argument_of nodes arguments (class_of heads i) j)) < rank nodes counts order (class_of heads i)
      shut e =
          let m = closed_argument nodes arguments s counts k (class_of heads i) j g l e in
          let x = rank_leaf nodes counts order (class_of heads i) e in
          let y = rank_leaf nodes counts order (class_of heads (argument_of nodes arguments (class_of heads i) j)) (closed-heads.closed _ m).none in
          let z = closed-heads.least _ m in
          omega (arith, a, x, y, z)

      go : (word counts (class_of heads i) ≡ 0) ⊎ (word counts (class_of heads i) ≡ count_of nodes (class_of heads i)) →
          rank nodes counts order (class_of heads (argument_of nodes arguments (class_of heads i) j)) < rank nodes counts order (class_of heads i)
      go (inl e) = shut e
      go (inr e) =
          rank_falls nodes arguments counts heads order o.listed (class_of heads i) (o.whole i b) j (omega (arith, e, l))
          (partition.below _ (omega (arith, a, g)))

  -- classes in order are a solved form
  pub ordered_solved : Solved (nodes_from nodes arguments) ps (class_of heads) (rank nodes counts order)
  ordered_solved =
      record {
        closure = c;
        falls = λ i f us b e a m.
            let q : i < node_count nodes = counted nodes arguments i b in
            let r = argument_place nodes arguments s (class_of heads i) (partition.below i q) f us e a m in
            rw r.2 (argument_falls i q r.0 r.1);
      }

  -- so they decide: unified
  pub ordered_unified : outcome (nodes_from nodes arguments) ps ≡ unified
  ordered_unified =
      (solved_decides (nodes_from nodes arguments) (sections_well_formed nodes arguments s) ps h (class_of heads) (rank nodes counts order)
      ordered_solved (suc (node_count nodes + suc (length order))) ordered_enough).0
