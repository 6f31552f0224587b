-- Classes in which nodes of one term are together. Each node's head is the least node with its term, so nodes have one head exactly if they
-- have one term, and the classes are those of the pairs of each node and its head, which every substitution unifies. Assumes nothing.
use Prim.Native.Nat.{ℕ, ◌<◌, ◌≤◌}
use mathlib.Core.Bool.{Bool, ◌&&◌}
use mathlib.Core.List.{List, [], Memᴰ}
use mathlib.Core.Path.{◌≡◌, refl, sym, ap, ◌∙◌}
use native.Mathlib.Decide.{ℕ_discrete}
use native.Mathlib.Omega.{arith}
use borrow.Author.Tests.{eq-eqb, lt-ltb, ltb-true}
use lib.Dec.{eqb, ltb}
use lib.ListN.{length}
use Rattle.table.specs.Layout.{word, name_of, node_count, argument_of}
use Rattle.table.proofs.BoolLaws.{and_true_right}
use Rattle.terms.specs.Term.{var, app}
use Rattle.terms.specs.Substitution.{Substitution, sub}
use Rattle.terms.proofs.SubstitutionLaws.{sub_var}
use Rattle.unification.specs.Node.{Node, variable, application, node_at, tabulate, spell, term_of, each, nodes_from}
use Rattle.unification.specs.Closure.{given}
use Rattle.unification.specs.Unifier.{value, Unifies}
use Rattle.unification.specs.Computed.Classes.{class_of}
use Rattle.unification.specs.Code.Given.{WellFormed, Inside}
use Rattle.unification.specs.Code.Sections.{Sections}
use Rattle.unification.specs.Code.Heads.{Partition}
use Rattle.unification.specs.Code.Solved.{HeadFits, IsClosure}
use Rattle.unification.proofs.ListLaws.{tabulate_member, tabulate_from, zip_left, zip_right, placed, member_place}
use Rattle.unification.proofs.NodeLaws.{each_long, each_at, term_node, value_variable, value_application}
use Rattle.unification.proofs.SectionLaws.{counted, is_node, section_application, sections_well_formed}
use Rattle.nodes.specs.Code.Open.{Counts}
use Rattle.nodes.specs.Code.Order.{Met, leaf, before, Ordered}
use Rattle.nodes.specs.Code.Formed.{IsConstant, OneConstant}
use Rattle.values.specs.Code.Start.{HeadsBefore, Together}
use Rattle.values.specs.Code.Begins.{Lists, BeginsShared}
use Rattle.values.proofs.LeastLaws.{rising_places, selected, selected_from, selected_member, selected_rises}
use Rattle.nodes.proofs.OpenLaws.{looked_at}
use Rattle.values.proofs.ClosedLaws.{heads_closed}
use Rattle.values.proofs.SharingLaws.{heads_low, heads_term, heads_one, heads_own}

-- Heads that are not above their nodes: those that have arguments that are looked at, in rising order.
module _ (nodes arguments : List ℕ) (s : Sections nodes arguments) (counts : List ℕ) (c : Counts nodes arguments counts (node_count nodes))
    (starts : List ℕ) (p : Partition (node_count nodes) starts) (low : (i : ℕ) → i < node_count nodes → class_of starts i ≤ i) where
  -- Whether node i is its own head and has such arguments.
  due_head : ℕ → Bool
  due_head i = eqb (class_of starts i) i && ltb 0 (word counts i)

  -- Those that are.
  rising : List ℕ
  rising = selected due_head (node_count nodes)

  due_at : (q : ℕ) → q < length rising → (word rising q < node_count nodes) × (0 < word counts (word rising q))
  unfolding rising due_head
  due_at q h =
      let r = selected_from due_head (node_count nodes) (word rising q) (placed rising q h) in (
        r.0,
        ltb-true 0 (word counts (word rising q))
            (and_true_right (eqb (class_of starts (word rising q)) (word rising q)) (ltb 0 (word counts (word rising q))) r.1),
      )

  rises : (q r : ℕ) → q < r → r < length rising → word rising q < word rising r
  unfolding rising
  rises q r l h = rising_places rising (selected_rises due_head (node_count nodes)) q r l h

  -- a place comes first if its node is lower
  lower : (q r : ℕ) → q < length rising → word rising q < word rising r → q < r
  lower q r h l = go (ℕ_discrete q r)
    where
      go : Dec (q ≡ r) → q < r
      go (yes e) = let z = ap (word rising) e in absurd (omega (arith, l, z))
      go (no n) =
          let u : r < q → ⊥ = λ z. let y = rises r q z h in omega (arith, l, y) in
          omega (arith, n, u)

  head_at_lem : (i : ℕ) → i < node_count nodes → 0 < word counts (class_of starts i) → (q : ℕ) × (q < length rising) ×
      (class_of starts i ≡ word rising q)
  unfolding rising due_head
  head_at_lem i h d =
      member_place rising (class_of starts i)
      (selected_member due_head (node_count nodes) (class_of starts i) (p.below i h)
      (rw (eq-eqb (class_of starts (class_of starts i)) (class_of starts i) (p.own i h), lt-ltb 0 (word counts (class_of starts i)) d)))

  -- a head is met before every place that it must be before
  head_met : (i r : ℕ) → i < node_count nodes → ((q : ℕ) → q < length rising → class_of starts i ≡ word rising q → q < r) →
      Met (word counts) rising r (class_of starts i)
  head_met i r h b = go (ℕ_discrete (word counts (class_of starts i)) 0)
    where
      go : Dec (word counts (class_of starts i) ≡ 0) → Met (word counts) rising r (class_of starts i)
      go (yes z) = leaf z
      go (no n) =
          let q = head_at_lem i h (omega (arith, n)) in
          before q.0 (b q.0 q.1 q.2) (sym q.2)

  -- they are in an order in which those of arguments come first
  rising_ordered : Ordered nodes arguments (word counts) starts rising
  rising_ordered =
      record {
        listed = record {
          node = λ q h. (due_at q h).0;
          compound = λ q h. (due_at q h).1;
          once = λ q r l h e. let x = rises q r l h in omega (arith, x, e);
          first = λ q h j d.
              let g = (due_at q h).0 in
              let a = s.smaller (word rising q) j g (looked_at c (word rising q) j g d) in
              let k : argument_of nodes arguments (word rising q) j < node_count nodes = omega (arith, a, g) in
              let b = low (argument_of nodes arguments (word rising q) j) k in
              head_met (argument_of nodes arguments (word rising q) j) q k (λ r l e. lower r q l (omega (arith, a, b, e)));
        };
        whole = λ i h. head_met i (length rising) h (λ q l e. l);
      }

-- Heads that are the least nodes with the terms of their nodes.
module _ (nodes arguments heads : List ℕ) (b : HeadsBefore nodes arguments heads (node_count nodes)) where
  abbrev ns : List Node
  ns = nodes_from nodes arguments

  w : WellFormed ns
  w = sections_well_formed nodes arguments b.sections

  -- a head is not above its node
  low : (i : ℕ) → i < node_count nodes → word heads i ≤ i
  low = heads_low nodes arguments heads (node_count nodes) b

  -- so it is a node
  inside : (i : ℕ) → i < node_count nodes → word heads i < node_count nodes
  inside i h = let l = low i h in omega (arith, l, h)

  own : (i : ℕ) → i < node_count nodes → word heads (word heads i) ≡ word heads i
  own = heads_own nodes arguments heads (node_count nodes) b

  -- nodes with one term have one head
  term_head : (i j : ℕ) → i < length ns → j < length ns → term_of ns i ≡ term_of ns j → word heads i ≡ word heads j
  term_head i j h k e = heads_one nodes arguments heads (node_count nodes) b i j (counted nodes arguments i h) (counted nodes arguments j k) e

  -- a head has the term of its node
  head_term : (i : ℕ) → i < length ns → term_of ns i ≡ term_of ns (word heads i)
  head_term i h = sym (heads_term nodes arguments heads (node_count nodes) b i (counted nodes arguments i h))

  -- each class has a head
  shared_partition : Partition (node_count nodes) heads
  shared_partition = record { size = b.size; below = inside; own = own }

  -- the term of a constant
  constant_term : (i : ℕ) → IsConstant nodes i → term_of ns i ≡ spell (term_of ns) (application (name_of nodes i) [])
  constant_term i c =
      let k = b.sections.kind i c.node in
      let n = c.applied in
      let z = c.bare in
      term_node ns w i (is_node nodes arguments i c.node)
      ∙ ap (spell (term_of ns))
      ((section_application nodes arguments b.sections i c.node (name_of nodes i) []).1
      (omega (arith, k, n), refl, sym z, λ j h. absurd (omega (arith, h, z))))

  -- constants of one name have one term, so they have one head
  shared_constants : OneConstant nodes heads
  shared_constants i j x y e =
      term_head i j (is_node nodes arguments i x.node) (is_node nodes arguments j y.node)
      (constant_term i x ∙ ap (λ (f : ℕ). spell (term_of ns) (application f [])) e ∙ sym (constant_term j y))

  -- Each node and its head.
  pairs : List (ℕ × ℕ)
  pairs = tabulate (node_count nodes) (λ i. (i, word heads i))

  pair_from : (a b : ℕ) → Memᴰ (a, b) pairs → (a < node_count nodes) × (b ≡ word heads a)
  unfolding pairs
  pair_from a b m =
      let q = tabulate_from (node_count nodes) (λ i. (i, word heads i)) (a, b) m in
      let e : a ≡ q.0 = ap (λ (z : ℕ × ℕ). z.0) q.2 in
      let d : b ≡ word heads q.0 = ap (λ (z : ℕ × ℕ). z.1) q.2 in
      (rw e q.1, d ∙ ap (word heads) (sym e))

  pairs_inside : Inside ns pairs
  pairs_inside a b m =
      let q = pair_from a b m in
      (is_node nodes arguments a q.0, rw q.1 (is_node nodes arguments (word heads a) (inside a q.0)))

  -- every substitution unifies them
  pairs_same : (σ : Substitution) → Unifies ns pairs σ
  pairs_same σ a b m =
      let q = pair_from a b m in
      rw q.1 (ap (sub σ) (head_term a (is_node nodes arguments a q.0)))

  -- the head of an application is one with its symbol, and their arguments have one head
  fits : (i f : ℕ) (us : List ℕ) → i < length ns → node_at ns i ≡ application f us → HeadFits ns (class_of heads) i f us
  fits i f us h e = go (node_at ns (word heads i)) refl
    where
      k : word heads i < length ns
      k = is_node nodes arguments (word heads i) (inside i (counted nodes arguments i h))

      equal : value ns var i ≡ value ns var (word heads i)
      equal = ap (sub var) (head_term i h)

      go : (m : Node) → node_at ns (word heads i) ≡ m → HeadFits ns (class_of heads) i f us
      go (variable x) d =
          let z : app f (each (value ns var) us) ≡ var x = sym (value_application ns w var i f us h e) ∙ equal ∙
          value_variable ns w var (word heads i) x k d in
          let y : ◌≡◌ {A = ℕ} 0 1 = cc in
          absurd (omega arith)
      go (application g vs) d =
          let z : app f (each (value ns var) us) ≡ app g (each (value ns var) vs) = sym (value_application ns w var i f us h e) ∙ equal ∙
          value_application ns w var (word heads i) g vs k d in
          let y : f ≡ g = cc in
          let l : each (value ns var) us ≡ each (value ns var) vs = cc in
          record {
            arguments = vs;
            applied = rw y d;
            as_long = each_long (value ns var) (value ns var) us vs l;
            one_head = λ a b m.
                let u : a < i = w.smaller i f us h e a (zip_left us vs a b m) in
                let v : b < word heads i = w.smaller (word heads i) g vs k d b (zip_right us vs a b m) in
                term_head a b (omega (arith, u, h)) (omega (arith, v, k))
                (sym (sub_var (term_of ns a)) ∙ each_at (value ns var) (value ns var) us vs l a b m ∙ sub_var (term_of ns b));
          }

  -- they have these classes
  shared_closure : IsClosure ns pairs (class_of heads)
  unfolding pairs
  shared_closure =
      record {
        joined = λ i h. given (tabulate_member (node_count nodes) (λ j. (j, word heads j)) i (counted nodes arguments i h));
        given = λ a b m. let q = pair_from a b m in sym (own a q.0) ∙ ap (word heads) (sym q.1);
        one_variable = λ i j x h k d e. term_head i j h k
            (sym (sub_var (term_of ns i)) ∙ value_variable ns w var i x h d ∙ sym (value_variable ns w var j x k e) ∙ sub_var (term_of ns j));
        applications = fits;
      }

-- nodes of one term are put together
pub shared_together : (nodes arguments heads : List ℕ) → HeadsBefore nodes arguments heads (node_count nodes) → Together nodes arguments heads
shared_together nodes arguments heads b =
    record {
      formed = λ counts c. record {
        partition = parts;
        constants = shared_constants nodes arguments heads b;
        closed =
            heads_closed nodes arguments s counts c heads parts below
            (λ i h. ap (sub var) (head_term nodes arguments heads b i (is_node nodes arguments i h))) one_head;
        order = rising nodes arguments s counts c heads parts below;
        ordered = rising_ordered nodes arguments s counts c heads parts below;
      };
      pairs = pairs nodes arguments heads b;
      stands = record { inside = pairs_inside nodes arguments heads b; closure = shared_closure nodes arguments heads b };
      same = pairs_same nodes arguments heads b;
      first = record { first = below; own = own nodes arguments heads b };
    }
  where
    s : Sections nodes arguments
    s = b.sections

    below : (i : ℕ) → i < node_count nodes → class_of heads i ≤ i
    below = low nodes arguments heads b

    parts : Partition (node_count nodes) heads
    parts = shared_partition nodes arguments heads b

    one_head : (i j : ℕ) → i < node_count nodes → j < node_count nodes →
        value (nodes_from nodes arguments) var i ≡ value (nodes_from nodes arguments) var j → class_of heads i ≡ class_of heads j
    one_head i j h k q =
        term_head nodes arguments heads b i j (is_node nodes arguments i h) (is_node nodes arguments j k)
        (sym (sub_var (term_of (nodes_from nodes arguments) i)) ∙ q ∙ sub_var (term_of (nodes_from nodes arguments) j))

-- what unifying begins with, by its parts
pub begun_shared : {nodes arguments list starts : List ℕ} {count : ℕ} → Lists nodes arguments count list → Together nodes arguments starts →
    BeginsShared nodes arguments count list starts
begun_shared l t =
    record {
      lists = l;
      formed = t.formed;
      pairs = t.pairs;
      stands = t.stands;
      same = t.same;
      first = t.first;
    }
