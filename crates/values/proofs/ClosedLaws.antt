-- Closed applications by their terms: a node of the term of one is one, so classes in which nodes of one term are together give them
-- closed heads. Assumes nothing.
use Prim.Native.Nat.{ℕ, zero, suc, ◌≤◌, ◌<◌}
use mathlib.Core.List.{List}
use mathlib.Core.Path.{◌≡◌, refl, sym, ◌∙◌}
use native.Mathlib.Omega.{arith}
use Rattle.table.specs.Layout.{kind_of, name_of, count_of, node_count, argument_of}
use Rattle.terms.specs.Term.{var, app}
use Rattle.unification.specs.Node.{Node, each, nodes_from}
use Rattle.unification.specs.Unifier.{value}
use Rattle.unification.specs.Computed.Classes.{class_of}
use Rattle.unification.specs.Code.Given.{WellFormed}
use Rattle.unification.specs.Code.Sections.{Sections}
use Rattle.unification.specs.Code.Heads.{Partition}
use Rattle.unification.proofs.NodeLaws.{each_long, each_at, value_variable, value_application}
use Rattle.unification.proofs.SectionLaws.{run, run_long, pair_place, is_node, variable_from, application_from, sections_well_formed}
use Rattle.nodes.specs.Code.Open.{IsClosed, Counts, ClosedHeads}

module _ (nodes arguments : List ℕ) (s : Sections nodes arguments) (counts : List ℕ) (c : Counts nodes arguments counts (node_count nodes)) where
  abbrev ns : List Node
  ns = nodes_from nodes arguments

  w : WellFormed ns
  w = sections_well_formed nodes arguments s

  -- the term of an application
  term : (i : ℕ) → i < node_count nodes → (kind_of nodes i ≡ 0 → ⊥) →
      value ns var i ≡ app (name_of nodes i) (each (value ns var) (run nodes arguments i))
  term i h k =
      value_application ns w var i (name_of nodes i) (run nodes arguments i) (is_node nodes arguments i h) (application_from nodes arguments i h k)

  -- a node of the term of an application is one
  applied_same : (i j : ℕ) → i < node_count nodes → j < node_count nodes → (kind_of nodes i ≡ 0 → ⊥) → value ns var i ≡ value ns var j →
      kind_of nodes j ≡ 0 → ⊥
  applied_same i j h l k e z =
      let d : app (name_of nodes i) (each (value ns var) (run nodes arguments i)) ≡ var (name_of nodes j) = sym (term i h k) ∙ e ∙
      value_variable ns w var j (name_of nodes j) (is_node nodes arguments j l) (variable_from nodes arguments j l z) in
      let y : ◌≡◌ {A = ℕ} 0 1 = cc in
      omega arith

  -- applications of one term have as many arguments
  record SameArguments (i j : ℕ) : Type 0 where
    count : count_of nodes i ≡ count_of nodes j
    same : (q : ℕ) → q < count_of nodes j → value ns var (argument_of nodes arguments i q) ≡ value ns var (argument_of nodes arguments j q)

  -- and arguments of the same terms
  same_arguments : (i j : ℕ) → i < node_count nodes → j < node_count nodes → (kind_of nodes i ≡ 0 → ⊥) → (kind_of nodes j ≡ 0 → ⊥) →
      value ns var i ≡ value ns var j → SameArguments i j
  same_arguments i j h l k m e =
      let d : app (name_of nodes i) (each (value ns var) (run nodes arguments i))
      ≡ app (name_of nodes j) (each (value ns var) (run nodes arguments j)) = sym (term i h k) ∙ e ∙ term j l m in
      let a : each (value ns var) (run nodes arguments i) ≡ each (value ns var) (run nodes arguments j) = cc in
      let n : count_of nodes i ≡ count_of nodes j = sym (run_long nodes arguments s i h) ∙
      each_long (value ns var) (value ns var) (run nodes arguments i) (run nodes arguments j) a ∙ run_long nodes arguments s j l in
      record {
        count = n;
        same =
            λ q b. each_at (value ns var) (value ns var) (run nodes arguments i) (run nodes arguments j) a (argument_of nodes arguments i q)
            (argument_of nodes arguments j q) ((pair_place nodes arguments s i j h l (argument_of nodes arguments i q)
            (argument_of nodes arguments j q)).1 (q, rw n b, b, refl, refl));
      }

  -- a node of the term of a closed application is one
  closed_same : (n i j : ℕ) → i < n → IsClosed nodes counts i → j < node_count nodes → value ns var i ≡ value ns var j → IsClosed nodes counts j
  closed_same zero i j b m l e = absurd (omega arith)
  closed_same (suc n) i j b m l e =
      record { node = l; applied = k; none = c.above j l (argument (λ g h. closed_same n g h)) }
    where
      k : kind_of nodes j ≡ 0 → ⊥
      k = applied_same i j m.node l m.applied e

      a : SameArguments i j
      a = same_arguments i j m.node l m.applied k e

      argument :
          ((g h : ℕ) → g < n → IsClosed nodes counts g → h < node_count nodes → value ns var g ≡ value ns var h → IsClosed nodes counts h) →
          (q : ℕ) → q < count_of nodes j → IsClosed nodes counts (argument_of nodes arguments j q)
      argument below q t =
          let u : q < count_of nodes i = rw a.count t in
          let x = s.smaller i q m.node u in
          let y = s.smaller j q l t in
          below (argument_of nodes arguments i q) (argument_of nodes arguments j q) (omega (arith, x)) (c.below i m.node m q u)
          (omega (arith, y)) (a.same q t)

  -- closed heads, where heads are not after their nodes and nodes have one head exactly if they have one term
  pub heads_closed : (heads : List ℕ) → Partition (node_count nodes) heads → ((i : ℕ) → i < node_count nodes → class_of heads i ≤ i) →
      ((i : ℕ) → i < node_count nodes → value (nodes_from nodes arguments) var i ≡ value (nodes_from nodes arguments) var (class_of heads i)) →
      ((i j : ℕ) → i < node_count nodes → j < node_count nodes →
      value (nodes_from nodes arguments) var i ≡ value (nodes_from nodes arguments) var j → class_of heads i ≡ class_of heads j) →
      ClosedHeads nodes arguments counts heads
  heads_closed heads p low valued shared =
      record {
        closed = λ i m. closed_same (suc i) i (class_of heads i) (omega arith) m (p.below i m.node) (valued i m.node);
        least = λ i m. low i m.node;
        valued = λ i m. sym (valued i m.node);
        shared = λ i j m k e. shared i j m.node k.node e;
      }
