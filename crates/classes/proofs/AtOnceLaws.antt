-- Pairs that the heads of the two nodes decide at once: one head, or applications of different symbols. Assumes nothing.
use Prim.Native.Nat.{ℕ, ◌<◌}
use mathlib.Core.Bool.{Bool, true, false, not, ◌&&◌, false≢true}
use mathlib.Core.List.{List, [], ◌∷◌}
use mathlib.Core.Path.{◌≡◌, refl}
use borrow.Author.Tests.{eqb-false}
use lib.Dec.{eqb}
use Rattle.table.specs.Layout.{kind_of, node_count}
use Rattle.unification.specs.Closure.{Clash}
use Rattle.unification.specs.Outcome.{unified}
use Rattle.unification.specs.Computed.Classes.{class_of}
use Rattle.unification.specs.Computed.Unifying.{outcome}
use Rattle.unification.specs.Node.{nodes_from}
use Rattle.unification.specs.Code.Sections.{Sections, symbol_test, differ_test}
use Rattle.unification.proofs.CountLaws.{in_list}
use Rattle.unification.proofs.SectionLaws.{is_node, application_from, symbols_differ}
use Rattle.nodes.specs.Code.Open.{Counts}
use Rattle.nodes.specs.Code.Formed.{Formed, Stands}
use Rattle.classes.proofs.ClosureLaws.{already, heads_clash, closure_at_last}
use Rattle.classes.proofs.OrderedLaws.{ordered_unified}
use Rattle.classes.proofs.ExtensionLaws.{longer, waiting}

-- what the test for applications of different symbols tells
differ_means : (nodes : List ℕ) (g h : ℕ) → differ_test nodes g h ≡ true →
    (kind_of nodes g ≡ 0 → ⊥) × (kind_of nodes h ≡ 0 → ⊥) × (symbol_test nodes g h ≡ false)
differ_means nodes g h = pick (eqb (kind_of nodes g) 0) refl (eqb (kind_of nodes h) 0) refl (symbol_test nodes g h) refl
  where
    pick : (x : Bool) → eqb (kind_of nodes g) 0 ≡ x → (y : Bool) → eqb (kind_of nodes h) 0 ≡ y → (z : Bool) → symbol_test nodes g h ≡ z →
        (not x && not y && not z) ≡ true → (kind_of nodes g ≡ 0 → ⊥) × (kind_of nodes h ≡ 0 → ⊥) × (symbol_test nodes g h ≡ false)
    pick true d y e z t q = absurd (false≢true q)
    pick false d true e z t q = absurd (false≢true q)
    pick false d false e true t q = absurd (false≢true q)
    pick false d false e false t q = (eqb-false _ _ d, eqb-false _ _ e, t)

module _ (nodes arguments counts heads : List ℕ) (s : Sections nodes arguments) (f : Formed nodes arguments counts heads) where
  module _ (a b : ℕ) (p : a < node_count nodes) (q : b < node_count nodes) where
    -- one head: the classes stand for the longer list too
    pub together : class_of heads a ≡ class_of heads b → (ps : List (ℕ × ℕ)) → Stands nodes arguments heads ps →
        Stands nodes arguments heads ((a, b) ∷ ps)
    together e ps d =
        record {
          inside = longer nodes arguments counts s heads f a b p q ps d;
          closure =
              closure_at_last (nodes_from nodes arguments) ((a, b) ∷ ps) heads
              (already (nodes_from nodes arguments) ((a, b) ∷ ps) heads a b [] (in_list f.partition a p) (in_list f.partition b q) e
              (waiting nodes arguments counts s heads f a b p q ps d));
        }

    -- applications of different symbols: a clash
    pub differ_clash : differ_test nodes (class_of heads a) (class_of heads b) ≡ true → (ps : List (ℕ × ℕ)) → Stands nodes arguments heads ps →
        Clash (nodes_from nodes arguments) ((a, b) ∷ ps)
    differ_clash t ps d =
        let k = differ_means nodes (class_of heads a) (class_of heads b) t in
        let g = f.partition.below a p in
        let h = f.partition.below b q in
        heads_clash (nodes_from nodes arguments) ((a, b) ∷ ps) heads a b [] (is_node nodes arguments a p) (is_node nodes arguments b q) _ _ _ _
        (application_from nodes arguments (class_of heads a) g k.0) (application_from nodes arguments (class_of heads b) h k.1)
        (symbols_differ nodes arguments s (class_of heads a) (class_of heads b) g h k.2) (waiting nodes arguments counts s heads f a b p q ps d)

  -- classes stand for pairs that have a unifier
  pub formed_unified : Counts nodes arguments counts (node_count nodes) → (ps : List (ℕ × ℕ)) → Stands nodes arguments heads ps →
      outcome (nodes_from nodes arguments) ps ≡ unified
  formed_unified k ps d =
      ordered_unified nodes arguments s counts k heads f.partition f.closed ps d.inside d.closure f.order f.ordered
