-- What joining two nodes comes to: a clash, a class that leads to itself and so occurs, or classes in order and so a solved form.
-- Assumes nothing.
use Prim.Native.Nat.{ℕ, ◌<◌}
use mathlib.Core.Bool.{Bool, true, false}
use mathlib.Core.List.{List, [], ◌∷◌}
use mathlib.Core.Path.{◌≡◌, refl, sym}
use native.Mathlib.Omega.{arith}
use Rattle.table.specs.Layout.{word, node_count}
use Rattle.unification.specs.Computed.Classes.{class_of}
use Rattle.unification.specs.Computed.Unifying.{outcome}
use Rattle.unification.specs.Code.Given.{Inside}
use Rattle.unification.specs.Node.{nodes_from}
use Rattle.unification.specs.Code.Sections.{Sections}
use Rattle.unification.specs.Code.Solved.{IsClosure}
use Rattle.unification.proofs.OutcomeLaws.{outcome_clash, cycle_decides}
use Rattle.unification.proofs.SectionLaws.{nodes_long, is_node, sections_well_formed}
use Rattle.unification.proofs.JoinedLaws.{inside_more}
use Rattle.unification.specs.declared.Unification.{Unification}
use Rattle.unification.specs.declared.Unification.TheVariants.{Unified, Clash, Occurs}
use Rattle.unification.specs.Answer.{outcome_of}
use Rattle.nodes.specs.Code.Open.{Counts, ClosedHeads}
use Rattle.nodes.specs.Code.Trail.{none}
use Rattle.classes.specs.Code.Closure.{ClosureUpTo, Joins}
use Rattle.nodes.specs.Code.Order.{Ordered, Searched}
use Rattle.nodes.specs.Code.Formed.{Formed, Stands}
use Rattle.classes.specs.Code.Stands.{Extends}
use Rattle.nodes.proofs.OpenLaws.{closed_kept}
use Rattle.classes.proofs.ClosureLaws.{opened, closure_at_last}
use Rattle.classes.proofs.OrderedLaws.{leads_reaches, ordered_unified}
use Rattle.classes.proofs.MendLaws.{still_one, mended}

-- a failure: the classes are as before
extends_failed : (nodes arguments counts heads next : List ℕ) (a b : ℕ) (heads' next' : List ℕ) (x : Unification) →
    (heads' ≡ heads) × (next' ≡ next) → (x ≡ Unified → ⊥) →
    ((ps : List (ℕ × ℕ)) → Stands nodes arguments heads ps → outcome (nodes_from nodes arguments) ((a, b) ∷ ps) ≡ outcome_of x) →
    Extends nodes arguments counts heads next a b x heads' next'
extends_failed nodes arguments counts heads next a b heads' next' x y n o =
    record {
      answers = λ ps d. sym (o ps d);
      formed = λ z. absurd (n z);
      stands = λ z. absurd (n z);
      merges = rw (y.0, y.1) none;
      failed = λ z. y;
      kept = λ z. absurd (n z);
    }

module _ (nodes arguments counts : List ℕ) (s : Sections nodes arguments) (heads : List ℕ) (f : Formed nodes arguments counts heads) (a b : ℕ)
    (p : a < node_count nodes) (q : b < node_count nodes) where
  module _ (ps : List (ℕ × ℕ)) (d : Stands nodes arguments heads ps) where
    -- the pairs of the longer list are of nodes
    pub longer : Inside (nodes_from nodes arguments) ((a, b) ∷ ps)
    longer = inside_more (nodes_from nodes arguments) a b ps (is_node nodes arguments a p) (is_node nodes arguments b q) d.inside

    -- the pair is still to be joined
    pub waiting : ClosureUpTo (nodes_from nodes arguments) ((a, b) ∷ ps) heads ((a, b) ∷ [])
    waiting =
        opened (nodes_from nodes arguments) (sections_well_formed nodes arguments s) ps d.inside heads
        (rw (nodes_long nodes arguments) f.partition) a b d.closure

  module _ (next : List ℕ) (fine : Bool) (heads' next' : List ℕ) (j : Joins nodes arguments counts heads next a b fine heads' next') where
    -- a clash
    pub extends_clash : fine ≡ false → {heads'' next'' : List ℕ} → (heads'' ≡ heads) × (next'' ≡ next) →
        Extends nodes arguments counts heads next a b Clash heads'' next''
    extends_clash t {heads''} {next''} u =
        extends_failed nodes arguments counts heads next a b heads'' next'' Clash u (λ z. let y : ◌≡◌ {A = ℕ} 0 1 = cc in omega arith)
        (λ ps d. (outcome_clash (nodes_from nodes arguments) (sections_well_formed nodes arguments s) ((a, b) ∷ ps) (longer ps d)).1
        (j.clashes t ((a, b) ∷ ps) [] (waiting ps d)))

    module _ (t : fine ≡ true) (k : Counts nodes arguments counts (node_count nodes)) where
      -- classes of the longer list
      closure_after : (ps : List (ℕ × ℕ)) → Stands nodes arguments heads ps → IsClosure (nodes_from nodes arguments) ((a, b) ∷ ps) (class_of heads')
      closure_after ps d = closure_at_last (nodes_from nodes arguments) ((a, b) ∷ ps) heads' (j.done t ((a, b) ∷ ps) [] (waiting ps d))

      module _ (r : Bool) (x : Searched nodes arguments (word counts) heads' a r) where
        -- a cycle
        pub extends_occurs : r ≡ true → {heads'' next'' : List ℕ} → (heads'' ≡ heads) × (next'' ≡ next) →
            Extends nodes arguments counts heads next a b Occurs heads'' next''
        extends_occurs y {heads''} {next''} u =
            extends_failed nodes arguments counts heads next a b heads'' next'' Occurs u (λ z. let w : ◌≡◌ {A = ℕ} 0 1 = cc in omega arith)
            (λ ps d.
            let l = x.cycle y in
            cycle_decides (nodes_from nodes arguments) (sections_well_formed nodes arguments s) ((a, b) ∷ ps) (longer ps d) (class_of heads')
            (closure_after ps d) l.0
            (leads_reaches nodes arguments s heads' ((a, b) ∷ ps) (longer ps d) (closure_after ps d) counts k l.2))

        module _ (y : r ≡ false) (ps : List (ℕ × ℕ)) (d : Stands nodes arguments heads ps) where
          -- closed applications have closed heads
          heads_after : ClosedHeads nodes arguments counts heads'
          heads_after = closed_kept nodes arguments counts heads heads' f.closed j.kept

          order_after : (order : List ℕ) × Ordered nodes arguments (word counts) heads' order
          order_after =
              mended nodes arguments s ps d.inside a b (longer ps d) heads d.closure heads' (closure_after ps d) counts k heads_after
              (x.ordered y) j.partition j.stay f.order f.ordered

          formed_after : Formed nodes arguments counts heads'
          formed_after =
              record {
                partition = j.partition;
                constants = λ i h u v e.
                    still_one nodes arguments s ps d.inside a b (longer ps d) heads d.closure heads' (closure_after ps d) i h
                    (is_node nodes arguments i u.node) (is_node nodes arguments h v.node) (f.constants i h u v e);
                closed = heads_after;
                order = order_after.0;
                ordered = order_after.1;
              }

          unified_after : outcome (nodes_from nodes arguments) ((a, b) ∷ ps) ≡ outcome_of Unified
          unified_after =
              ordered_unified nodes arguments s counts k heads' j.partition heads_after ((a, b) ∷ ps) (longer ps d) (closure_after ps d)
              order_after.0 order_after.1

        -- classes of the longer list, in order
        pub extends_unified : r ≡ false → Extends nodes arguments counts heads next a b Unified heads' next'
        extends_unified y =
            record {
              answers = λ ps d. sym (unified_after y ps d);
              formed = λ z ps d. formed_after y ps d;
              stands = λ z ps d. record { inside = longer ps d; closure = closure_after ps d };
              merges = j.merges;
              failed = λ f. absurd (f refl);
              kept = λ z. j.kept;
            }
