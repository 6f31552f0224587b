-- A pair joined to the classes: where the two have one head it is joined already, and otherwise the classes are extended.
-- From what extending comes to. Assumes nothing.
use Prim.Native.Nat.{ℕ, ◌<◌}
use mathlib.Core.Bool.{Bool, true, false, false≢true}
use mathlib.Core.List.{List, ◌∷◌}
use mathlib.Core.Logic.{◌↔◌}
use mathlib.Core.Path.{◌≡◌, refl, sym, ap, ◌∙◌}
use native.Mathlib.Omega.{arith}
use denote.Enum.Bare.{sameb}
use Rattle.table.specs.Layout.{node_count}
use Rattle.unification.specs.Node.{nodes_from}
use Rattle.unification.specs.Outcome.{unified}
use Rattle.unification.specs.Code.Given.{Inside}
use Rattle.unification.specs.Computed.Unifying.{outcome}
use Rattle.unification.proofs.JoinedLaws.{inside_more}
use Rattle.unification.proofs.SectionLaws.{is_node, sections_well_formed}
use Rattle.unification.specs.Computed.Classes.{class_of}
use Rattle.nodes.specs.Code.Trail.{none}
use Rattle.nodes.specs.Code.Formed.{Formed, Stands}
use Rattle.unification.specs.declared.Unification.{Unification}
use Rattle.unification.specs.declared.Unification.TheVariants.{Unified, Clash, Occurs}
use Rattle.unification.specs.contracts.Unification.{the_type}
use Rattle.unification.specs.Answer.{outcome_of}
use Rattle.classes.specs.Code.Stands.{Extends}
use Rattle.classes.proofs.AtOnceLaws.{together, formed_unified}
use Rattle.branches.specs.Code.Branch.{JoinsPair}
use Rattle.branches.specs.Code.Ahead.{MayPair}
use Rattle.branches.specs.Code.Known.{KnownOf}
use Rattle.branches.specs.Code.Walk.{Standing, Pairing}
use Rattle.branches.proofs.BelowLaws.{same_more, same_unified}
use Rattle.branches.proofs.CompleteLaws.{never_more}

module _ {nodes arguments known heads : List ℕ} (next : List ℕ) (k : KnownOf nodes arguments known) (f : Formed nodes arguments known heads)
    (a b : ℕ) (p : a < node_count nodes) (q : b < node_count nodes) where
  -- one head: the classes stand for the pair as well
  pub joined_already : class_of heads a ≡ class_of heads b → JoinsPair nodes arguments known heads next a b true heads next
  joined_already e =
      record {
        answers = λ ps s. ((λ z. formed_unified nodes arguments known heads k.sections f k.counts ((a, b) ∷ ps) (both ps s)), λ z. refl);
        formed = λ z ps s. f;
        stands = λ z ps s. both ps s;
        merges = none;
        failed = λ z. absurd (false≢true (sym z));
      }
    where
      both : (ps : List (ℕ × ℕ)) → Stands nodes arguments heads ps → Stands nodes arguments heads ((a, b) ∷ ps)
      both = together nodes arguments known heads k.sections f a b p q e

-- the classes are extended
module _ {nodes arguments known heads next : List ℕ} {a b : ℕ} {r : Unification} {heads' next' : List ℕ}
    (x : Extends nodes arguments known heads next a b r heads' next') where
  -- by a pair that has a unifier with the others
  joined_unified : r ≡ Unified → JoinsPair nodes arguments known heads next a b true heads' next'
  joined_unified e =
      record {
        answers = λ ps s. ((λ z. sym (x.answers ps s) ∙ ap outcome_of e), λ z. refl);
        formed = λ z ps s. x.formed e ps s;
        stands = λ z ps s. x.stands e ps s;
        merges = x.merges;
        failed = λ z. absurd (false≢true (sym z));
      }

  -- by one that has none
  joined_failed : (outcome_of r ≡ unified → ⊥) → JoinsPair nodes arguments known heads next a b false heads' next'
  joined_failed n =
      record {
        answers = λ ps s. ((λ z. absurd (false≢true z)), λ z. absurd (n (x.answers ps s ∙ z)));
        formed = λ z ps s. absurd (false≢true z);
        stands = λ z ps s. absurd (false≢true z);
        merges = x.merges;
        failed = λ z. x.failed (λ y. n (ap outcome_of y));
      }

-- whether they are is the code's test of the answer
pub joined : {nodes arguments known heads next : List ℕ} {a b : ℕ} (r : Unification) {heads' next' : List ℕ} →
    Extends nodes arguments known heads next a b r heads' next' → JoinsPair nodes arguments known heads next a b (sameb the_type r Unified) heads' next'
joined Unified x = joined_unified x refl
joined Clash x = joined_failed x (λ z. let o : ◌≡◌ {A = ℕ} 0 1 = cc in omega arith)
joined Occurs x = joined_failed x (λ z. let o : ◌≡◌ {A = ℕ} 0 1 = cc in omega arith)

-- A pair of nodes a and b, on top of pairs that classes stand for.
module _ {nodes arguments known : List ℕ} (k : KnownOf nodes arguments known) {a b : ℕ} (p : a < node_count nodes) (q : b < node_count nodes) where
  -- one pair more is of nodes
  pub pair_inside : (ps : List (ℕ × ℕ)) → Inside (nodes_from nodes arguments) ps → Inside (nodes_from nodes arguments) ((a, b) ∷ ps)
  pair_inside ps h =
      inside_more (nodes_from nodes arguments) a b ps (is_node nodes arguments a p) (is_node nodes arguments b q) h

  -- and strikes out no less
  pub pair_partners : (ps : List (ℕ × ℕ)) → MayPair nodes arguments known ps → MayPair nodes arguments known ((a, b) ∷ ps)
  pair_partners ps h = record { never = λ x y u v e. never_more (nodes_from nodes arguments) (a, b) ps _ _ (h.never x y u v e) }

  module _ {heads next heads' next' : List ℕ} {r : Bool} (x : JoinsPair nodes arguments known heads next a b r heads' next') where
    -- it is joined exactly if the pairs have a unifier with it
    pub pair_answers : (ps : List (ℕ × ℕ)) → Standing nodes arguments heads ps →
        r ≡ true ↔ (outcome (nodes_from nodes arguments) ((a, b) ∷ ps) ≡ unified)
    pair_answers ps s =
        let y = x.answers s.pairs s.stands in
        let z = same_unified (nodes_from nodes arguments) (sections_well_formed nodes arguments k.sections) ((a, b) ∷ s.pairs) ((a, b) ∷ ps)
        (pair_inside s.pairs s.stands.inside) (pair_inside ps s.inside)
        (same_more (nodes_from nodes arguments) (a, b) s.pairs ps s.unifiers) in
        ((λ e. z.0 (y.0 e)), (λ e. y.1 (z.1 e)))

    -- then the classes stand for one pair more
    pub pair_pairing : r ≡ true → (ps : List (ℕ × ℕ)) → Pairing nodes arguments known heads ps → Pairing nodes arguments known heads' ((a, b) ∷ ps)
    pair_pairing e ps s =
        record {
          standing =
              record {
                pairs = (a, b) ∷ s.standing.pairs;
                stands = x.stands e s.standing.pairs s.standing.stands;
                inside = pair_inside ps s.standing.inside;
                unifiers = same_more (nodes_from nodes arguments) (a, b) s.standing.pairs ps s.standing.unifiers;
              };
          partners = pair_partners ps s.partners;
        }
