-- Classes that stand for a list of pairs are extended by one pair more. The listing builds on this.
use Rattle.std.specs.Prelude.{ℕ, List, ◌∷◌, ◌≡◌}
use Rattle.table.specs.Layout.{node_count}
use Rattle.unification.specs.Node.{nodes_from}
use Rattle.unification.specs.declared.Unification.{Unification}
use Rattle.unification.specs.declared.Unification.TheVariants.{Unified}
use Rattle.unification.specs.Answer.{outcome_of}
use Rattle.unification.specs.Computed.Unifying.{outcome}
use Rattle.nodes.specs.Code.Open.{KeepsClosed}
use Rattle.nodes.specs.Code.Trail.{Merges}
use Rattle.nodes.specs.Code.Formed.{Formed, Stands}

-- Classes are extended by the pair of a and b: the answer is what unifying the longer list comes to. Where that is unified, the classes
-- after it stand for the list, closed applications keep their heads, and the joins can be undone; otherwise the classes are as before.
pub record Extends (nodes arguments counts heads next : List ℕ) (a b : ℕ) (r : Unification) (heads' next' : List ℕ) : Type 0 where
  pub answers : (ps : List (ℕ × ℕ)) → Stands nodes arguments heads ps → outcome_of r ≡ outcome (nodes_from nodes arguments) ((a, b) ∷ ps)
  pub formed : r ≡ Unified → (ps : List (ℕ × ℕ)) → Stands nodes arguments heads ps → Formed nodes arguments counts heads'
  pub stands : r ≡ Unified → (ps : List (ℕ × ℕ)) → Stands nodes arguments heads ps → Stands nodes arguments heads' ((a, b) ∷ ps)
  pub merges : Merges (node_count nodes) heads next heads' next'
  pub failed : (r ≡ Unified → ⊥) → (heads' ≡ heads) × (next' ≡ next)
  pub kept : r ≡ Unified → KeepsClosed nodes counts heads heads'
