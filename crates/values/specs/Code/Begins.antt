-- Classes that stand for a list of pairs, and how they are extended by one pair more. The listing builds on these.
use Rattle.std.specs.Prelude.{ℕ, ◌≤◌, List, ◌++◌, ◌≡◌, length, take, drop}
use Rattle.table.specs.Layout.{node_count}
use Rattle.terms.specs.Substitution.{Substitution}
use Rattle.unification.specs.Unifier.{Unifies}
use Rattle.unification.specs.Computed.Unifying.{words_of}
use Rattle.unification.specs.Computed.Variables.{variables_of}
use Rattle.unification.specs.Node.{nodes_from}
use Rattle.nodes.specs.Code.Open.{Counts}
use Rattle.nodes.specs.Code.Circle.{HeadsFirst}
use Rattle.values.specs.Code.Present.{variable_names, least_nodes}
use Rattle.nodes.specs.Code.Formed.{Formed, Stands}

-- The variables present, by their least nodes, which are the first of a list.
pub record Lists (nodes arguments : List ℕ) (count : ℕ) (list : List ℕ) : Type 0 where
  pub within : count ≤ variable_names
  pub counted : count ≡ length (variables_of (nodes_from nodes arguments))
  pub least : take count list ≡ least_nodes (nodes_from nodes arguments)

-- The binding words stand in the lent words, before those past them, for whatever pairs the classes stand for.
abbrev pub Leaves : List ℕ → List ℕ → List ℕ → List ℕ → List ℕ → Type 0
Leaves nodes arguments heads out out' =
    (ps : List (ℕ × ℕ)) → Stands nodes arguments heads ps →
    out' ≡ words_of (nodes_from nodes arguments) ps ++ drop (length (variables_of (nodes_from nodes arguments))) out

-- What unifying begins with: the variables present, and classes in which nodes of one term are together. They stand for
-- pairs of nodes of one term, which every substitution unifies.
pub record BeginsShared (nodes arguments : List ℕ) (count : ℕ) (list heads : List ℕ) : Type 0 where
  pub lists : Lists nodes arguments count list
  pub formed : (counts : List ℕ) → Counts nodes arguments counts (node_count nodes) → Formed nodes arguments counts heads
  pub pairs : List (ℕ × ℕ)
  pub stands : Stands nodes arguments heads pairs
  pub same : (σ : Substitution) → Unifies (nodes_from nodes arguments) pairs σ
  pub first : HeadsFirst (node_count nodes) heads
