-- Terms that cannot be equal by their symbols, and two sides of terms.
use Rattle.std.specs.Prelude.{ℕ, ◌≤◌, ◌<◌, List, ◌≡◌, length}
use Rattle.table.specs.Limits.{max_terms}
use Rattle.table.specs.Layout.{word, node_count}
use Rattle.terms.specs.Substitution.{Substitution}
use Rattle.unification.specs.Node.{nodes_from}
use Rattle.unification.specs.Unifier.{value}

-- No substitution makes the terms of nodes a and b equal.
pub record NeverEqual (nodes arguments : List ℕ) (a b : ℕ) : Type 0 where
  pub never : (σ : Substitution) → value (nodes_from nodes arguments) σ a ≡ value (nodes_from nodes arguments) σ b → ⊥

-- None of the first n terms of a side is ever equal to node a.
pub record NoneEqual (nodes arguments : List ℕ) (a : ℕ) (others : List ℕ) (n : ℕ) : Type 0 where
  pub each : (j : ℕ) → j < n → NeverEqual nodes arguments a (word others j)

-- The terms of a side are nodes, and there are few.
pub record SideOf (nodes terms : List ℕ) : Type 0 where
  pub few : length terms ≤ max_terms
  pub node : (j : ℕ) → j < length terms → word terms j < node_count nodes

-- Not every term of a side can be paired with another one of the other side: there are too few others, or one has no partner.
pub data Unpaired (nodes arguments terms others : List ℕ) : Type 0 where
  too_few : length others < length terms → Unpaired nodes arguments terms others
  alone : (i : ℕ) → i < length terms → NoneEqual nodes arguments (word terms i) others (length others) → Unpaired nodes arguments terms others
