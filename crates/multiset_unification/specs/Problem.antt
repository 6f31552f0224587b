-- A problem: nodes, and halves over them. A table is one way to write it.
use Rattle.std.specs.Prelude.{ℕ, ◌+◌, List, [], ◌∷◌, ◌++◌}
use Rattle.table.specs.Layout.{section}
use Rattle.unification.specs.Node.{Node, nodes_in}

-- The terms and labels of two sides.
pub record Half : Type 0 where
  pub left : List ℕ
  pub left_labels : List ℕ
  pub right : List ℕ
  pub right_labels : List ℕ

-- The labels of both: the left ones, then the right ones.
abbrev pub half_labels : Half → List ℕ
half_labels h = h.left_labels ++ h.right_labels

-- Nodes, and halves over them. Document 01's problem has one half.
pub record Problem : Type 0 where
  pub nodes : List Node
  pub halves : List Half

-- "left terms, left labels, right terms, right labels": the half in four sections of a table, from section k on.
abbrev pub half_at : List ℕ → ℕ → Half
half_at t k =
    record { left = section t k; left_labels = section t (k + 1); right = section t (k + 2); right_labels = section t (k + 3) }

-- The problem of document 01's table: "nodes, arguments, left terms, left labels, right terms, right labels".
abbrev pub problem_of : List ℕ → Problem
problem_of t = record { nodes = nodes_in t; halves = half_at t 2 ∷ [] }
