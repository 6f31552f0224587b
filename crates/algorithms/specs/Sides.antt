-- Algorithm 1 on two sides, and document 01's choices as it goes over them.
use Rattle.std.specs.Prelude.{ℕ, eqb, length}
use mathlib.Core.List.{List, [], ◌∷◌, ◌++◌, map, zip_with}
use Rattle.table.specs.Layout.{word}
use Rattle.unification.specs.Node.{Node, tabulate, nodes_in}
use Rattle.unification.specs.Outcome.{unified}
use Rattle.unification.specs.Computed.Unifying.{outcome}
use Rattle.multiset_unification.specs.Problem.{Half, Problem, half_at}
use Rattle.multiset_unification.specs.Choice.{pairs, in_left, in_right}
use Rattle.multiset_unification.specs.Entry.{digits_of}
use Rattle.algorithms.specs.Algorithms.{numbers, Contexts, context, Result, unify}

-- Nodes, and two sides over them: document 000's problem.
pub record Sides : Type 0 where
  pub nodes : List Node
  pub half : Half

-- As a problem of one half.
abbrev pub problem : Sides → Problem
problem t = record { nodes = t.nodes; halves = t.half ∷ [] }

-- The two sides of a table.
abbrev pub sides_of : List ℕ → Sides
sides_of t = record { nodes = nodes_in t; half = half_at t 2 }

-- The tag of a term is the place of its digit in a choice: the left terms are numbered from 0, and then the right terms.
unfoldable pub left_tags : Sides → List ℕ
left_tags t = numbers 0 (length t.half.left)

unfoldable pub right_tags : Sides → List ℕ
right_tags t = numbers (length t.half.left) (length t.half.right)

-- The node of the term that a tag stands for.
abbrev pub node_of : Sides → ℕ → ℕ
node_of t a = word (t.half.left ++ t.half.right) a

-- The pairs of nodes that pairs of tags stand for.
unfoldable pub node_pairs : Sides → List (ℕ × ℕ) → List (ℕ × ℕ)
node_pairs t ps = map (λ p. (node_of t p.0, node_of t p.1)) ps

-- What Algorithm 1 gives for two sides.
unfoldable pub algorithm1 : Sides → List Result
algorithm1 t =
    unify (λ ps. outcome t.nodes (node_pairs t ps)) (left_tags t) t.half.left_labels (right_tags t) t.half.right_labels

-- What it goes over: what it would give, were unify_lists never None.
unfoldable pub gone_over : Sides → List Result
gone_over t = unify (λ ps. unified) (left_tags t) t.half.left_labels (right_tags t) t.half.right_labels

-- What Algorithm 4 makes of parts p for the left labels and q for the right ones: M ↦ {ts | ..} for each part ts, with no rest where the other
-- side has no label.
abbrev pub contexts_of : List ℕ → List ℕ → List (List ℕ) → List (List ℕ) → Contexts
contexts_of ks qs p q = zip_with (context (eqb (length qs) 0)) ks p ++ zip_with (context (eqb (length ks) 0)) qs q

-- A choice as it is gone over, of terms ls and rs and labels ks and qs: its pairs, and as the part of each label the terms that it puts there.
unfoldable pub gone_over_as : List ℕ → List ℕ → List ℕ → List ℕ → List ℕ → Result
gone_over_as ls ks rs qs ds =
    record {
      pairing = pairs ls rs ds;
      contexts = contexts_of ks qs (tabulate (length ks) (in_left ls rs ds)) (tabulate (length qs) (in_right ls rs ds));
    }

-- A choice, and an entry by its digits, as they are gone over.
unfoldable pub choice_result : Sides → List ℕ → Result
choice_result t ds = gone_over_as (left_tags t) t.half.left_labels (right_tags t) t.half.right_labels ds

unfoldable pub entry_result : Sides → List ℕ → Result
entry_result t e = choice_result t (digits_of (problem t) e)
