-- What laws need of a problem: arguments come before their nodes, terms are nodes, and no label stands twice.
use Rattle.std.specs.Prelude.{ℕ, ◌<◌, ◌≡◌, length}
use mathlib.Core.List.{List, Memᴰ}
use Rattle.table.specs.Layout.{word}
use Rattle.unification.specs.Code.Given.{WellFormed}
use Rattle.unification.specs.Words.{Rising}
use Rattle.multiset_unification.specs.Problem.{Half, half_labels, Problem}

-- No label of the list stands twice.
abbrev pub Different : List ℕ → Type 0
Different ks = (i j : ℕ) → i < j → j < length ks → word ks i ≡ word ks j → ⊥

-- What is needed of a half over n nodes.
pub record HalfPosed (n : ℕ) (h : Half) : Type 0 where
  pub left_node : (i : ℕ) → i < length h.left → word h.left i < n
  pub right_node_lem : (j : ℕ) → j < length h.right → word h.right j < n
  pub once : Different (half_labels h)

-- No label is in both halves.
abbrev pub NoCommon : Half → Half → Type 0
NoCommon h g = (l : ℕ) → Memᴰ l (half_labels h) → Memᴰ l (half_labels g) → ⊥

-- What is needed of a problem. That of an accepted table has it (`posed`).
pub record Posed (p : Problem) : Type 0 where
  pub well_formed : WellFormed p.nodes
  pub each : (h : Half) → Memᴰ h p.halves → HalfPosed (length p.nodes) h
  pub apart : Rising NoCommon p.halves
