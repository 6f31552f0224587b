-- Assignments, and the two sides under one.
use Rattle.std.specs.Prelude.{ℕ}
use mathlib.Core.List.{List, ◌++◌, map, flat_map, Memᴰ}
use Rattle.terms.specs.Term.{Term}
use Rattle.terms.specs.Substitution.{Substitution}
use Rattle.terms.specs.Multiset.{Same}
use Rattle.unification.specs.Node.{Node}
use Rattle.unification.specs.Unifier.{value}
use Rattle.multiset_unification.specs.Problem.{Half, Problem}

-- "An assignment gives each variable present in the nodes section one finite term, and each label of the table a finite multiset of finite terms."
-- Other variables and labels do not matter (`equal_agree`, `instance_agree`).
pub record Assignment : Type 0 where
  pub variables : Substitution
  pub labels : ℕ → List Term

-- "the multiset of the side's terms, with every variable in them replaced by its term, all at once, together with the multisets of the side's labels"
unfoldable pub side : List Node → Assignment → List ℕ → List ℕ → List Term
side ns A terms labels = map (value ns A.variables) terms ++ flat_map A.labels labels

-- "Two sides are then equal if every term occurs equally often in both."
abbrev pub Balanced : List Node → Half → Assignment → Type 0
Balanced ns h A = Same (side ns A h.left h.left_labels) (side ns A h.right h.right_labels)

-- The two sides of each half are.
abbrev pub EqualSides : Problem → Assignment → Type 0
EqualSides p A = (h : Half) → Memᴰ h p.halves → Balanced p.nodes h A
