-- What is given to unifying: nodes whose arguments come before them, and pairs of nodes.
use Rattle.std.specs.Prelude.{ℕ, ◌<◌, ◌≡◌, length}
use mathlib.Core.List.{List, Memᴰ}
use Rattle.unification.specs.Node.{Node, application, node_at}

-- "An argument is a node number smaller than that of the node it belongs to." So it is in every accepted table (`well_formed`).
pub record WellFormed (ns : List Node) : Type 0 where
  pub smaller : (i f : ℕ) (us : List ℕ) → i < length ns → node_at ns i ≡ application f us → (a : ℕ) → Memᴰ a us → a < i

-- The given pairs are of nodes.
abbrev pub Inside : List Node → List (ℕ × ℕ) → Type 0
Inside ns ps = (a b : ℕ) → Memᴰ (a, b) ps → (a < length ns) × (b < length ns)
