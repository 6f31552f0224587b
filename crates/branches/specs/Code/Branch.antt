-- A pair joined on top of those of a branch.
use Rattle.std.specs.Prelude.{ℕ, ◌+◌, ◌-◌, ◌^◌, Bool, true, false, List, ◌∷◌, ◌↔◌, ◌≡◌}
use Rattle.table.specs.Layout.{word, node_count}
use Rattle.unification.specs.Node.{nodes_from}
use Rattle.unification.specs.Outcome.{unified}
use Rattle.unification.specs.Computed.Unifying.{outcome}
use Rattle.nodes.specs.Code.Trail.{Merges}
use Rattle.nodes.specs.Code.Formed.{Formed, Stands}
use Rattle.branches.specs.Code.Ahead.{has, bit_at}

-- The pair of a and b is joined on top of the pairs that the classes stand for, if these have a unifier with it; otherwise the classes are as before.
pub record JoinsPair (nodes arguments known heads next : List ℕ) (a b : ℕ) (r : Bool) (heads' next' : List ℕ) : Type 0 where
  pub answers : (ps : List (ℕ × ℕ)) → Stands nodes arguments heads ps → r ≡ true ↔ (outcome (nodes_from nodes arguments) ((a, b) ∷ ps) ≡ unified)
  pub formed : r ≡ true → (ps : List (ℕ × ℕ)) → Stands nodes arguments heads ps → Formed nodes arguments known heads'
  pub stands : r ≡ true → (ps : List (ℕ × ℕ)) → Stands nodes arguments heads ps → Stands nodes arguments heads' ((a, b) ∷ ps)
  pub merges : Merges (node_count nodes) heads next heads' next'
  pub failed : r ≡ false → (heads' ≡ heads) × (next' ≡ next)

-- Left term i may take the right term that digit d counts to: the pair is not struck out, the right term is not in the set of those that are
-- paired, and what is left can still be completed with it.
pub data IsOpen (known can : List ℕ) (i d paired : ℕ) : Bool → Type 0 where
  may : has (word known (600 + i)) (d - 1) ≡ true → has paired (d - 1) ≡ false → bit_at can i (paired + 2 ^ (d - 1)) ≡ true →
      IsOpen known can i d paired true
  struck : has (word known (600 + i)) (d - 1) ≡ false → IsOpen known can i d paired false
  taken : has paired (d - 1) ≡ true → IsOpen known can i d paired false
  lost : has paired (d - 1) ≡ false → bit_at can i (paired + 2 ^ (d - 1)) ≡ false → IsOpen known can i d paired false
