-- The variables present, by their least nodes.
use Rattle.std.specs.Prelude.{ℕ, ◌+◌, ◌≤◌, ◌<◌, cond, List, [], ◌∷◌, ◌++◌, map, ◌⊎◌, ◌≡◌, ltb, length, set, take, drop}
use Rattle.table.specs.Limits.{max_variable}
use Rattle.table.specs.Layout.{word, kind_of, name_of, node_count}
use Rattle.unification.specs.Node.{Node, nodes_from}
use Rattle.unification.specs.Computed.Variables.{variables_of}
use Rattle.unification.specs.Computed.Solution.{node_of}
use Rattle.unification.specs.Computed.Classes.{gather}

-- The least node of each variable present, in rising order of variable number.
unfoldable pub least_nodes : List Node → List ℕ
least_nodes ns = map (node_of ns) (variables_of ns)

-- How many numbers a variable can have.
abbrev pub variable_names : ℕ
variable_names = max_variable + 1

-- The least node of each variable among the nodes before node i, by its number; the number of nodes where it has none. No variable from
-- number `end` on has one.
pub record LeastBefore (nodes least : List ℕ) (i end : ℕ) : Type 0 where
  pub long : length least ≡ variable_names
  pub within : end ≤ variable_names
  pub found : (x : ℕ) → x < variable_names → (word least x ≡ node_count nodes) ⊎ ((word least x < i) × (kind_of nodes (word least x) ≡ 0) × (name_of nodes (word least x) ≡ x))
  pub first : (k : ℕ) → k < i → kind_of nodes k ≡ 0 → word least (name_of nodes k) ≤ k
  pub names : (k : ℕ) → k < i → kind_of nodes k ≡ 0 → name_of nodes k < end

-- What noting node i for variable x comes to: what stands there is the variable's least node, or node i is put there.
pub data LeastNoted (least : List ℕ) (x i n r : ℕ) (least' : List ℕ) : Type 0 where
  stood : word least x < n → r ≡ word least x → least' ≡ least → LeastNoted least x i n r least'
  noted_here : n ≤ word least x → r ≡ i → least' ≡ set least x i → LeastNoted least x i n r least'

-- The least node of each variable, by its number; the number of nodes where it has none.
pub record LeastByName (nodes arguments least : List ℕ) : Type 0 where
  pub long : length least ≡ variable_names
  pub within : (x : ℕ) → x < variable_names → word least x ≤ node_count nodes
  pub right : (x : ℕ) → x < variable_names → word least x ≡ node_of (nodes_from nodes arguments) x

-- No variable from number `end` on has one of n nodes: n stands at its number.
pub record NoneFrom (least : List ℕ) (n end : ℕ) : Type 0 where
  pub within : end ≤ variable_names
  pub none : (x : ℕ) → end ≤ x → x < variable_names → word least x ≡ n

-- The least nodes of the variables below x that have one.
unfoldable pub present_below : List ℕ → ℕ → ℕ → List ℕ
present_below least n x = gather x (λ y. cond (ltb (word least y) n) (word least y ∷ []) [])

-- All but the 64 words from 512 on is as before.
pub record KeepsOthers (counts counts' : List ℕ) : Type 0 where
  pub long : length counts' ≡ length counts
  pub before : (k : ℕ) → k < 512 → word counts' k ≡ word counts k
  pub behind : (k : ℕ) → 576 ≤ k → word counts' k ≡ word counts k

-- What noting variable x in the list of least nodes comes to.
pub record KeepsVariable (least : List ℕ) (n : ℕ) (counts : List ℕ) (count x r : ℕ) (counts' : List ℕ) : Type 0 where
  pub more : r ≤ count + 1
  pub others : KeepsOthers counts counts'
  pub kept : take r (drop 512 counts') ≡ take count (drop 512 counts) ++ cond (ltb (word least x) n) (word least x ∷ []) []

-- The first r of the list are the least nodes of the variables that have one of n nodes.
pub record ListsPresent (least : List ℕ) (n : ℕ) (counts : List ℕ) (r : ℕ) (counts' : List ℕ) : Type 0 where
  pub within : r ≤ variable_names
  pub counted : r ≡ length (present_below least n variable_names)
  pub others : KeepsOthers counts counts'
  pub listed : take r (drop 512 counts') ≡ present_below least n variable_names
