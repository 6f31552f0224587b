-- A table of places by key, in which each place leads to the one before it with its key.
use Rattle.std.specs.Prelude.{ℕ, ◌<◌, List, Option, Some, None, ◌≡◌, slice_index_or, length, slice_set, replicate}
use Rattle.table.specs.Limits.{max_nodes}
use Rattle.values.specs.declared.applications.Applications.{Applications}

-- How many keys the table has.
abbrev pub keys : ℕ
keys = 256

-- What stands at a place of a list; none past its end.
abbrev pub at : List (Option ℕ) → ℕ → Option ℕ
at xs k = slice_index_or xs k None

-- How long both lists are.
pub record Sizes (t : Applications) : Type 0 where
  pub latest : length t.latest ≡ keys
  pub earlier : length t.earlier ≡ max_nodes

-- No key leads to a place.
abbrev pub IsEmpty : Applications → Type 0
IsEmpty t = t.latest ≡ replicate keys None

-- A table with a place more, in front of those with its key.
abbrev pub with_place : Applications → ℕ → ℕ → Applications
with_place t place key = record { latest = slice_set t.latest key (Some place); earlier = slice_set t.earlier place (at t.latest key) }

-- From a cursor, each place leading to the one before it, one comes to place q.
pub data Reached (earlier : List (Option ℕ)) : Option ℕ → ℕ → Type 0 where
  here : {q : ℕ} → Reached earlier (Some q) q
  onward : {p q : ℕ} → Reached earlier (at earlier p) q → Reached earlier (Some p) q

-- Place q is on the way along those with a key.
abbrev pub OnWay : Applications → ℕ → ℕ → Type 0
OnWay t key q = Reached t.earlier (at t.latest key) q

-- The places on the way along those with a key fall.
abbrev pub Falls : Applications → ℕ → Type 0
Falls t key = (p q : ℕ) → OnWay t key p → at t.earlier p ≡ Some q → q < p

-- Of the places before p, a key leads to the last of the representatives that have it, and each of these to the one before it: on the way
-- along those with a key are just these, and they fall.
pub record Chained (rep : ℕ → Type 0) (key : ℕ → ℕ) (t : Applications) (p : ℕ) : Type 0 where
  pub whole : (q : ℕ) → q < p → rep q → OnWay t (key q) q
  pub only : (x q : ℕ) → OnWay t x q → (q < p) × rep q × (key q ≡ x)
  pub falls : (x : ℕ) → Falls t x
