-- Classes as a list that gives the head of each node's class.
use Rattle.std.specs.Prelude.{ℕ, zero, suc, ◌+◌, ◌<◌, Bool, cond, ◌≡◌, eqb, length}
use mathlib.Core.List.{List, Memᴰ}
use Rattle.unification.specs.Computed.Classes.{class_of}

-- Each class of n nodes is named by one of its nodes, its head.
pub record Partition (n : ℕ) (cs : List ℕ) : Type 0 where
  pub size : length cs ≡ n
  pub below : (i : ℕ) → i < n → class_of cs i < n
  pub own : (i : ℕ) → i < n → class_of cs (class_of cs i) ≡ class_of cs i

-- How many numbers below n have a property.
unfoldable pub count_below : ℕ → (ℕ → Bool) → ℕ
count_below zero p = 0
count_below (suc n) p = count_below n p + cond (p n) 1 0

-- Node i is the head of its class.
unfoldable pub is_root : List ℕ → ℕ → Bool
is_root cs i = eqb (class_of cs i) i

-- How many classes n nodes have.
unfoldable pub roots : ℕ → List ℕ → ℕ
roots n cs = count_below n (is_root cs)

-- The nodes of each pair are of one class of ds.
abbrev pub Unites : List ℕ → List (ℕ × ℕ) → Type 0
Unites ds todo = (a b : ℕ) → Memᴰ (a, b) todo → class_of ds a ≡ class_of ds b
