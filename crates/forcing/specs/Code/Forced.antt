-- Pairs that every choice has, found by what is left of the sets of partners, and what unifying them comes to.
use Rattle.std.specs.Prelude.{ℕ, ◌+◌, ◌<◌, Bool, true, false, List, ◌≡◌}
use Rattle.std.specs.declared.option.Option.{Option}
use Rattle.std.specs.declared.option.Option.TheVariants.{None, Some}
use Rattle.table.specs.Layout.{word}
use Rattle.branches.specs.Code.Known.{left_count, KeepsKnown}
use Rattle.branches.specs.Code.Ahead.{has, Completable}
use Rattle.branches.specs.Code.Walk.{NoneOfKnown, Based}
use Rattle.ahead.specs.Code.Plan.{Sized, Ready}

-- Right terms that are not in `once` no left term before i may take, and those that are not in `twice` one at most.
pub record TakenBefore (known : List ℕ) (i once twice : ℕ) : Type 0 where
  pub none : (j q : ℕ) → q < i → has once j ≡ false → has (word known (600 + q)) j ≡ false
  pub one : (j p q : ℕ) → p < q → q < i → has twice j ≡ false → has (word known (600 + p)) j ≡ true → has (word known (600 + q)) j ≡ false

-- No two left terms may take right term j.
pub record OneTaker (known : List ℕ) (j : ℕ) : Type 0 where
  pub one : (p q : ℕ) → p < q → q < left_count known → has (word known (600 + p)) j ≡ true → has (word known (600 + q)) j ≡ false

-- Right terms that are not in the set are such.
pub record Contested (known : List ℕ) (twice : ℕ) : Type 0 where
  pub others : (j : ℕ) → has twice j ≡ false → OneTaker known j

-- No left term may take right term j.
pub record NoTaker (known : List ℕ) (j : ℕ) : Type 0 where
  pub none : (q : ℕ) → q < left_count known → has (word known (600 + q)) j ≡ false

-- Left term i is the first that may take right term j.
pub record FirstTaker (known : List ℕ) (j i : ℕ) : Type 0 where
  pub within : i < left_count known
  pub before : (q : ℕ) → q < i → has (word known (600 + q)) j ≡ false
  pub takes : has (word known (600 + i)) j ≡ true

-- What unifying pairs that every choice has comes to: the classes stand for them too, or no choice is admissible.
pub record Forces (nodes arguments known : List ℕ) (r : Bool) (heads' next' : List ℕ) : Type 0 where
  pub based : r ≡ true → Based nodes arguments known heads' next'
  pub none : r ≡ false → NoneOfKnown nodes arguments known

-- The bits are filled for the rows, and can be filled again.
pub record Planned (known can : List ℕ) : Type 0 where
  pub sized : Sized known
  pub ready : Ready known can
  pub completable : Completable known can

-- What trying the pairs of left terms comes to: how many rows have fewer pairs, or, where there is no number, that no choice is admissible.
pub record Settles (nodes arguments known known' heads' next' : List ℕ) (r : Option ℕ) : Type 0 where
  pub keeps : KeepsKnown known known'
  pub based : (n : ℕ) → r ≡ Some n → Based nodes arguments known' heads' next'
  pub same : r ≡ Some 0 → known' ≡ known
  pub none : r ≡ None → NoneOfKnown nodes arguments known

-- What rounds of this have come to, before the next.
pub record Settling (nodes arguments known₀ known can heads next : List ℕ) : Type 0 where
  pub keeps : KeepsKnown known₀ known
  pub based : Based nodes arguments known heads next
  pub planned : Planned known can
