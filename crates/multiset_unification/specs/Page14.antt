-- Demand 3, for a listing that is answered as finished.
use Rattle.std.specs.Prelude.{ℕ, ◌↔◌}
use mathlib.Core.List.{List, Memᴰ}
use Rattle.multiset_unification.specs.Problem.{Problem}
use Rattle.multiset_unification.specs.Entry.{IsCompleteListing}
use Rattle.multiset_unification.specs.Assignment.{Assignment, EqualSides}
use Rattle.multiset_unification.specs.Instance.{Instance}
use Rattle.multiset_unification.specs.Answer.{entries_in}

-- A listing of a problem that is answered as finished with k entries, which lie in these words.
pub record Page14 (p : Problem) (k : ℕ) (words : List ℕ) : Type 0 where
  -- "the entries that the call wrote are the complete listing"
  pub complete : IsCompleteListing p (entries_in p k words)
  -- "any assignment [..], put into both sides, makes them equal exactly when it is an instance of one of these entries"
  pub exactly : (A : Assignment) → EqualSides p A ↔ ((e : List ℕ) × Memᴰ e (entries_in p k words) × Instance p A e)
