-- What a listing of entries comes to, once no condition is left to be tested.
use Rattle.std.specs.Prelude.{ℕ, List, [], ◌≡◌, length}
use Rattle.multiset_unification.specs.Answer.{Told, listed, lent_after}

-- A call answers w and leaves these words of those lent: those of a listing of the entries es.
pub record LeavesEntries (es : List (List ℕ)) (lent : List ℕ) (w : Told) (lent' : List ℕ) : Type 0 where
  pub answer : w ≡ listed [] es (length lent)
  pub words : lent' ≡ lent_after [] es lent
