-- The complete listing is document 01's listing of all admissible choices. Assumes nothing.
use Prim.Native.Nat.{ℕ}
use mathlib.Core.List.{List, Memᴰ}
use mathlib.Core.Path.{◌≡◌, refl}
use Rattle.multiset_unification.specs.Problem.{Problem}
use Rattle.multiset_unification.specs.Entry.{IsCompleteListing}
use Rattle.multiset_unification.specs.Computed.Listing.{admissible_listing, complete_listing}
use Rattle.multiset_unification.specs.Code.Posed.{Posed}
use Rattle.multiset_unification.proofs.EntryLaws.{admissible_listing_lem, admissible_one}

-- "The entries of all admissible choices, in this order, are the complete listing."
pub complete_admissible : (p : Problem) → complete_listing p ≡ admissible_listing p
unfolding complete_listing
complete_admissible p = refl

-- its entries are of admissible choices
pub complete_entry : (p : Problem) (e : List ℕ) → Memᴰ e (complete_listing p) → Memᴰ e (admissible_listing p)
complete_entry p e m = rw (complete_admissible p) at m

-- what is computed is the complete listing
pub listing_complete : (p : Problem) → Posed p → IsCompleteListing p (complete_listing p)
listing_complete p g = rw (complete_admissible p) (admissible_listing_lem p g)

-- and no other list is
pub listing_one : (p : Problem) → Posed p → (es : List (List ℕ)) → IsCompleteListing p es → es ≡ complete_listing p
listing_one p g es c = rw (complete_admissible p) (admissible_one p g es c)
