-- All that a listing of a problem promises, from its answer and the lent words: a condition that holds is answered and nothing is changed;
-- otherwise the complete listing is left as far as the words go, and page 14 follows.
-- For any conditions by which listings are refused, where none of them holds of a problem that has what laws need. Assumes nothing.
use Prim.Native.Nat.{ℕ, ◌<◌}
use mathlib.Core.Bool.{Bool}
use mathlib.Core.List.{List}
use mathlib.Core.Path.{◌≡◌, sym, ap, ◌∙◌}
use lib.ListN.{length}
use Rattle.table.specs.Refusal.{first_held}
use Rattle.multiset_unification.specs.Problem.{Problem}
use Rattle.multiset_unification.specs.Answer.{Told, listed, lent_after}
use Rattle.multiset_unification.specs.Page14.{Page14}
use Rattle.multiset_unification.specs.Computed.Listing.{complete_listing}
use Rattle.multiset_unification.specs.Code.Posed.{Posed}
use Rattle.multiset_unification.specs.Code.LeavesEntries.{LeavesEntries}
use Rattle.multiset_unification.proofs.AnswerLaws.{Refusals, answered_refused, refused_nothing, answered_without, lent_without}
use Rattle.multiset_unification.proofs.Page14.{page14_finished}

module _ (p : Problem) (cs : List (ℕ × Bool)) (lent lent' : List ℕ) (w : Told) where
  -- The answer, the lent words, page 14.
  abbrev pub ListingPromised : Type 0
  ListingPromised =
      (w ≡ listed cs (complete_listing p) (length lent)) ×
      ((lent' ≡ lent_after cs (complete_listing p) lent) × (w.answer ≡ 0 → Page14 p w.entries lent'))

  module _ (g : Refusals cs) (ok : first_held cs ≡ 0 → Posed p) where
    -- page 14 follows from the answer and the lent words
    promised : w ≡ listed cs (complete_listing p) (length lent) → lent' ≡ lent_after cs (complete_listing p) lent → ListingPromised
    promised a q = (a, (q, λ z. rw (q, a) (page14_finished p cs g ok lent (ap (λ (v : Told). v.answer) (sym a) ∙ z))))

    -- a refused call
    pub refused_promised : (n : ℕ) → 0 < n → first_held cs ≡ n → w ≡ record { answer = n; entries = 0 } → lent' ≡ lent → ListingPromised
    refused_promised n h e a q =
        promised (a ∙ sym (answered_refused cs (complete_listing p) (length lent) n h e))
        (q ∙ sym (refused_nothing cs (complete_listing p) lent (rw e h)))

    -- one that is not
    pub listed_promised : first_held cs ≡ 0 → LeavesEntries (complete_listing p) lent w lent' → ListingPromised
    listed_promised z x =
        promised (x.answer ∙ sym (answered_without cs (complete_listing p) (length lent) g z))
        (x.words ∙ sym (lent_without cs (complete_listing p) lent z))
