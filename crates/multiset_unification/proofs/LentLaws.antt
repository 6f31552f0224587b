-- The entries as they lie in the lent words: all entries of a problem have one length, so they can be cut out again, and their words counted.
-- By induction on the entries. Assumes nothing.
use Prim.Native.Nat.{ℕ, zero, suc, ◌+◌, ◌*◌, ◌≤◌}
use mathlib.Core.Bool.{Bool}
use mathlib.Core.List.Memᴰ
use mathlib.Core.List.{List, [], ◌∷◌, ◌++◌, flatten, append_assoc, Memᴰ}
use mathlib.Core.Path.{◌≡◌, refl, sym, ap, ◌∙◌}
use native.Mathlib.Omega.{arith}
use native.Mathlib.Nat.{mul-suc, mul-zero, zero-mul, suc-mul}
use lib.ListN.{length, take, drop, length-append}
use lib.Seq.{take_at, drop_at, drop-drop}
use Rattle.unification.specs.Node.{tabulate}
use Rattle.unification.specs.Words.{Rising, before}
use Rattle.unification.proofs.ListLaws.{length_none, tabulate_first, tabulate_same}
use Rattle.multiset_unification.specs.Problem.{Problem}
use Rattle.multiset_unification.specs.Choice.{Before}
use Rattle.multiset_unification.specs.Entry.{digits_of}
use Rattle.multiset_unification.specs.Answer.{entries_left, listed, lent_after, entry_words, entries_in}
use Rattle.multiset_unification.specs.Computed.Listing.{complete_listing}
use Rattle.multiset_unification.specs.Code.Posed.{Posed}
use Rattle.multiset_unification.proofs.ChoiceLaws.{before_one_way}
use Rattle.multiset_unification.proofs.EntryLaws.{entry_long}
use Rattle.multiset_unification.proofs.CompleteLaws.{complete_entry, listing_complete}
use Rattle.multiset_unification.proofs.AnswerLaws.{entries_left_lem}

-- lists of one length, one after the other, are cut out again
cut_out : (w : ℕ) (es : List (List ℕ)) → ((e : List ℕ) → Memᴰ e es → length e ≡ w) → (rest : List ℕ) →
    tabulate (length es) (λ i. take w (drop (w * i) (flatten es ++ rest))) ≡ es
unfolding flatten tabulate
cut_out w [] h rest = refl
cut_out w (e ∷ es) h rest =
    tabulate_first (length es) (λ i. take w (drop (w * i) (e ++ flatten es ++ rest)))
    ∙ ap (◌∷ tabulate (length es) (λ i. take w (drop (w * suc i) (e ++ flatten es ++ rest)))) first
    ∙ ap (e ∷◌) (tabulate_same (length es) (λ i. take w (drop (w * suc i) (e ++ flatten es ++ rest)))
    (λ i. take w (drop (w * i) (flatten es ++ rest))) (λ i q. ap (take w) (next i)) ∙ cut_out w es (λ f m. h f (Memᴰ.tail m)) rest)
  where
    l : length e ≡ w
    l = h e (Memᴰ.head refl)

    shift : e ++ flatten es ++ rest ≡ e ++ (flatten es ++ rest)
    shift = append_assoc e (flatten es) rest

    first : take w (drop (w * 0) (e ++ flatten es ++ rest)) ≡ e
    first = rw (mul-zero w, shift) (take_at e (flatten es ++ rest) w l)

    next : (i : ℕ) → drop (w * suc i) (e ++ flatten es ++ rest) ≡ drop (w * i) (flatten es ++ rest)
    next i =
        let x : w * suc i ≡ w + w * i = mul-suc w i ∙ omega arith in
        ap (λ (n : ℕ). drop n (e ++ flatten es ++ rest)) x ∙ sym (drop-drop (w * i) w (e ++ flatten es ++ rest)) ∙
        ap (drop (w * i)) (ap (drop w) shift ∙ drop_at e (flatten es ++ rest) w l)

pub taken_in : {A : Type 0} (k : ℕ) (xs : List A) (x : A) → Memᴰ x (take k xs) → Memᴰ x xs
taken_in zero xs x m = absurd (Memᴰ.not-nil m)
taken_in (suc k) [] x m = absurd (Memᴰ.not-nil m)
taken_in (suc k) (y ∷ xs) x (Memᴰ.head e) = Memᴰ.head e
taken_in (suc k) (y ∷ xs) x (Memᴰ.tail m) = Memᴰ.tail (taken_in k xs x m)

-- lists of one length, one after the other, are as many times as long
pub flatten_long : (w : ℕ) (es : List (List ℕ)) → ((e : List ℕ) → Memᴰ e es → length e ≡ w) → length (flatten es) ≡ length es * w
unfolding flatten
flatten_long w [] h = sym (zero-mul w)
flatten_long w (e ∷ es) h =
    let s = flatten_long w es (λ f m. h f (Memᴰ.tail m)) in
    omega (arith, length-append e (flatten es), h e (Memᴰ.head refl), s, suc-mul (length es) w)

module _ (p : Problem) (g : Posed p) where
  complete_long : (e : List ℕ) → Memᴰ e (complete_listing p) → length e ≡ entry_words p
  complete_long e m = entry_long p e g (complete_entry p e m)

  -- the entries of the complete listing have together as many times the words of one
  pub listing_words : length (flatten (complete_listing p)) ≡ length (complete_listing p) * entry_words p
  listing_words = flatten_long (entry_words p) (complete_listing p) complete_long

  -- where entries have no words there is one at most: no two could stand in order
  pub one_at_most : entry_words p ≡ 0 → length (complete_listing p) ≤ 1
  one_at_most z = go (complete_listing p) (listing_complete p g).rising (λ e m. complete_long e m ∙ z)
    where
      go : (es : List (List ℕ)) → Rising (λ e f. Before (digits_of p e) (digits_of p f)) es → ((e : List ℕ) → Memᴰ e es → length e ≡ 0) →
          length es ≤ 1
      go [] r h = omega arith
      go (e ∷ []) r h = omega arith
      go (e ∷ f ∷ es) (before b r) h =
          let x = length_none e (h e (Memᴰ.head refl)) in
          let y = length_none f (h f (Memᴰ.tail (Memᴰ.head refl))) in
          let s : Before (digits_of p []) (digits_of p []) = rw (x, y) at (b f (Memᴰ.head refl)) in
          absurd (before_one_way (digits_of p []) (digits_of p []) s s)

  module _ (cs : List (ℕ × Bool)) where
    left_long : (lent : ℕ) (e : List ℕ) → Memᴰ e (entries_left cs (complete_listing p) lent) → length e ≡ entry_words p
    left_long lent e m =
        complete_long e
        (taken_in (listed cs (complete_listing p) lent).entries (complete_listing p) e (rw (entries_left_lem cs (complete_listing p) lent) at m))

    -- the entries that the answer counts lie in the lent words, one after the other from the first word on
    pub entries_lie : (lent : List ℕ) →
        entries_in p (listed cs (complete_listing p) (length lent)).entries (lent_after cs (complete_listing p) lent)
        ≡ entries_left cs (complete_listing p) (length lent)
    unfolding entries_in lent_after listed
    entries_lie lent =
        cut_out (entry_words p) (entries_left cs (complete_listing p) (length lent)) (left_long (length lent))
        (drop (length (flatten (entries_left cs (complete_listing p) (length lent)))) lent)

    -- those that a call leaves take as many times the words of one
    pub left_words : (lent : ℕ) →
        length (flatten (entries_left cs (complete_listing p) lent)) ≡ (listed cs (complete_listing p) lent).entries * entry_words p
    unfolding listed
    left_words lent = flatten_long (entry_words p) (entries_left cs (complete_listing p) lent) (left_long lent)
