-- One term against one, without labels: there is one choice, and its pair is unified or not.
-- The entries below the branch without digits are computed; the lent words are two digits and what `unify` leaves. Assumes nothing.
use Prim.Native.Nat.{ℕ, ◌+◌, ◌-◌, ◌≤◌, ◌<◌}
use mathlib.Core.List.{List, [], ◌∷◌, ◌++◌, flatten, append-nil}
use mathlib.Core.Path.{◌≡◌, refl, sym, ap, ◌∙◌}
use native.Mathlib.Omega.{arith}
use borrow.Author.Tests.{lt-leb, le-ltb}
use borrow.Rule.Slice.PartMut.{mid_of, put_mid, Post-is, put_same}
use lib.ListN.{length, take, drop, set, length-drop, drop_of_length-le}
use lib.Seq.{drop-drop, take_all}
use Rattle.table.specs.Answer.{number_of}
use Rattle.std.specs.Prelude.{Result, Ok, Err}
use Rattle.table.specs.declared.Refusal.{Refusal}
use Rattle.unification.specs.Node.{Node}
use Rattle.unification.specs.Outcome.{Outcome, unified, clash, occurs}
use Rattle.unification.specs.Computed.Variables.{variables_of}
use Rattle.unification.specs.Computed.Unifying.{outcome, words_of}
use Rattle.unification.specs.declared.Unification.{Unification}
use Rattle.unification.specs.declared.Unification.TheVariants.{Unified, Clash, Occurs}
use Rattle.unification.specs.Answer as unifying
use Rattle.unification.specs.Answer.{ended, refused, words_after}
use Rattle.unification.proofs.AnswerLaws.{words_counted}
use Rattle.unify.specs.Code.Calling.{called, AnswersByNodes}
use Rattle.multiset_unification.specs.Answer.{Told, told_listing, lent_after}
use Rattle.multiset_unification.specs.declared.Listing.TheVariants.{Finished}
use Rattle.multiset_unification.specs.Computed.Choices.{branch}
use Rattle.multiset_unification.specs.Code.LeavesEntries.{LeavesEntries}
use Rattle.multiset_unification.proofs.AnswerLaws.{nothing, nothing_held, fitting_all, fitting_left, answered_finished}
use Rattle.entries.specs.Code.Writing.{marked}
use Rattle.branches.specs.Code.Walk.{over, if_unified, on_digit, below}
use Rattle.branches.proofs.BelowLaws.{not_unified}
use Rattle.listing.proofs.CallingLaws.{written_none}

-- one entry that fits
written_one : (e lent : List ℕ) → length e ≤ length lent → LeavesEntries (e ∷ []) lent (told_listing (Finished 1)) (e ++ drop (length e) lent)
unfolding flatten lent_after
written_one e lent h =
    let n = append-nil e in
    let m : length (flatten (e ∷ [])) ≤ length lent = rw n h in
    record {
      answer = sym (answered_finished [] (e ∷ []) (length lent) nothing nothing_held m);
      words = rw (fitting_left [] (e ∷ []) (length lent) nothing_held, fitting_all (length lent) (e ∷ []) m, n) refl;
    }

-- the words behind two digits
two_more : {es : List (List ℕ)} {w : Told} (ws lent : List ℕ) → LeavesEntries es lent w ((1 ∷ 0 ∷ ws) ++ drop (length (1 ∷ 0 ∷ ws)) lent) →
    LeavesEntries es lent w (1 ∷ 0 ∷ (ws ++ drop (length ws) (drop 2 lent)))
two_more {es} {w} ws lent l =
    let n : 2 + length ws ≡ length (1 ∷ 0 ∷ ws) = omega arith in
    let z : drop (length ws) (drop 2 lent) ≡ drop (length (1 ∷ 0 ∷ ws)) lent = drop-drop (length ws) 2 lent ∙ ap (λ (k : ℕ). drop k lent) n in
    rw z l

-- two digits put before the words
two_digits : (lent part : List ℕ) → 2 ≤ length lent → set (set (put_mid 2 (length lent - 2) lent part) 0 1) 1 0 ≡ 1 ∷ 0 ∷ part
two_digits lent part h = ap (λ (l : List ℕ). set (set l 0 1) 1 0) whole ∙ front lent h
  where
    whole : put_mid 2 (length lent - 2) lent part ≡ take 2 lent ++ part
    whole =
        let z = Post-is 2 (length lent) lent h ∙ drop_of_length-le lent {i = length lent} (omega arith) in
        ap (λ (l : List ℕ). take 2 lent ++ (part ++ l)) z ∙ ap (λ (l : List ℕ). take 2 lent ++ l) (append-nil part)

    front : (l : List ℕ) → 2 ≤ length l → set (set (take 2 l ++ part) 0 1) 1 0 ≡ 1 ∷ 0 ∷ part
    front [] m = absurd (omega arith)
    front (y ∷ []) m = absurd (omega arith)
    front (y ∷ z ∷ l) m = refl

-- there is room for the second
pub second_room : (lent part : List ℕ) (n : ℕ) → 2 ≤ length lent → 1 < length (set (put_mid 2 n lent part) 0 1)
second_room [] part n h = absurd (omega arith)
second_room (y ∷ []) part n h = absurd (omega arith)
second_room (y ∷ z ∷ l) part n h = omega arith

module _ (ns : List Node) (a b : ℕ) where
  -- The entries of the only choice.
  abbrev single_entries : List (List ℕ)
  single_entries = below ns (b ∷ []) 0 0 (a ∷ []) [] [] (1 ∷ [])

  -- its pair has a unifier, or there is none
  single_entries_lem : single_entries ≡ if_unified (outcome ns ((a, b) ∷ [])) ((1 ∷ 0 ∷ words_of ns ((a, b) ∷ [])) ∷ [])
  unfolding below over on_digit marked branch
  single_entries_lem = append-nil _

  -- The two terms are unified, in the lent words behind two digits.
  module _ (lent : List ℕ) {part' : List ℕ} {r : Result Unification Refusal} (x : AnswersByNodes ns a b (mid_of 2 (length lent - 2) lent) r part')
      (p : a < length ns) (q : b < length ns) (few : length (variables_of ns) ≤ 64) (room : 66 ≤ length lent) where
    -- what is lent for the words is all behind the digits
    part_is : mid_of 2 (length lent - 2) lent ≡ drop 2 lent
    part_is =
        let d = length-drop 2 lent in
        take_all (length lent - 2) (drop 2 lent) (omega (arith, d))

    -- there is room for the words
    part_room : length (variables_of ns) ≤ length (mid_of 2 (length lent - 2) lent)
    part_room =
        let d = ap length part_is ∙ length-drop 2 lent in
        omega (arith, d, few, room)

    -- the answer is what becomes of the pair
    single_answer : unifying.told r ≡ ended (outcome ns ((a, b) ∷ []))
    unfolding called
    single_answer =
        x.answer
        ∙ rw (lt-leb (length ns) a p, lt-leb (length ns) b q, le-ltb (length (mid_of 2 (length lent - 2) lent)) (length (variables_of ns)) part_room)
        refl

    -- and so are the words
    part_words : (o : Outcome) → unifying.told r ≡ ended o →
        part' ≡ words_after (ended o) (words_of ns ((a, b) ∷ [])) (mid_of 2 (length lent - 2) lent)
    part_words o d =
        x.words
        ∙ ap (λ (w : unifying.Answer). words_after w (words_of ns ((a, b) ∷ [])) (mid_of 2 (length lent - 2) lent)) (sym x.answer ∙ d)

    -- the entries by what becomes of the pair
    entries_by : (o : Outcome) → unifying.told r ≡ ended o → single_entries ≡ if_unified o ((1 ∷ 0 ∷ words_of ns ((a, b) ∷ [])) ∷ [])
    entries_by o d =
        let z : outcome ns ((a, b) ∷ []) ≡ o = cc (single_answer, d) in
        single_entries_lem ∙ ap (λ (w : Outcome). if_unified w ((1 ∷ 0 ∷ words_of ns ((a, b) ∷ [])) ∷ [])) z

    -- there is a unifier: two digits and its words
    pub single_finished : r ≡ Ok Unified →
        LeavesEntries single_entries lent (told_listing (Finished 1)) (set (set (put_mid 2 (length lent - 2) lent part') 0 1) 1 0)
    unfolding if_unified words_after
    single_finished u =
        let d : unifying.told r ≡ ended unified = ap unifying.told u in
        let n = words_counted ns ((a, b) ∷ []) in
        let m : length (1 ∷ 0 ∷ words_of ns ((a, b) ∷ [])) ≤ length lent = omega (arith, n, few, room) in
        rw (entries_by unified d, two_digits lent part' (omega (arith, room)), part_words unified d, part_is)
        (two_more (words_of ns ((a, b) ∷ [])) lent (written_one (1 ∷ 0 ∷ words_of ns ((a, b) ∷ [])) lent m))

    -- there is none: the lent words are as before
    single_none : (o : Outcome) → (o ≡ unified → ⊥) → unifying.told r ≡ ended o → part' ≡ mid_of 2 (length lent - 2) lent →
        LeavesEntries single_entries lent (told_listing (Finished 0)) (put_mid 2 (length lent - 2) lent part')
    single_none o n d e =
        rw (e, put_same 2 (length lent - 2) lent) (written_none single_entries lent (entries_by o d ∙ not_unified o _ n))

    single_clash : r ≡ Ok Clash → LeavesEntries single_entries lent (told_listing (Finished 0)) (put_mid 2 (length lent - 2) lent part')
    unfolding words_after
    single_clash u =
        let d : unifying.told r ≡ ended clash = ap unifying.told u in
        single_none clash (λ z. let o : ◌≡◌ {A = ℕ} 0 1 = cc in omega arith) d (part_words clash d)

    single_occurs : r ≡ Ok Occurs → LeavesEntries single_entries lent (told_listing (Finished 0)) (put_mid 2 (length lent - 2) lent part')
    unfolding words_after
    single_occurs u =
        let d : unifying.told r ≡ ended occurs = ap unifying.told u in
        single_none occurs (λ z. let o : ◌≡◌ {A = ℕ} 0 1 = cc in omega arith) d (part_words occurs d)

    -- there is no other answer
    single_refused : (f : Refusal) → r ≡ Err f → ⊥
    single_refused f u =
        let d : refused (number_of f) ≡ ended (outcome ns ((a, b) ∷ [])) = sym (ap unifying.told u) ∙ single_answer in
        let o : ◌≡◌ {A = ℕ} 0 1 = cc in
        omega (arith, o)

    -- without a unifier there is no entry
    pub single_failed : (s : Result Unification Refusal) → r ≡ s → (s ≡ Ok Unified → ⊥) →
        LeavesEntries single_entries lent (told_listing (Finished 0)) (put_mid 2 (length lent - 2) lent part')
    single_failed (Ok Unified) u n = absurd (n refl)
    single_failed (Ok Clash) u n = single_clash u
    single_failed (Ok Occurs) u n = single_occurs u
    single_failed (Err f) u n = absurd (single_refused f u)
