-- Document 01's listing of all admissible choices is what it says, the only such list, and what its entries are made of.
-- The pairs of a choice are of nodes, so that the outcome decides whether they have a unifier. Assumes nothing.
use Prim.Native.Nat.{ℕ}
use mathlib.Core.List.Memᴰ
use mathlib.Core.List.{List, [], ◌∷◌, ◌++◌, map, flat_map, Memᴰ}
use mathlib.Core.Logic.{◌↔◌}
use mathlib.Core.Path.{◌≡◌, refl, sym, ap, ◌∙◌}
use native.Mathlib.Omega.{arith}
use lib.ListN.{length, length-append}
use lib.Seq.{take_at, drop_at}
use Rattle.terms.specs.Substitution.{Substitution}
use Rattle.unification.specs.Node.{Present}
use Rattle.unification.specs.Unifier.{Unifiable, MostGeneral}
use Rattle.unification.specs.Words.{Rising, end, before, AreWords, Reads}
use Rattle.unification.specs.Outcome.{Outcome, unified, clash, occurs}
use Rattle.unification.specs.Computed.Unifying.{outcome, unifier, words_of}
use Rattle.unification.proofs.RisingLaws.{rising_map, rising_same, rising_once}
use Rattle.unification.proofs.AnswerLaws.{words_counted}
use Rattle.unification.proofs.ReadingLaws.{reads_one}
use Rattle.unification.proofs.OutcomeLaws.{outcome_unified, words_readable, reading_most_general, words_least}
use Rattle.multiset_unification.specs.Problem.{Problem}
use Rattle.multiset_unification.specs.Choice.{Before}
use Rattle.multiset_unification.specs.Entry.{Choice, pairs_of, Admissible, entry_of, digits_of, bindings_of, IsAdmissibleListing}
use Rattle.multiset_unification.specs.Answer.{entry_words}
use Rattle.multiset_unification.specs.Computed.Listing.{kept, choices_of, admissible_listing}
use Rattle.multiset_unification.specs.Code.Posed.{Posed}
use Rattle.multiset_unification.proofs.ChoiceLaws.{before_one_way}
use Rattle.multiset_unification.proofs.ProblemLaws.{is_choice, choices_in_order, pairs_inside}

-- the pairs of a choice are of nodes, so the outcome decides whether they have a unifier
pub choice_decided : (p : Problem) → Posed p → (ds : List ℕ) → Choice p ds →
    outcome p.nodes (pairs_of p ds) ≡ unified ↔ Unifiable p.nodes (pairs_of p ds)
choice_decided p g ds c = outcome_unified p.nodes g.well_formed (pairs_of p ds) (pairs_inside p g ds c)

-- the digits of an entry are those of its choice
pub entry_digits : (p : Problem) (ds : List ℕ) → Choice p ds → digits_of p (entry_of p ds) ≡ ds
unfolding entry_of
entry_digits p ds c = take_at ds _ _ c.long

-- and its binding words those of the pairs
pub entry_bindings : (p : Problem) (ds : List ℕ) → Choice p ds → bindings_of p (entry_of p ds) ≡ words_of p.nodes (pairs_of p ds)
unfolding entry_of
entry_bindings p ds c = drop_at ds (words_of p.nodes (pairs_of p ds)) _ c.long

module _ {A B : Type 0} (o : A → Outcome) (f : A → B) where
  -- What is kept of a list.
  abbrev pub keep : List A → List B
  keep xs = flat_map (λ x. kept (o x) (f x)) xs

  -- What is kept, by the element it is of.
  abbrev pub KeptOf : List A → B → Type 0
  KeptOf xs y = (x : A) × Memᴰ x xs × (o x ≡ unified) × (y ≡ f x)

  -- each is of an element that is unified
  pub kept_from : (xs : List A) (y : B) → Memᴰ y (keep xs) → KeptOf xs y
  unfolding flat_map kept
  kept_from [] y m = absurd (Memᴰ.not-nil m)
  kept_from (x ∷ xs) y m = pick (o x) refl m (λ n. further (kept_from xs y n))
    where
      further : KeptOf xs y → KeptOf (x ∷ xs) y
      further (z, n, p, q) = (z, Memᴰ.tail n, p, q)

      pick : (r : Outcome) → o x ≡ r → Memᴰ y (kept r (f x) ++ keep xs) → (Memᴰ y (keep xs) → KeptOf (x ∷ xs) y) → KeptOf (x ∷ xs) y
      pick unified e (Memᴰ.head q) s = (x, Memᴰ.head refl, e, q)
      pick unified e (Memᴰ.tail n) s = s n
      pick clash e n s = s n
      pick occurs e n s = s n

  -- and each of these is kept
  pub in_kept : (xs : List A) (x : A) → Memᴰ x xs → o x ≡ unified → Memᴰ (f x) (keep xs)
  unfolding flat_map kept
  in_kept [] x x4 e = elim x4 [ ]
  in_kept (y ∷ xs) x (Memᴰ.head q) e = rw (← q) (rw e (Memᴰ.head refl))
  in_kept (y ∷ xs) x (Memᴰ.tail m) e = Memᴰ.append_right (kept (o y) (f y)) (in_kept xs x m e)

  -- what is kept of a rising list rises
  kept_rises : (Below : A → A → Type 0) (Under : B → B → Type 0) (xs : List A) →
      ((x y : A) → Memᴰ x xs → Memᴰ y xs → Below x y → Under (f x) (f y)) → Rising Below xs → Rising Under (keep xs)
  unfolding flat_map kept
  kept_rises Below Under [] h r = end
  kept_rises Below Under (x ∷ xs) h (before b r) =
      pick (o x) (kept_rises Below Under xs (λ y z m n. h y z (Memᴰ.tail m) (Memᴰ.tail n)) r)
    where
      first : (y : B) → KeptOf xs y → Under (f x) y
      first y (z, m, p, q) = rw q (h x z (Memᴰ.head refl) (Memᴰ.tail m) (b z m))

      pick : (s : Outcome) → Rising Under (keep xs) → Rising Under (kept s (f x) ++ keep xs)
      pick unified k = before (λ y m. first y (kept_from xs y m)) k
      pick clash k = k
      pick occurs k = k

-- each element of a list comes back by two maps if it comes back by the two functions
map_back : {A B : Type 0} (f : B → A) (g : A → B) (xs : List A) → ((x : A) → Memᴰ x xs → f (g x) ≡ x) → map f (map g xs) ≡ xs
map_back f g [] h = refl
map_back f g (x ∷ xs) h = rw (h x (Memᴰ.head refl), map_back f g xs (λ y m. h y (Memᴰ.tail m)))

module _ (p : Problem) where
  -- The entry e is that of an admissible choice.
  abbrev MadeFrom : List ℕ → Type 0
  MadeFrom e = (ds : List ℕ) × Admissible p ds × (e ≡ entry_of p ds)

  -- "compared from the first": an entry comes before another by their digits.
  abbrev Earlier : List ℕ → List ℕ → Type 0
  Earlier e f = Before (digits_of p e) (digits_of p f)

  listing_rises : Rising Earlier (admissible_listing p)
  unfolding admissible_listing
  listing_rises =
      kept_rises (λ ds. outcome p.nodes (pairs_of p ds)) (entry_of p) Before Earlier (choices_of p)
      (λ ds es m n b. rw (entry_digits p ds ((is_choice p ds).0 m), entry_digits p es ((is_choice p es).0 n)) b)
      (choices_in_order p)

  module _ (g : Posed p) where
    listed_from : (e : List ℕ) → Memᴰ e (admissible_listing p) → MadeFrom e
    unfolding admissible_listing
    listed_from e m =
        let s = kept_from (λ ds. outcome p.nodes (pairs_of p ds)) (entry_of p) (choices_of p) e m in
        let c = (is_choice p s.0).0 s.1 in
        (s.0, (c, (choice_decided p g s.0 c).0 s.2), s.3)

    in_listing : (ds : List ℕ) → Admissible p ds → Memᴰ (entry_of p ds) (admissible_listing p)
    unfolding admissible_listing
    in_listing ds (c, u) =
        in_kept (λ es. outcome p.nodes (pairs_of p es)) (entry_of p) (choices_of p) ds ((is_choice p ds).1 c)
        ((choice_decided p g ds c).1 u)

    -- what is computed is the listing of all admissible choices
    pub admissible_listing_lem : IsAdmissibleListing p (admissible_listing p)
    admissible_listing_lem =
        record { rising = listing_rises; entries = λ e. (listed_from e, (λ s. rw s.2 (in_listing s.0 s.1))) }

    -- and no other list is
    pub admissible_one : (es : List (List ℕ)) → IsAdmissibleListing p es → es ≡ admissible_listing p
    admissible_one es c =
        rising_same Earlier (λ e f. before_one_way (digits_of p e) (digits_of p f)) es (admissible_listing p) c.rising listing_rises
        (λ e. ((λ m. (admissible_listing_lem.entries e).1 ((c.entries e).0 m)), (λ m. (c.entries e).1 (listed_from e m))))

    -- the digits of the entries are the admissible choices, in strictly rising order
    pub listing_digits :
        Rising Before (map (digits_of p) (admissible_listing p)) ×
        ((ds : List ℕ) → Memᴰ ds (map (digits_of p) (admissible_listing p)) ↔ Admissible p ds)
    listing_digits = (
      rising_map Earlier Before (digits_of p) (admissible_listing p) (λ e f m n b. b) listing_rises,
      λ ds. ((λ m. there ds m), (λ a. back_to ds a)),
    )
      where
        there : (ds : List ℕ) → Memᴰ ds (map (digits_of p) (admissible_listing p)) → Admissible p ds
        there ds m =
            let s = Memᴰ.of_map (digits_of p) (admissible_listing p) m in
            let r = listed_from s.0 s.1 in
            let e : r.0 ≡ ds = sym (entry_digits p r.0 r.1.0) ∙ ap (digits_of p) (sym r.2) ∙ s.2 in
            rw e at r.1

        back_to : (ds : List ℕ) → Admissible p ds → Memᴰ ds (map (digits_of p) (admissible_listing p))
        back_to ds a = rw (entry_digits p ds a.0) at (Memᴰ.map (digits_of p) (in_listing ds a))

    -- each of them stands one time
    pub listing_once : (xs : List (List ℕ)) (ds : List ℕ) (ys : List (List ℕ)) → map (digits_of p) (admissible_listing p) ≡ xs ++ ds ∷ ys →
        (Memᴰ ds xs → ⊥) × (Memᴰ ds ys → ⊥)
    listing_once xs ds ys e = rising_once Before before_one_way xs ds ys (rw e at listing_digits.0)

    -- each entry is its digits and then the binding words of their pairs
    pub listing_entries : admissible_listing p ≡ map (entry_of p) (map (digits_of p) (admissible_listing p))
    listing_entries = sym (map_back (entry_of p) (digits_of p) (admissible_listing p) (λ e m. made e (listed_from e m)))
      where
        made : (e : List ℕ) → MadeFrom e → entry_of p (digits_of p e) ≡ e
        made e (ds, a, q) = ap (λ (f : List ℕ). entry_of p (digits_of p f)) q ∙ ap (entry_of p) (entry_digits p ds a.0) ∙ sym q

-- "With V variables present an entry is n + m + V words"
pub entry_long : (p : Problem) (e : List ℕ) → Posed p → Memᴰ e (admissible_listing p) → length e ≡ entry_words p
unfolding entry_of entry_words
entry_long p e g m =
    let s = listed_from p g e m in
    let l = length-append s.0 (words_of p.nodes (pairs_of p s.0)) in
    let d = s.1.0.long in
    let w = words_counted p.nodes (pairs_of p s.0) in
    ap length s.2 ∙ omega (arith, l, d, w)

module _ (p : Problem) (e : List ℕ) (g : Posed p) (m : Memᴰ e (admissible_listing p)) where
  -- The pairs of an entry.
  abbrev pairs_in : List (ℕ × ℕ)
  pairs_in = pairs_of p (digits_of p e)

  choice : Choice p (digits_of p e)
  choice = (((listing_digits p g).1 (digits_of p e)).0 (Memᴰ.map (digits_of p) m)).0

  unified_pairs : outcome p.nodes pairs_in ≡ unified
  unified_pairs =
      (choice_decided p g (digits_of p e) choice).1
      (((listing_digits p g).1 (digits_of p e)).0 (Memᴰ.map (digits_of p) m)).1

  -- the binding words of an entry are those of its pairs
  pub entry_words_lem : bindings_of p e ≡ words_of p.nodes pairs_in
  entry_words_lem =
      let s = listed_from p g e m in
      let d : digits_of p e ≡ s.0 = ap (digits_of p) s.2 ∙ entry_digits p s.0 s.1.0 in
      ap (bindings_of p) s.2 ∙ entry_bindings p s.0 s.1.0 ∙ ap (λ (ds : List ℕ). words_of p.nodes (pairs_of p ds)) (sym d)

  -- they can be read
  pub entry_readable : Reads p.nodes (bindings_of p e) (unifier p.nodes pairs_in)
  entry_readable = rw entry_words_lem (words_readable p.nodes g.well_formed pairs_in (pairs_inside p g (digits_of p e) choice) unified_pairs)

  -- in one way on the variables present
  pub entry_one_reading : (σ τ : Substitution) → Reads p.nodes (bindings_of p e) σ → Reads p.nodes (bindings_of p e) τ → (x : ℕ) →
      Present p.nodes x → σ x ≡ τ x
  entry_one_reading = reads_one p.nodes g.well_formed (bindings_of p e)

  -- as a most general unifier of its pairs
  pub entry_reading : (σ : Substitution) → Reads p.nodes (bindings_of p e) σ → MostGeneral p.nodes pairs_in σ
  entry_reading σ r =
      reading_most_general p.nodes g.well_formed pairs_in (pairs_inside p g (digits_of p e) choice) unified_pairs σ (rw entry_words_lem at r)

  -- and each is the least node that document 01 names, under every most general unifier
  pub entry_least : (σ : Substitution) → MostGeneral p.nodes pairs_in σ → AreWords p.nodes σ (bindings_of p e)
  entry_least σ q =
      rw entry_words_lem (words_least p.nodes g.well_formed pairs_in (pairs_inside p g (digits_of p e) choice) σ q)
