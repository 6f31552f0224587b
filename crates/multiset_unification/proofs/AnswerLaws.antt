-- What a call answers and leaves in the lent words, for any conditions and any entries: the first condition that holds is answered; where none
-- does, the entries are listed as far as the words go.
-- By cases on the conditions and on whether all words fit, and by induction on the entries. Assumes nothing.
use Prim.Native.Nat.{ℕ, zero, suc, ◌-◌, ◌<◌, ◌≤◌}
use mathlib.Core.Bool.{Bool, true, false, not, cond}
use mathlib.Core.List.{List, [], ◌∷◌, ◌++◌, flatten}
use mathlib.Core.Logic.{◌↔◌, ◌⊎◌, inl, inr}
use mathlib.Core.Path.{◌≡◌, refl, sym, ap, ◌∙◌}
use native.Mathlib.Decide.{dec_lt}
use native.Mathlib.Omega.{arith}
use borrow.Author.Tests.{lt-ltb, le-ltb, leb-true, leb-false, eq-eqb, ne_eqb, eqb-false, not-true}
use lib.Dec.{eqb, leb}
use lib.ListN.{length, take, drop, length-append, length-drop}
use Rattle.std.specs.Prelude.{Result, Ok, Err}
use lib.Seq.{take-length, take-append_seam, drop-append_seam}
use Rattle.table.specs.declared.Refusal.{Refusal}
use Rattle.table.specs.Answer.{number_of}
use Rattle.table.specs.Refusal.{first_held}
use Rattle.table.proofs.SomeLaws.{every}
use Rattle.table.proofs.RefusalLaws.{first_means, first_before, first_after, condition_numbers, Numbered, held_has, not_held, held}
use Rattle.table.proofs.AnswerLaws.{number_apart, number_above, number_not}
use Rattle.multiset_unification.specs.declared.Listing.{Listing}
use Rattle.multiset_unification.specs.declared.Listing.TheVariants.{Finished, Full}
use Rattle.multiset_unification.specs.Answer.{Told, told, list_conditions, fitting, entries_left, listed, lent_after}

-- k is the greatest number such that the words of the first k entries fit.
pub record Greatest (lent : ℕ) (es : List (List ℕ)) (k : ℕ) : Type 0 where
  pub there : k ≤ length es
  pub fits : length (flatten (take k es)) ≤ lent
  pub greatest : (j : ℕ) → j ≤ length es → length (flatten (take j es)) ≤ lent → j ≤ k

greatest_next : (lent : ℕ) (e : List ℕ) (es : List (List ℕ)) (k : ℕ) → length e ≤ lent → Greatest (lent - length e) es k →
    Greatest lent (e ∷ es) (suc k)
unfolding flatten
greatest_next lent e es k h g =
    record {
      there = omega (arith, g.there);
      fits = omega (arith, h, g.fits, length-append e (flatten (take k es)));
      greatest = most;
    }
  where
    most : (j : ℕ) → j ≤ suc (length es) → length (flatten (take j (e ∷ es))) ≤ lent → j ≤ suc k
    most zero l f = omega arith
    most (suc j) l f =
        let a = length-append e (flatten (take j es)) in
        let r = g.greatest j (omega arith) (omega (arith, f, a)) in
        omega (arith, r)

greatest_none : (lent : ℕ) (e : List ℕ) (es : List (List ℕ)) → lent < length e → Greatest lent (e ∷ es) 0
unfolding flatten
greatest_none lent e es h = record { there = omega arith; fits = omega arith; greatest = most }
  where
    most : (j : ℕ) → j ≤ suc (length es) → length (flatten (take j (e ∷ es))) ≤ lent → j ≤ 0
    most zero l f = omega arith
    most (suc j) l f = let a = length-append e (flatten (take j es)) in absurd (omega (arith, f, a, h))

-- as many entries are taken as fit
fitting_greatest : (lent : ℕ) (es : List (List ℕ)) → Greatest lent es (length (fitting lent es))
unfolding fitting flatten
fitting_greatest lent [] = record { there = omega arith; fits = omega arith; greatest = λ j l f. l }
fitting_greatest lent (e ∷ es) = pick (leb (length e) lent) refl (fitting_greatest (lent - length e) es)
  where
    pick : (b : Bool) → leb (length e) lent ≡ b → Greatest (lent - length e) es (length (fitting (lent - length e) es)) →
        Greatest lent (e ∷ es) (length (cond b (e ∷ fitting (lent - length e) es) []))
    pick true q g = greatest_next lent e es _ (leb-true (length e) lent q) g
    pick false q g = greatest_none lent e es (leb-false (length e) lent q)

-- and they are the first ones
pub fitting_first : (lent : ℕ) (es : List (List ℕ)) → fitting lent es ≡ take (length (fitting lent es)) es
unfolding fitting
fitting_first lent [] = refl
fitting_first lent (e ∷ es) = pick (leb (length e) lent) (fitting_first (lent - length e) es)
  where
    pick : (b : Bool) → fitting (lent - length e) es ≡ take (length (fitting (lent - length e) es)) es →
        cond b (e ∷ fitting (lent - length e) es) [] ≡ take (length (cond b (e ∷ fitting (lent - length e) es) [])) (e ∷ es)
    pick true r = ap (e ∷◌) r
    pick false r = refl

-- where all words fit, all entries are taken
pub fitting_all : (lent : ℕ) (es : List (List ℕ)) → length (flatten es) ≤ lent → fitting lent es ≡ es
fitting_all lent es h =
    let g = fitting_greatest lent es in
    let l = g.greatest (length es) (omega arith) (rw (take-length es) h) in
    let e : length (fitting lent es) ≡ length es = omega (arith, l, g.there) in
    fitting_first lent es ∙ ap (λ (k : ℕ). take k es) e ∙ take-length es

-- where they do not, not all are
fitting_less : (lent : ℕ) (es : List (List ℕ)) → lent < length (flatten es) → length (fitting lent es) < length es
fitting_less lent es h = go (dec_lt (length (fitting lent es)) (length es))
  where
    g : Greatest lent es (length (fitting lent es))
    g = fitting_greatest lent es

    go : Dec (length (fitting lent es) < length es) → length (fitting lent es) < length es
    go (yes q) = q
    go (no q) =
        let e : length (fitting lent es) ≡ length es = omega (arith, g.there) in
        let f = g.fits in
        absurd (omega (arith, h, rw (e, take-length es) at f))

-- what is taken fits
pub fitting_fits : (lent : ℕ) (es : List (List ℕ)) → length (flatten (fitting lent es)) ≤ lent
fitting_fits lent es = rw (fitting_first lent es) (fitting_greatest lent es).fits

-- Conditions of refusals: no number is 0, which is no refusal, or 10, which is full.
pub record Refusals (cs : List (ℕ × Bool)) : Type 0 where
  pub numbered : Numbered cs
  pub not_full : every (λ (n : ℕ). not (eqb n 10)) (condition_numbers cs) ≡ true

-- where one of them holds, conditions after them do not matter
held_before : (cs ds : List (ℕ × Bool)) → 0 < first_held cs → first_held (cs ++ ds) ≡ first_held cs
held_before cs ds h = (first_means _ (cs ++ ds)).1 (first_before ds h ((first_means _ cs).0 refl))

-- where none does, only those matter
held_after : (cs ds : List (ℕ × Bool)) → Refusals cs → first_held cs ≡ 0 → first_held (cs ++ ds) ≡ first_held ds
held_after cs ds g z =
    (first_means _ (cs ++ ds)).1 (first_after cs ds g.numbered ((first_means 0 cs).0 z) ((first_means _ ds).0 refl))

-- 10 is not among them
never_full : (cs : List (ℕ × Bool)) → Refusals cs → first_held cs ≡ 10 → ⊥
never_full cs g = eqb-false (first_held cs) 10 (not-true _ (held_has (λ (n : ℕ). not (eqb n 10)) cs g.not_full))

-- no conditions are conditions of refusals
pub nothing : Refusals []
nothing = record { numbered = refl; not_full = refl }

-- and none of them holds
pub nothing_held : first_held [] ≡ 0
unfolding first_held
nothing_held = refl

-- what is told is the same where both parts are
told_same : {m n j k : ℕ} → m ≡ n → j ≡ k → ◌≡◌ {A = Told} (record { answer = m; entries = j }) (record { answer = n; entries = k })
told_same e f = rw (e, f) refl

module _ (cs : List (ℕ × Bool)) (es : List (List ℕ)) (lent : ℕ) where
  -- a call leaves no entry where a condition holds
  pub none_left : 0 < first_held cs → entries_left cs es lent ≡ []
  unfolding entries_left
  none_left h = rw (ne_eqb (first_held cs) 0 (λ e. absurd (omega (arith, h, e))))

  -- and as many as fit where none does
  pub fitting_left : first_held cs ≡ 0 → entries_left cs es lent ≡ fitting lent es
  unfolding entries_left
  fitting_left e = rw (eq-eqb (first_held cs) 0 e)

  -- a condition that holds is answered
  pub answered_refused : (n : ℕ) → 0 < n → first_held cs ≡ n → listed cs es lent ≡ record { answer = n; entries = 0 }
  unfolding listed list_conditions
  answered_refused n h e =
      let f : first_held (list_conditions cs es lent) ≡ n = held_before cs _ (omega (arith, h, e)) ∙ e in
      told_same f (ap length (none_left (omega (arith, h, e))))

  module _ (g : Refusals cs) (z : first_held cs ≡ 0) where
    pub answered_finished : length (flatten es) ≤ lent → listed cs es lent ≡ record { answer = 0; entries = length es }
    unfolding listed list_conditions
    answered_finished h =
        let f : first_held (list_conditions cs es lent) ≡ 0 = held_after cs _ g z ∙ not_held _ [] (le-ltb lent (length (flatten es)) h) ∙
        nothing_held in
        told_same f (ap length (fitting_left z ∙ fitting_all lent es h))

    pub answered_full : lent < length (flatten es) → listed cs es lent ≡ record { answer = 10; entries = length (fitting lent es) }
    unfolding listed list_conditions
    answered_full h =
        let f : first_held (list_conditions cs es lent) ≡ 10 = held_after cs _ g z ∙ held _ [] (lt-ltb lent (length (flatten es)) h) in
        told_same f (ap length (fitting_left z))

  -- the three ways in which a call can end
  data Answered : Type 0 where
    refusing : 0 < first_held cs → listed cs es lent ≡ record { answer = first_held cs; entries = 0 } → Answered
    finishing : first_held cs ≡ 0 → length (flatten es) ≤ lent → listed cs es lent ≡ record { answer = 0; entries = length es } → Answered
    filling : first_held cs ≡ 0 → lent < length (flatten es) → listed cs es lent ≡ record { answer = 10; entries = length (fitting lent es) } →
        Answered

  answered : Refusals cs → Answered
  answered g = go (dec_lt 0 (first_held cs)) (dec_lt lent (length (flatten es)))
    where
      go : Dec (0 < first_held cs) → Dec (lent < length (flatten es)) → Answered
      go (yes h) q = refusing h (answered_refused (first_held cs) h refl)
      go (no h) (yes q) = filling (omega arith) q (answered_full g (omega arith) q)
      go (no h) (no q) = finishing (omega arith) (omega arith) (answered_finished g (omega arith) (omega arith))

  -- the two parts of what is told
  answer_is : {w : Told} → listed cs es lent ≡ w → (listed cs es lent).answer ≡ w.answer
  answer_is q = ap (λ (w : Told). w.answer) q

  entries_are : {w : Told} → listed cs es lent ≡ w → (listed cs es lent).entries ≡ w.entries
  entries_are q = ap (λ (w : Told). w.entries) q

  -- as many entries are left as the answer says, and they are the first ones
  pub entries_left_lem : entries_left cs es lent ≡ take (listed cs es lent).entries es
  unfolding entries_left listed
  entries_left_lem = pick (eqb (first_held cs) 0)
    where
      pick : (b : Bool) → cond b (fitting lent es) [] ≡ take (length (cond b (fitting lent es) [])) es
      pick true = fitting_first lent es
      pick false = refl

  pub entries_fit : length (flatten (entries_left cs es lent)) ≤ lent
  unfolding entries_left flatten
  entries_fit = pick (eqb (first_held cs) 0)
    where
      pick : (b : Bool) → length (flatten (cond b (fitting lent es) [])) ≤ lent
      pick true = fitting_fits lent es
      pick false = omega arith

  module _ (g : Refusals cs) where
    -- a number other than 0 and 10 is answered exactly if it is that of the first condition that holds
    pub refused_exactly : (n : ℕ) → 0 < n → (n ≡ 10 → ⊥) → (listed cs es lent).answer ≡ n ↔ (first_held cs ≡ n)
    refused_exactly n h m = ((λ e. go e (answered g)), (λ e. answer_is (answered_refused n h e)))
      where
        go : (listed cs es lent).answer ≡ n → Answered → first_held cs ≡ n
        go e (refusing r q) = sym (answer_is q) ∙ e
        go e (finishing a l q) = absurd (omega (arith, h, e, answer_is q))
        go e (filling a l q) = absurd (m (sym e ∙ answer_is q))

    -- and then with no entry
    pub refused_none : 0 < first_held cs → (listed cs es lent).entries ≡ 0
    refused_none h = entries_are (answered_refused (first_held cs) h refl)

    -- finished is answered exactly if no condition holds and all words fit
    pub finished_exactly : (listed cs es lent).answer ≡ 0 ↔ ((first_held cs ≡ 0) × (length (flatten es) ≤ lent))
    finished_exactly = ((λ e. go e (answered g)), (λ r. answer_is (answered_finished g r.0 r.1)))
      where
        go : (listed cs es lent).answer ≡ 0 → Answered → (first_held cs ≡ 0) × (length (flatten es) ≤ lent)
        go e (refusing r q) = absurd (omega (arith, r, e, answer_is q))
        go e (finishing a l q) = (a, l)
        go e (filling a l q) = absurd (omega (arith, e, answer_is q))

    -- and then with the number of all entries
    pub finished_all : (listed cs es lent).answer ≡ 0 → (listed cs es lent).entries ≡ length es
    finished_all e = let r = finished_exactly.0 e in entries_are (answered_finished g r.0 r.1)

    -- a finished call leaves them all
    pub left_finished : (listed cs es lent).answer ≡ 0 → entries_left cs es lent ≡ es
    left_finished e = entries_left_lem ∙ ap (λ (k : ℕ). take k es) (finished_all e) ∙ take-length es

    -- full is answered exactly if no condition holds and not all words fit
    pub full_exactly : (listed cs es lent).answer ≡ 10 ↔ ((first_held cs ≡ 0) × (lent < length (flatten es)))
    full_exactly = ((λ e. go e (answered g)), (λ r. answer_is (answered_full g r.0 r.1)))
      where
        go : (listed cs es lent).answer ≡ 10 → Answered → (first_held cs ≡ 0) × (lent < length (flatten es))
        go e (refusing r q) = absurd (never_full cs g (sym (answer_is q) ∙ e))
        go e (finishing a l q) = absurd (omega (arith, e, answer_is q))
        go e (filling a l q) = (a, l)

    -- and then with the greatest number of first entries that do
    pub full_greatest : (listed cs es lent).answer ≡ 10 → Greatest lent es (listed cs es lent).entries
    full_greatest e =
        let r = full_exactly.0 e in
        rw (entries_are (answered_full g r.0 r.1)) (fitting_greatest lent es)

    -- which is less than all
    pub full_less : (listed cs es lent).answer ≡ 10 → (listed cs es lent).entries < length es
    full_less e =
        let r = full_exactly.0 e in
        let l = fitting_less lent es r.1 in
        omega (arith, l, entries_are (answered_full g r.0 r.1))

    -- no other number is answered
    pub numbers : ((listed cs es lent).answer ≡ first_held cs) ⊎ ((listed cs es lent).answer ≡ 10)
    numbers = go (answered g)
      where
        go : Answered → ((listed cs es lent).answer ≡ first_held cs) ⊎ ((listed cs es lent).answer ≡ 10)
        go (refusing r q) = inl (answer_is q)
        go (finishing a l q) = inl (answer_is q ∙ sym a)
        go (filling a l q) = inr (answer_is q)

    -- every call has an answer that stands for what it comes to, where each condition has a refusal
    pub told_there : (0 < first_held cs → (r : Refusal) × (number_of r ≡ first_held cs)) → (r : Result Listing Refusal) × (told r ≡ listed cs es lent)
    told_there f = go (answered g)
      where
        go : Answered → (r : Result Listing Refusal) × (told r ≡ listed cs es lent)
        go (refusing h q) = let r = f h in (Err r.0, ap (λ (n : ℕ). record { answer = n; entries = 0 }) r.1 ∙ sym q)
        go (finishing a l q) = (Ok (Finished (length es)), sym q)
        go (filling a l q) = (Ok (Full (length (fitting lent es))), sym q)

-- where no condition holds, the answer is as if there were none
pub answered_without : (cs : List (ℕ × Bool)) (es : List (List ℕ)) (lent : ℕ) → Refusals cs → first_held cs ≡ 0 →
    listed cs es lent ≡ listed [] es lent
answered_without cs es lent g z = go (dec_lt lent (length (flatten es)))
  where
    go : Dec (lent < length (flatten es)) → listed cs es lent ≡ listed [] es lent
    go (yes q) = answered_full cs es lent g z q ∙ sym (answered_full [] es lent nothing nothing_held q)
    go (no q) =
        let m : length (flatten es) ≤ lent = omega arith in
        answered_finished cs es lent g z m ∙ sym (answered_finished [] es lent nothing nothing_held m)

-- the greatest number of first entries that fit is one
pub greatest_one : (lent : ℕ) (es : List (List ℕ)) (j k : ℕ) → Greatest lent es j → Greatest lent es k → j ≡ k
greatest_one lent es j k g h =
    let a = g.greatest k h.there h.fits in
    let b = h.greatest j g.there g.fits in
    omega (arith, a, b)

module _ (cs : List (ℕ × Bool)) (es : List (List ℕ)) (lent : List ℕ) where
  -- no call changes how many words are lent
  pub lent_long : length (lent_after cs es lent) ≡ length lent
  unfolding lent_after
  lent_long =
      let ws = flatten (entries_left cs es (length lent)) in
      let h = entries_fit cs es (length lent) in
      let a = length-append ws (drop (length ws) lent) in
      let d = length-drop (length ws) lent in
      omega (arith, h, a, d)

  -- the first words are those of the entries left
  pub lent_entries : take (length (flatten (entries_left cs es (length lent)))) (lent_after cs es lent) ≡ flatten (entries_left cs es (length lent))
  unfolding lent_after
  lent_entries = take-append_seam (flatten (entries_left cs es (length lent))) (drop (length (flatten (entries_left cs es (length lent)))) lent)

  -- and the others are as they were
  pub lent_rest :
      drop (length (flatten (entries_left cs es (length lent)))) (lent_after cs es lent)
      ≡ drop (length (flatten (entries_left cs es (length lent)))) lent
  unfolding lent_after
  lent_rest = drop-append_seam (flatten (entries_left cs es (length lent))) (drop (length (flatten (entries_left cs es (length lent)))) lent)

  -- where no condition holds, they are as if there were none
  pub lent_without : first_held cs ≡ 0 → lent_after cs es lent ≡ lent_after [] es lent
  unfolding lent_after
  lent_without e = rw (fitting_left cs es (length lent) e, fitting_left [] es (length lent) nothing_held) refl

  -- where a condition holds, no lent word is changed
  pub refused_nothing : 0 < first_held cs → lent_after cs es lent ≡ lent
  unfolding lent_after flatten
  refused_nothing h = rw (none_left cs es (length lent) h)

-- answers that stand for one thing are one answer
pub told_apart : (r s : Result Listing Refusal) → told r ≡ told s → r ≡ s
told_apart r s e = go r s (ap (λ (w : Told). w.answer) e) (ap (λ (w : Told). w.entries) e)
  where
    go : (r s : Result Listing Refusal) → (told r).answer ≡ (told s).answer → (told r).entries ≡ (told s).entries → r ≡ s
    go (Ok (Finished j)) (Ok (Finished k)) n e = ap (λ (m : ℕ). Ok (Finished m)) e
    go (Ok (Finished j)) (Ok (Full k)) n e = absurd (omega (arith, n))
    go (Ok (Finished j)) (Err s) n e = absurd (omega (arith, n, number_above s))
    go (Ok (Full j)) (Ok (Finished k)) n e = absurd (omega (arith, n))
    go (Ok (Full j)) (Ok (Full k)) n e = ap (λ (m : ℕ). Ok (Full m)) e
    go (Ok (Full j)) (Err s) n e = absurd (number_not 10 refl s (sym n))
    go (Err r) (Ok (Finished k)) n e = absurd (omega (arith, n, number_above r))
    go (Err r) (Ok (Full k)) n e = absurd (number_not 10 refl r n)
    go (Err r) (Err s) n e = ap Err (number_apart r s n)
