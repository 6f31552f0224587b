-- Entries written one behind the other: what is written in parts is written as a whole, up to the first entry that does not fit.
-- By induction on the entries for what fits, and by cutting the lent words at the seam. Assumes nothing.
use Prim.Native.Nat.{ℕ, ◌+◌, ◌-◌, ◌<◌, ◌≤◌}
use mathlib.Core.Bool.{Bool, true, false, cond}
use mathlib.Core.List.{List, [], ◌∷◌, ◌++◌, flatten, append_assoc, append-nil, Memᴰ}
use mathlib.Core.Path.{◌≡◌, refl, sym, ap, ◌∙◌}
use native.Mathlib.Numerals.{add-one}
use native.Mathlib.Omega.{arith}
use borrow.Rule.Slice.PartMut.{put_mid}
use borrow.Author.Tests.{lt-ltb, le-ltb, ltb-true, ltb-false, le-leb, lt-leb, leb-true}
use lib.Dec.{leb, ltb}
use lib.ListN.{length, take, drop, length-append, length-drop, take-append-drop, get_or, set}
use lib.Seq.{length-take-le, take_at, drop_at, drop-drop, take-append_seam, paste, paste-suc, take-length}
use Rattle.std.specs.Prelude.{Result, Ok, Err}
use Rattle.multiset_unification.specs.Answer.{fitting}
use Rattle.multiset_unification.proofs.AnswerLaws.{fitting_all, fitting_fits}
use Rattle.entries.specs.declared.writing.Full.{Full}
use Rattle.entries.specs.Code.Writing.{put, full, Writes, Remains, Block, repeated}

-- the words of entries behind entries
pub flatten_append : (xs ys : List (List ℕ)) → flatten (xs ++ ys) ≡ flatten xs ++ flatten ys
unfolding flatten
flatten_append [] ys = refl
flatten_append (x ∷ xs) ys = ap (x ++◌) (flatten_append xs ys) ∙ sym (append_assoc x (flatten xs) (flatten ys))

-- where all of xs fits, it is taken, and of the rest what fits after it
fitting_after : (room : ℕ) (xs rest : List (List ℕ)) → length (flatten xs) ≤ room →
    fitting room (xs ++ rest) ≡ xs ++ fitting (room - length (flatten xs)) rest
unfolding fitting flatten
fitting_after room [] rest h = ap (λ (n : ℕ). fitting n rest) (omega arith)
fitting_after room (x ∷ xs) rest h =
    let l = length-append x (flatten xs) in
    let q = le-leb (length x) room (omega (arith, h, l)) in
    let r = fitting_after (room - length x) xs rest (omega (arith, h, l)) in
    let n : room - length x - length (flatten xs) ≡ room - length (x ++ flatten xs) = omega (arith, l) in
    rw q (ap (x ∷◌) (r ∙ ap (λ (k : ℕ). xs ++ fitting k rest) n))

-- where not all of xs fits, none of the rest is taken
fitting_before : (room : ℕ) (xs rest : List (List ℕ)) → room < length (flatten xs) → fitting room (xs ++ rest) ≡ fitting room xs
unfolding fitting flatten
fitting_before room [] rest h = absurd (omega (arith, h))
fitting_before room (x ∷ xs) rest h = pick (leb (length x) room) refl (fitting_before (room - length x) xs rest)
  where
    pick : (b : Bool) → leb (length x) room ≡ b → (room - length x < length (flatten xs) → fitting (room - length x) (xs ++ rest) ≡ fitting
        (room - length x) xs) → cond b (x ∷ fitting (room - length x) (xs ++ rest)) [] ≡ cond b (x ∷ fitting (room - length x) xs) []
    pick true q r =
        let l = length-append x (flatten xs) in
        let m = leb-true (length x) room q in
        ap (x ∷◌) (r (omega (arith, h, l, m)))
    pick false q r = refl

-- the words up to the end of those that are put
pub head_long : (at : ℕ) (xs lent : List ℕ) → at + length xs ≤ length lent → length (take at lent ++ xs) ≡ at + length xs
head_long at xs lent h =
    let a = length-append (take at lent) xs in
    let t = length-take-le at lent (omega (arith, h)) in
    omega (arith, a, t)

-- words put into lent words leave as many
pub put_long : (at : ℕ) (xs lent : List ℕ) → at + length xs ≤ length lent → length (put at xs lent) ≡ length lent
unfolding put
put_long at xs lent h =
    let a = length-append (take at lent ++ xs) (drop (at + length xs) lent) in
    let d = length-drop (at + length xs) lent in
    let p = head_long at xs lent h in
    omega (arith, a, d, p, h)

-- no words put into lent words leave them as they are
pub put_none : (at : ℕ) (lent : List ℕ) → put at [] lent ≡ lent
unfolding put
put_none at lent =
    let z : at + 0 ≡ at = omega arith in
    ap (λ (r : List ℕ). r ++ drop (at + 0) lent) (append-nil (take at lent)) ∙ ap (λ (n : ℕ). take at lent ++ drop n lent) z
    ∙ take-append-drop at lent

-- words put behind words
put_put : (at : ℕ) (xs ys lent : List ℕ) → at + length xs ≤ length lent → put (at + length xs) ys (put at xs lent) ≡ put at (xs ++ ys) lent
unfolding put
put_put at xs ys lent h =
    let p = head_long at xs lent h in
    let t = take_at (take at lent ++ xs) (drop (at + length xs) lent) (at + length xs) p in
    let d = drop_at (take at lent ++ xs) (drop (at + length xs) lent) (at + length xs) p in
    let l : at + length xs + length ys ≡ at + length (xs ++ ys) = omega (arith, length-append xs ys) in
    let e : drop (at + length xs + length ys) (take at lent ++ xs ++ drop (at + length xs) lent) ≡ drop (at + length (xs ++ ys)) lent =
    sym (drop-drop (length ys) (at + length xs) (take at lent ++ xs ++ drop (at + length xs) lent))
    ∙ ap (drop (length ys)) d
    ∙ drop-drop (length ys) (at + length xs) lent
    ∙ ap (λ (n : ℕ). drop n lent) l in
    rw (t, e) (ap (λ (r : List ℕ). r ++ drop (at + length (xs ++ ys)) lent) (append_assoc (take at lent) xs ys))

-- one more word is copied
pub copied_next : (words lent : List ℕ) (at i : ℕ) {lent' : List ℕ} → at + length words ≤ length lent → i < length words →
    lent' ≡ paste lent at words i → set lent' (at + i) (get_or words i 0) ≡ paste lent at words (i + 1)
copied_next words lent at i h l e =
    ap (λ (r : List ℕ). set r (at + i) (get_or words i 0)) e ∙ paste-suc lent at words i 0 (omega (arith, h, l)) l
    ∙ ap (paste lent at words) (sym (add-one i))

-- all words are copied
pub copied_all : (words lent : List ℕ) (at i : ℕ) {lent' : List ℕ} → i ≡ length words → lent' ≡ paste lent at words i → lent' ≡ put at words lent
unfolding put
copied_all words lent at i l e =
    e ∙ ap (paste lent at words) l ∙ ap (λ (r : List ℕ). take at lent ++ r ++ drop (at + length words) lent) (take-length words)

-- at the start all of the entries remain
pub remains_whole : (es : List (List ℕ)) (lent : List ℕ) (at : ℕ) → at ≤ length lent → Remains es lent at es lent at
remains_whole es lent at h = record { size = refl; within = h; closes = λ lent' r w. w }

-- how many words are used where b words are not too many for a
used_all : (a b n : ℕ) → b ≤ a → cond (ltb a b) (Err full) (Ok n) ≡ Ok n
used_all a b n h = ap (λ (t : Bool). cond t (Err full) (Ok n)) (le-ltb a b h)

-- and where they are
used_over : (a b n : ℕ) → a < b → cond (ltb a b) (Err full) (Ok n) ≡ Err full
used_over a b n h = ap (λ (t : Bool). cond t (Err full) (Ok n)) (lt-ltb a b h)

-- where so many words are used, they are not too many
all_used : (a b n : ℕ) {u : ℕ} → Ok u ≡ cond (ltb a b) (Err full) (Ok n) → (b ≤ a) × (u ≡ n)
all_used a b n {u} q = pick (ltb a b) refl q
  where
    pick : (t : Bool) → ltb a b ≡ t → Ok u ≡ cond t (Err full) (Ok n) → (b ≤ a) × (u ≡ n)
    pick true e m = cc
    pick false e m = (ltb-false a b e, cc)

-- where none are told, they are
over_used : (a b n : ℕ) {f : Full} → Err f ≡ cond (ltb a b) (Err full) (Ok n) → a < b
over_used a b n {f} q = pick (ltb a b) refl q
  where
    pick : (t : Bool) → ltb a b ≡ t → Err f ≡ cond t (Err full) (Ok n) → a < b
    pick true e m = ltb-true a b e
    pick false e m = cc

module _ {es : List (List ℕ)} {lent : List ℕ} {at : ℕ} {lent' : List ℕ} {u : ℕ} (w : Writes es lent at lent' (Ok u)) where
  -- where it is told how many words are used, all entries fit
  pub writes_fits : length (flatten es) ≤ length lent - at
  writes_fits = (all_used (length lent - at) (length (flatten es)) (at + length (flatten es)) w.used).0

  -- and as many words are used as they have
  pub writes_used : u ≡ at + length (flatten es)
  writes_used = (all_used (length lent - at) (length (flatten es)) (at + length (flatten es)) w.used).1

  -- and they are put
  writes_words : lent' ≡ put at (flatten es) lent
  writes_words =
      w.words ∙ ap (λ (zs : List (List ℕ)). put at (flatten zs) lent) (fitting_all (length lent - at) es writes_fits)

-- where it is not, they do not all fit
pub writes_over : {es : List (List ℕ)} {lent : List ℕ} {at : ℕ} {lent' : List ℕ} {f : Full} → Writes es lent at lent' (Err f) →
    length lent - at < length (flatten es)
writes_over {es} {lent} {at} w = over_used (length lent - at) (length (flatten es)) (at + length (flatten es)) w.used

-- what is written leaves as many words
pub writes_long : {es : List (List ℕ)} {lent : List ℕ} {at : ℕ} {lent' : List ℕ} {r : Result ℕ Full} → at ≤ length lent →
    Writes es lent at lent' r → length lent' ≡ length lent
writes_long {es} {lent} {at} h w =
    let f = fitting_fits (length lent - at) es in
    ap length w.words ∙ put_long at (flatten (fitting (length lent - at) es)) lent (omega (arith, h, f))

-- and uses no more
pub writes_room : {es : List (List ℕ)} {lent : List ℕ} {at : ℕ} {lent' : List ℕ} {u : ℕ} → at ≤ length lent → Writes es lent at lent' (Ok u) →
    (at ≤ u) × (u ≤ length lent)
writes_room h w = (omega (arith, writes_used w), omega (arith, writes_used w, writes_fits w, h))

-- no entries are written by doing nothing
pub writes_none : (lent : List ℕ) (at : ℕ) → at ≤ length lent → Writes [] lent at lent (Ok at)
unfolding flatten fitting
writes_none lent at h =
    let z : at ≡ at + 0 = omega arith in
    record { words = sym (put_none at lent); used = ap Ok z ∙ sym (used_all (length lent - at) 0 (at + 0) (omega arith)) }

-- entries that fit are written
pub writes_all : (es : List (List ℕ)) (lent : List ℕ) (at : ℕ) {lent' : List ℕ} → length (flatten es) ≤ length lent - at →
    lent' ≡ put at (flatten es) lent → Writes es lent at lent' (Ok (at + length (flatten es)))
writes_all es lent at h q =
    let f = fitting_all (length lent - at) es h in
    record {
      words = q ∙ ap (λ (zs : List (List ℕ)). put at (flatten zs) lent) (sym f);
      used = sym (used_all (length lent - at) (length (flatten es)) (at + length (flatten es)) h);
    }

-- an entry that fits is written
pub entry_fits : (e lent : List ℕ) (at : ℕ) {lent' : List ℕ} → length e ≤ length lent - at → lent' ≡ put at e lent →
    Writes (e ∷ []) lent at lent' (Ok (at + length e))
unfolding flatten
entry_fits e lent at {lent'} h q =
    let a : e ++ [] ≡ e = append-nil e in
    rw a at (writes_all (e ∷ []) lent at {lent' = lent'} (rw a h) (rw a q))

-- of entries that do not all fit those that do are written
pub writes_cut : (es : List (List ℕ)) (lent : List ℕ) (at : ℕ) {lent' : List ℕ} → length lent - at < length (flatten es) →
    lent' ≡ put at (flatten (fitting (length lent - at) es)) lent → Writes es lent at lent' (Err full)
writes_cut es lent at h q =
    record { words = q; used = sym (used_over (length lent - at) (length (flatten es)) (at + length (flatten es)) h) }

-- where there are entries and each is longer than the room, none is
pub none_fits : (es : List (List ℕ)) (lent : List ℕ) (at : ℕ) → 0 < length es → ((e : List ℕ) → Memᴰ e es → length lent - at < length e) →
    Writes es lent at lent (Err full)
unfolding flatten fitting
none_fits [] lent at z h = absurd (omega (arith, z))
none_fits (e ∷ es) lent at z h =
    let l = h e (Memᴰ.head refl) in
    let f : fitting (length lent - at) (e ∷ es) ≡ [] = rw (lt-leb (length e) (length lent - at) l) in
    writes_cut (e ∷ es) lent at (omega (arith, l, length-append e (flatten es)))
    (sym (put_none at lent) ∙ ap (λ (zs : List (List ℕ)). put at (flatten zs) lent) (sym f))

-- where all that remained is written, all of the entries are
pub remains_done : {es : List (List ℕ)} {lent₀ lent : List ℕ} {at₀ at : ℕ} → Remains es lent₀ at₀ [] lent at → Writes es lent₀ at₀ lent (Ok at)
remains_done {es} {lent₀} {lent} {at₀} {at} r = r.closes lent (Ok at) (writes_none lent at r.within)

-- what is taken off on one side is put to the other
less_shift : (a b c : ℕ) → b ≤ a → ltb (a - b) c ≡ ltb a (b + c)
less_shift a b c h = pick (ltb (a - b) c) refl
  where
    pick : (t : Bool) → ltb (a - b) c ≡ t → t ≡ ltb a (b + c)
    pick true q = sym (lt-ltb a (b + c) (omega (arith, h, ltb-true (a - b) c q)))
    pick false q = sym (le-ltb a (b + c) (omega (arith, h, ltb-false (a - b) c q)))

-- entries that fit, and then the rest
pub writes_append : (xs ys : List (List ℕ)) {lent : List ℕ} {at : ℕ} {lent₁ : List ℕ} {r₁ : ℕ} {lent₂ : List ℕ} {r₂ : Result ℕ Full} →
    at ≤ length lent → Writes xs lent at lent₁ (Ok r₁) → Writes ys lent₁ r₁ lent₂ r₂ → Writes (xs ++ ys) lent at lent₂ r₂
writes_append xs ys {lent} {at} {lent₁} {r₁} {lent₂} {r₂} h w s =
    let room = length lent - at in
    let fits = writes_fits w in
    let a = fitting_after room xs ys fits in
    let whole : at + length (flatten xs) ≤ length lent = omega (arith, h, fits) in
    let u = writes_used w in
    let p = writes_words w in
    let l : length lent₁ ≡ length lent = ap length p ∙ put_long at (flatten xs) lent whole in
    let n : length lent₁ - r₁ ≡ room - length (flatten xs) = omega (arith, l, u) in
    let zs = fitting (room - length (flatten xs)) ys in
    let f : flatten (fitting room (xs ++ ys)) ≡ flatten xs ++ flatten zs = ap flatten a ∙ flatten_append xs zs in
    let t : length (flatten (xs ++ ys)) ≡ length (flatten xs) + length (flatten ys) = ap length (flatten_append xs ys)
    ∙ length-append (flatten xs) (flatten ys) in
    let g : flatten (fitting (length lent₁ - r₁) ys) ≡ flatten zs = ap (λ (k : ℕ). flatten (fitting k ys)) n in
    let b : ltb (length lent₁ - r₁) (length (flatten ys)) ≡ ltb room (length (flatten (xs ++ ys))) = ap (λ (k : ℕ). ltb k (length (flatten ys))) n
    ∙ less_shift room (length (flatten xs)) (length (flatten ys)) fits ∙ ap (ltb room) (sym t) in
    let m : r₁ + length (flatten ys) ≡ at + length (flatten (xs ++ ys)) = omega (arith, u, t) in
    record {
      words = s.words ∙ ap (λ (vs : List ℕ). put r₁ vs lent₁) g ∙ ap (λ (k : ℕ). put k (flatten zs) lent₁) u
          ∙ ap (put (at + length (flatten xs)) (flatten zs)) p ∙ put_put at (flatten xs) (flatten zs) lent whole
          ∙ ap (λ (vs : List ℕ). put at vs lent) (sym f);
      used = s.used ∙ ap (λ (k : ℕ). cond (ltb (length lent₁ - r₁) (length (flatten ys))) (Err full) (Ok k)) m
          ∙ ap (λ (c : Bool). cond c (Err full) (Ok (at + length (flatten (xs ++ ys))))) b;
    }

-- entries, and then the same with other digits at a place
pub repeat_writes : (es : List (List ℕ)) (p d c : ℕ) {lent : List ℕ} {at : ℕ} {lent₁ : List ℕ} {r₁ : ℕ} {lent₂ : List ℕ} {r₂ : Result ℕ Full} →
    at ≤ length lent → Writes es lent at lent₁ (Ok r₁) → Writes (repeated p d c es) lent₁ r₁ lent₂ r₂ →
    Writes (es ++ repeated p d c es) lent at lent₂ r₂
repeat_writes es p d c h w s = writes_append es (repeated p d c es) h w s

-- entries of which one does not fit: the rest changes nothing
pub writes_full : (xs rest : List (List ℕ)) {lent : List ℕ} {at : ℕ} {lent' : List ℕ} {f : Full} → Writes xs lent at lent' (Err f) →
    Writes (xs ++ rest) lent at lent' (Err full)
writes_full xs rest {lent} {at} {lent'} w =
    let over = writes_over w in
    let b = sym (fitting_before (length lent - at) xs rest over) in
    let t : length (flatten (xs ++ rest)) ≡ length (flatten xs) + length (flatten rest) = ap length (flatten_append xs rest)
    ∙ length-append (flatten xs) (flatten rest) in
    writes_cut (xs ++ rest) lent at (omega (arith, over, t)) (w.words ∙ ap (λ (zs : List (List ℕ)). put at (flatten zs) lent) b)

-- where the next entries are written and fit, the rest remains
pub remains_next : {es rest : List (List ℕ)} {lent₀ lent : List ℕ} {at₀ at : ℕ} (xs : List (List ℕ)) → Remains es lent₀ at₀ (xs ++ rest) lent at →
    {lent' : List ℕ} {u : ℕ} → Writes xs lent at lent' (Ok u) → Remains es lent₀ at₀ rest lent' u
remains_next {es} {rest} {lent₀} {lent} {at₀} {at} xs m w =
    let l = writes_long m.within w in
    record {
      size = l ∙ m.size;
      within = omega (arith, l, (writes_room m.within w).1);
      closes = λ lent'' v z. m.closes lent'' v (writes_append xs rest m.within w z);
    }

-- where one of the next entries does not fit, all is written that fits
pub remains_full : {es : List (List ℕ)} {lent₀ lent : List ℕ} {at₀ at : ℕ} (xs rest : List (List ℕ)) → Remains es lent₀ at₀ (xs ++ rest) lent at →
    {lent' : List ℕ} {f : Full} → Writes xs lent at lent' (Err f) → Writes es lent₀ at₀ lent' (Err full)
remains_full {es} {lent₀} {lent} {at₀} {at} xs rest m {lent'} w = m.closes lent' (Err full) (writes_full xs rest w)

-- words put behind the first `at` words, and in front of others
pub put_there : (at : ℕ) (xs lent : List ℕ) → at + length xs ≤ length lent → take (length xs) (drop at (put at xs lent)) ≡ xs
unfolding put
put_there at xs lent h =
    let t = length-take-le at lent (omega (arith, h)) in
    ap (λ (zs : List ℕ). take (length xs) (drop at zs)) (append_assoc (take at lent) xs (drop (at + length xs) lent))
    ∙ ap (take (length xs)) (drop_at (take at lent) (xs ++ drop (at + length xs) lent) at t)
    ∙ take-append_seam xs (drop (at + length xs) lent)

-- entries of one width that are written stand there
pub writes_block : {es : List (List ℕ)} {lent : List ℕ} {at : ℕ} {lent' : List ℕ} {u : ℕ} (width : ℕ) → at ≤ length lent →
    Writes es lent at lent' (Ok u) → ((e : List ℕ) → Memᴰ e es → length e ≡ width) → Block es width lent' at u
writes_block {es} {lent} {at} {lent'} {u} width h w k =
    let l = writes_long h w in
    let whole : at + length (flatten es) ≤ length lent = omega (arith, h, writes_fits w) in
    record {
      wide = k;
      end = writes_used w;
      within = omega (arith, l, (writes_room h w).1);
      there = ap (λ (zs : List ℕ). take (length (flatten es)) (drop at zs)) (writes_words w) ∙ put_there at (flatten es) lent whole;
    }
