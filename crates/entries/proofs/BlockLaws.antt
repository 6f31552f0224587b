-- Entries of one width in the lent words: copied behind themselves, given another digit at a place, and cut where not all fit.
-- By cutting the lent words where the entries stand, and by induction on the entries. Assumes nothing.
use Prim.Native.Nat.{ℕ, zero, suc, ◌+◌, ◌-◌, ◌*◌, ◌/◌, ◌<◌, ◌≤◌}
use mathlib.Core.List.{List, [], ◌∷◌, ◌++◌, map, map-append, flatten, append_assoc, append-nil, Memᴰ}
use mathlib.Core.Path.{◌≡◌, refl, sym, ap, ◌∙◌}
use native.Mathlib.Nat.{zero-mul, suc-mul, zero-add, suc-add, div-mul-le_self, lt-div-mul-add, div-lt_iff_lt-mul}
use native.Mathlib.Numerals.{add-one}
use native.Mathlib.Omega.{arith}
use borrow.Author.Tests.{le-leb, lt-leb}
use lib.ListN.{length, take, drop, set, length-append, length-drop, length-set, take-append-drop, get_or, get_or-append}
use lib.Seq.{length-take-le, take-nil, drop_at, drop-drop, take-take, take-add, take-append-le, take-append_seam, set-append_left, paste, get_or-take, get_or-drop}
use Rattle.std.specs.Prelude.{Ok, Err}
use Rattle.multiset_unification.specs.Answer.{fitting}
use Rattle.entries.specs.Code.Writing.{put, full, Writes, Remains, Block, repeated}
use Rattle.entries.proofs.WritingLaws.{flatten_append, head_long, put_long, put_there, copied_next, remains_next, remains_full, remains_done, writes_none, writes_all, writes_cut}

-- the words before those that are put
put_before : (at : ℕ) (xs lent : List ℕ) (n : ℕ) → n ≤ at → at ≤ length lent → take n (put at xs lent) ≡ take n lent
unfolding put
put_before at xs lent n h l =
    let t = length-take-le at lent l in
    ap (take n) (append_assoc (take at lent) xs (drop (at + length xs) lent))
    ∙ take-append-le n (take at lent) (xs ++ drop (at + length xs) lent) (omega (arith, h, t))
    ∙ take-take n at lent h

-- words put in the place of as many others
put_over : (at : ℕ) (xs ys lent : List ℕ) → at + length ys ≤ length lent → length xs ≡ length ys → put at xs (put at ys lent) ≡ put at xs lent
unfolding put
put_over at xs ys lent h e =
    let t : take at (take at lent ++ ys ++ drop (at + length ys) lent) ≡ take at lent = put_before at ys lent at (omega arith) (omega (arith, h)) in
    let d : drop (at + length ys) (take at lent ++ ys ++ drop (at + length ys) lent) ≡ drop (at + length ys) lent =
    drop_at (take at lent ++ ys) (drop (at + length ys) lent) (at + length ys) (head_long at ys lent h) in
    rw (t, e) (ap (take at lent ++ xs ++◌) d)

-- words that are there already
put_same : (at : ℕ) (xs lent : List ℕ) → take (length xs) (drop at lent) ≡ xs → put at xs lent ≡ lent
unfolding put
put_same at xs lent e =
    append_assoc (take at lent) xs (drop (at + length xs) lent)
    ∙ ap (λ (r : List ℕ). take at lent ++ (xs ++ r)) (sym (drop-drop (length xs) at lent))
    ∙ ap (λ (r : List ℕ). take at lent ++ (r ++ drop (length xs) (drop at lent))) (sym e)
    ∙ ap (take at lent ++◌) (take-append-drop (length xs) (drop at lent))
    ∙ take-append-drop at lent

-- a part of a list is one of its first elements
part_of : (n m : ℕ) (xs : List ℕ) → n ≤ length xs → take m (drop n xs) ≡ drop n (take (n + m) xs)
part_of n m xs h =
    sym (ap (drop n) (take-add n m xs) ∙ drop_at (take n xs) (take m (drop n xs)) n (length-take-le n xs h))

-- a word set in the second of two lists
set_behind : (xs ys : List ℕ) (j d : ℕ) → set (xs ++ ys) (length xs + j) d ≡ xs ++ set ys j d
set_behind [] ys j d = ap (λ (k : ℕ). set ys k d) (zero-add j)
set_behind (x ∷ xs) ys j d =
    ap (λ (k : ℕ). set (x ∷ (xs ++ ys)) k d) (suc-add (length xs) j) ∙ ap (x ∷◌) (set_behind xs ys j d)

-- a word set in those that are put
set_put : (at : ℕ) (xs lent : List ℕ) (j d : ℕ) → j < length xs → at ≤ length lent → set (put at xs lent) (at + j) d ≡ put at (set xs j d) lent
unfolding put
set_put at xs lent j d h l =
    let t = length-take-le at lent l in
    let a = length-append (take at lent) xs in
    set-append_left (take at lent ++ xs) (drop (at + length xs) lent) (at + j) d (omega (arith, t, a, h))
    ∙ ap (λ (k : ℕ). set (take at lent ++ xs) (k + j) d ++ drop (at + length xs) lent) (sym t)
    ∙ ap (λ (r : List ℕ). r ++ drop (at + length xs) lent) (set_behind (take at lent) xs j d)
    ∙ ap (λ (k : ℕ). take at lent ++ set xs j d ++ drop (at + k) lent) (sym (length-set xs j d))

-- one more of the lent words is copied behind them
pub moved_next : (lent : List ℕ) (from count at i : ℕ) {lent' : List ℕ} → from + count ≤ at → at + count ≤ length lent → i < count →
    lent' ≡ paste lent at (take count (drop from lent)) i →
    set lent' (at + i) (get_or lent' (from + i) 0) ≡ paste lent at (take count (drop from lent))
    (i + 1)
moved_next lent from count at i {lent'} h l m e =
    let words = take count (drop from lent) in
    let n : length words ≡ count = length-take-le count (drop from lent) (omega (arith, h, l, length-drop from lent)) in
    let t = length-take-le at lent (omega (arith, l)) in
    let b : get_or lent' (from + i) 0 ≡ get_or words i 0 =
    ap (λ (r : List ℕ). get_or r (from + i) 0) (e ∙ append_assoc (take at lent) (take i words) (drop (at + i) lent))
    ∙ get_or-append (take at lent) (take i words ++ drop (at + i) lent) 0 (from + i) (omega (arith, h, m, t))
    ∙ get_or-take at lent (from + i) 0 (omega (arith, h, m))
    ∙ sym (get_or-take count (drop from lent) i 0 m ∙ get_or-drop from lent i 0) in
    ap (set lent' (at + i)) b ∙ copied_next words lent at i (omega (arith, n, l)) (omega (arith, n, m)) e

-- Entries with digit d at place p.
abbrev pub with_digit : ℕ → ℕ → List (List ℕ) → List (List ℕ)
with_digit p d es = map (λ e. set e p d) es

-- they have as many words
digit_long : (p d : ℕ) (es : List (List ℕ)) → length (flatten (with_digit p d es)) ≡ length (flatten es)
unfolding flatten
digit_long p d [] = refl
digit_long p d (e ∷ es) =
    let a = length-append (set e p d) (flatten (with_digit p d es)) in
    let b = length-append e (flatten es) in
    omega (arith, a, b, digit_long p d es, length-set e p d)

-- and each has
digit_wide : (p d width : ℕ) (es : List (List ℕ)) → ((e : List ℕ) → Memᴰ e es → length e ≡ width) → (e : List ℕ) →
    Memᴰ e (with_digit p d es) → length e ≡ width
digit_wide p d width es h e m =
    let s = mathlib.Core.List.Memᴰ.of_map (λ e. set e p d) es m in
    sym (ap length s.2) ∙ length-set s.0 p d ∙ h s.0 s.1

-- entries of one width have as many words as that many times their number
wide_long : (width : ℕ) (es : List (List ℕ)) → ((e : List ℕ) → Memᴰ e es → length e ≡ width) → length (flatten es) ≡ length es * width
unfolding flatten
wide_long width [] h = sym (zero-mul width)
wide_long width (e ∷ es) h =
    let a = length-append e (flatten es) in
    let b = wide_long width es (λ f m. h f (mathlib.Core.List.Memᴰ.tail m)) in
    let c = h e (mathlib.Core.List.Memᴰ.head refl) in
    omega (arith, a, b, c, suc-mul (length es) width)

-- of entries of one width as many are taken as there are widths in the room
pub fitting_wide : (width room j : ℕ) (es : List (List ℕ)) → ((e : List ℕ) → Memᴰ e es → length e ≡ width) → j * width ≤ room →
    room < j * width + width → fitting room es ≡ take j es
unfolding fitting
fitting_wide width room j [] h a b = sym (take-nil j)
fitting_wide width room zero (e ∷ es) h a b =
    let c = h e (mathlib.Core.List.Memᴰ.head refl) in
    rw (lt-leb (length e) room (omega (arith, a, b, c, zero-mul width))) refl
fitting_wide width room (suc j) (e ∷ es) h a b =
    let c = h e (mathlib.Core.List.Memᴰ.head refl) in
    let s = suc-mul j width in
    let r = fitting_wide width (room - length e) j es (λ f m. h f (mathlib.Core.List.Memᴰ.tail m)) (omega (arith, a, c, s))
    (omega (arith, b, a, c, s)) in
    rw (le-leb (length e) room (omega (arith, a, c, s))) (ap (e ∷◌) r)

-- the first ones of what is mapped
take_map : (f : List ℕ → List ℕ) (j : ℕ) (es : List (List ℕ)) → take j (map f es) ≡ map f (take j es)
take_map f zero es = refl
take_map f (suc j) [] = refl
take_map f (suc j) (e ∷ es) = ap (f e ∷◌) (take_map f j es)

-- what is among the first is among all
first_among : (j : ℕ) (es : List (List ℕ)) {e : List ℕ} → Memᴰ e (take j es) → Memᴰ e es
first_among j es m = rw (take-append-drop j es) at (mathlib.Core.List.Memᴰ.append_left (drop j es) m)

module _ {es : List (List ℕ)} {width : ℕ} {lent : List ℕ} {from to : ℕ} (b : Block es width lent from to) where
  -- words put behind entries leave them
  pub block_kept : (at : ℕ) (xs : List ℕ) {lent' : List ℕ} → to ≤ at → at + length xs ≤ length lent → lent' ≡ put at xs lent →
      Block es width lent' from to
  block_kept at xs {lent'} h l e =
      let n = length (flatten es) in
      let q = ap length e ∙ put_long at xs lent l in
      let f : take (from + n) lent' ≡ take (from + n) lent = ap (take (from + n)) e
      ∙ put_before at xs lent (from + n) (omega (arith, h, b.end)) (omega (arith, l)) in
      record {
        wide = b.wide;
        end = b.end;
        within = omega (arith, q, b.within);
        there = part_of from n lent' (omega (arith, q, b.within, b.end)) ∙ ap (drop from) f
            ∙ sym (part_of from n lent (omega (arith, b.within, b.end))) ∙ b.there;
      }

  -- the first of the entries
  block_first : (j : ℕ) → j ≤ length es → Block (take j es) width lent from (from + j * width)
  block_first j h =
      let w : (e : List ℕ) → Memᴰ e (take j es) → length e ≡ width = λ e m. b.wide e (first_among j es m) in
      let l : length (flatten (take j es)) ≡ j * width = wide_long width (take j es) w ∙ ap (λ (k : ℕ). k * width) (length-take-le j es h) in
      let s : flatten es ≡ flatten (take j es) ++ flatten (drop j es) = ap flatten (sym (take-append-drop j es))
      ∙ flatten_append (take j es) (drop j es) in
      let a = length-append (flatten (take j es)) (flatten (drop j es)) in
      let n : length (flatten (take j es)) ≤ length (flatten es) = omega (arith, ap length s, a) in
      record {
        wide = w;
        end = ap (from +◌) (sym l);
        within = omega (arith, l, n, b.end, b.within);
        there = sym (take-take (length (flatten (take j es))) (length (flatten es)) (drop from lent) n)
            ∙ ap (take (length (flatten (take j es)))) (b.there ∙ s) ∙ take-append_seam (flatten (take j es)) (flatten (drop j es));
      }

  -- how many words they have
  block_count : to - from ≡ length (flatten es)
  block_count = omega (arith, b.end)

  -- where not all fit, the whole number of widths in the room is less than theirs
  cut_less : (room : ℕ) → 0 < width → room < to - from → room / width < length es
  cut_less room z h = (div-lt_iff_lt-mul z).1 (omega (arith, h, block_count, wide_long width es b.wide))

  -- and so many of the first ones are taken, with digit d at place p
  cut_fits : (room p d : ℕ) → 0 < width → fitting room (with_digit p d es) ≡ with_digit p d (take (room / width) es)
  cut_fits room p d z =
      fitting_wide width room (room / width) (with_digit p d es) (digit_wide p d width es b.wide) (div-mul-le_self room width) (lt-div-mul-add z)
      ∙ take_map (λ e. set e p d) (room / width) es

-- Of entries es, in the lent words from `at` on, the first ones have digit d at place p. Word i is the next to have it.
pub record Digits (es : List (List ℕ)) (p d : ℕ) (lent : List ℕ) (at : ℕ) (lent' : List ℕ) (i : ℕ) : Type 0 where
  pub done : List (List ℕ)
  pub rest : List (List ℕ)
  pub split : es ≡ done ++ rest
  pub place : i ≡ length (flatten done) + p
  pub words : lent' ≡ put at (flatten (with_digit p d done) ++ flatten rest) lent

module _ {es : List (List ℕ)} {width : ℕ} {lent : List ℕ} {at : ℕ} (count : ℕ) (b : Block es width lent at (at + count)) (p d : ℕ) where
  -- at the start none has
  pub digits_first : Digits es p d lent at lent p
  unfolding flatten
  digits_first =
      record { done = []; rest = es; split = refl; place = omega arith; words = sym (put_same at (flatten es) lent b.there) }

  -- how many words the entries have
  digits_count : {lent' : List ℕ} {i : ℕ} (g : Digits es p d lent at lent' i) → count ≡ length (flatten g.done) + length (flatten g.rest)
  digits_count g =
      omega (
        arith,
        b.end,
        ap length (ap flatten g.split ∙ flatten_append g.done g.rest),
        length-append (flatten g.done)
            (flatten g.rest),
      )

  -- one more has
  pub digits_next : p < width → {lent' : List ℕ} {i : ℕ} → Digits es p d lent at lent' i → i < count →
      Digits es p d lent at (set lent' (at + i) d) (i + width)
  unfolding flatten
  digits_next h {lent'} {i} g l = go g.rest g.split g.words (digits_count g)
    where
      go : (rest : List (List ℕ)) → es ≡ g.done ++ rest → lent' ≡ put at (flatten (with_digit p d g.done) ++ flatten rest) lent →
          count ≡ length (flatten g.done) + length (flatten rest) → Digits es p d lent at (set lent' (at + i) d) (i + width)
      go [] s w c = absurd (omega (arith, l, c, g.place))
      go (e ∷ rest) s w c =
          let m : Memᴰ e es = rw s (mathlib.Core.List.Memᴰ.append_right g.done (mathlib.Core.List.Memᴰ.head refl)) in
          let n = b.wide e m in
          let xs = flatten (with_digit p d g.done) in
          let x = digit_long p d g.done in
          let q : length (xs ++ (e ++ flatten rest)) ≡ length xs + length (e ++ flatten rest) = length-append xs (e ++ flatten rest) in
          let y : i ≡ length xs + p = omega (arith, g.place, x) in
          let u : set (xs ++ (e ++ flatten rest)) i d ≡ xs ++ (set e p d ++ flatten rest) =
          ap (λ (k : ℕ). set (xs ++ (e ++ flatten rest)) k d) y
          ∙ set_behind xs (e ++ flatten rest) p d
          ∙ ap (xs ++◌) (set-append_left e (flatten rest) p d (omega (arith, h, n))) in
          let v : flatten (with_digit p d (g.done ++ (e ∷ []))) ≡ xs ++ (set e p d ++ []) = ap flatten
          (map-append (λ e. set e p d) g.done (e ∷ [])) ∙ flatten_append (with_digit p d g.done) (set e p d ∷ []) in
          let f : length (flatten (g.done ++ (e ∷ []))) ≡ length (flatten g.done) + length e = ap length (flatten_append g.done (e ∷ []))
          ∙ length-append (flatten g.done) (e ++ []) ∙ ap (λ (r : List ℕ). length (flatten g.done) + length r) (append-nil e) in
          record {
            done = g.done ++ (e ∷ []);
            rest = rest;
            split = s ∙ sym (append_assoc g.done (e ∷ []) rest);
            place = omega (arith, f, n, g.place);
            words = ap (λ (r : List ℕ). set r (at + i) d) w ∙ set_put at (xs ++ (e ++ flatten rest)) lent i d
                (omega (arith, q, y, h, n, length-append e (flatten rest))) (omega (arith, b.within))
                ∙ ap (λ (r : List ℕ). put at r lent) (u ∙ sym (append_assoc xs (set e p d) (flatten rest)) ∙ ap (λ (r : List ℕ). r ++ flatten rest)
                (ap (xs ++◌) (sym (append-nil (set e p d))) ∙ sym v));
          }

  -- at the end all have
  pub digits_last : p < width → {lent' : List ℕ} {i : ℕ} → Digits es p d lent at lent' i → count ≤ i →
      lent' ≡ put at (flatten (with_digit p d es)) lent
  unfolding flatten
  digits_last h {lent'} {i} g l = go g.rest g.split g.words (digits_count g)
    where
      go : (rest : List (List ℕ)) → es ≡ g.done ++ rest → lent' ≡ put at (flatten (with_digit p d g.done) ++ flatten rest) lent →
          count ≡ length (flatten g.done) + length (flatten rest) → lent' ≡ put at (flatten (with_digit p d es)) lent
      go [] s w c =
          w ∙ ap (λ (r : List ℕ). put at r lent) (append-nil (flatten (with_digit p d g.done)) ∙ ap
          (λ (zs : List (List ℕ)). flatten (with_digit p d zs)) (sym (s ∙ append-nil g.done)))
      go (e ∷ rest) s w c =
          let m : Memᴰ e es = rw s (mathlib.Core.List.Memᴰ.append_right g.done (mathlib.Core.List.Memᴰ.head refl)) in
          absurd (omega (arith, l, c, g.place, h, b.wide e m, length-append e (flatten rest)))

module _ {es : List (List ℕ)} {width : ℕ} {lent : List ℕ} {from : ℕ} (at count : ℕ) {lent' : List ℕ} (b : Block es width lent from (from + count))
    (l : at + count ≤ length lent) (c : lent' ≡ put at (take count (drop from lent)) lent) where
  -- the words that are copied are those of the entries
  moved_words : take count (drop from lent) ≡ flatten es
  moved_words = let n : count ≡ length (flatten es) = omega (arith, b.end) in ap (λ (k : ℕ). take k (drop from lent)) n ∙ b.there

  -- entries that are copied stand where they are copied to
  pub moved_block : Block es width lent' at (at + count)
  moved_block =
      let n : count ≡ length (flatten es) = omega (arith, b.end) in
      let e : lent' ≡ put at (flatten es) lent = c ∙ ap (λ (r : List ℕ). put at r lent) moved_words in
      let q = ap length e ∙ put_long at (flatten es) lent (omega (arith, l, n)) in
      record {
        wide = b.wide;
        end = ap (at +◌) n;
        within = omega (arith, q, l);
        there = ap (λ (r : List ℕ). take (length (flatten es)) (drop at r)) e ∙ put_there at (flatten es) lent (omega (arith, l, n));
      }

  -- and with another digit are put in their own place
  pub moved_digit : (p d : ℕ) {lent'' : List ℕ} → lent'' ≡ put at (flatten (with_digit p d es)) lent' →
      lent'' ≡ put at (flatten (with_digit p d es)) lent
  moved_digit p d e =
      let n : count ≡ length (flatten es) = omega (arith, b.end) in
      e ∙ ap (put at (flatten (with_digit p d es))) (c ∙ ap (λ (r : List ℕ). put at r lent) moved_words)
      ∙ put_over at (flatten (with_digit p d es)) (flatten es) lent (omega (arith, l, n)) (digit_long p d es)

-- no entries, repeated
repeated_none : (p d c : ℕ) → repeated p d c [] ≡ []
unfolding repeated
repeated_none p d zero = refl
repeated_none p d (suc c) = repeated_none p (suc d) c

-- the entries with digit d, and then those with a greater one
repeated_next : (p d last : ℕ) (es : List (List ℕ)) → d ≤ last →
    repeated p d (last + 1 - d) es ≡ with_digit p d es ++ repeated p (d + 1) (last + 1 - (d + 1)) es
unfolding repeated
repeated_next p d last es h =
    let n : last + 1 - d ≡ suc (last + 1 - (d + 1)) = omega arith in
    ap (λ (k : ℕ). repeated p d k es) n
    ∙ ap (λ (k : ℕ). with_digit p d es ++ repeated p k (last + 1 - (d + 1)) es) (sym (add-one d))

-- no digit is left
repeated_end : (p d last : ℕ) (es : List (List ℕ)) → last < d → repeated p d (last + 1 - d) es ≡ []
unfolding repeated
repeated_end p d last es h = let n : last + 1 - d ≡ 0 = omega arith in rw n refl

-- fewer words than an entry has are no entry's
pub repeats_none : {es : List (List ℕ)} {width : ℕ} {lent : List ℕ} {from to : ℕ} → Block es width lent from to → (p d c : ℕ) → to - from < width →
    Writes (repeated p d c es) lent to lent (Ok to)
unfolding flatten
repeats_none {es} {width} {lent} {from} {to} b p d c h = go es b.wide b.end
  where
    go : (es : List (List ℕ)) → ((e : List ℕ) → Memᴰ e es → length e ≡ width) → to ≡ from + length (flatten es) →
        Writes (repeated p d c es) lent to lent (Ok to)
    go [] w e = rw (repeated_none p d c) (writes_none lent to b.within)
    go (x ∷ es) w e = absurd (omega (arith, h, e, w x (mathlib.Core.List.Memᴰ.head refl), length-append x (flatten es)))

-- The entries from `from` up to `to` are still there, and those with a digit from d up to `last` at place p remain to be written.
pub record Repeating (es : List (List ℕ)) (width p first last from to : ℕ) (lent₀ : List ℕ) (d : ℕ) (lent : List ℕ) (used : ℕ) : Type 0 where
  pub block : Block es width lent from to
  pub remains : Remains (repeated p (first + 1) (last - first) es) lent₀ to (repeated p d (last + 1 - d) es) lent used

module _ {es : List (List ℕ)} {width p first last from to : ℕ} {lent₀ : List ℕ} {d : ℕ} {lent : List ℕ} {used : ℕ}
    (g : Repeating es width p first last from to lent₀ d lent used) where
  -- what remains begins with the entries with digit d
  repeats_turn : d ≤ last → Remains (repeated p (first + 1) (last - first) es) lent₀ to
      (with_digit p d es ++ repeated p (d + 1) (last + 1 - (d + 1)) es) lent used
  repeats_turn h = rw (← repeated_next p d last es h) g.remains

  -- a turn writes these
  pub repeats_next : d ≤ last → to ≤ used → to - from ≤ length lent - used → {lent' : List ℕ} →
      lent' ≡ put used (flatten (with_digit p d es)) lent → Repeating es width p first last from to lent₀ (d + 1) lent' (used + (to - from))
  repeats_next h t l {lent'} e =
      let n = block_count g.block in
      let m = digit_long p d es in
      let u = g.remains.within in
      let k : used + length (flatten (with_digit p d es)) ≡ used + (to - from) = omega (arith, n, m) in
      let w = writes_all (with_digit p d es) lent used (omega (arith, l, n, m)) e in
      record {
        block = block_kept g.block used (flatten (with_digit p d es)) t (omega (arith, l, n, m, u)) e;
        remains = remains_next (with_digit p d es) (repeats_turn h) (rw k at w);
      }

  -- where they do not all fit, those that do are written
  pub repeats_full : d ≤ last → 0 < width → length lent - used < to - from → {lent' : List ℕ} →
      lent' ≡ put used (flatten (with_digit p d (take ((length lent - used) / width) es))) lent →
      Writes (repeated p (first + 1) (last - first) es) lent₀ to lent' (Err full)
  repeats_full h z l {lent'} e =
      let n = block_count g.block in
      let m = digit_long p d es in
      let f = cut_fits g.block (length lent - used) p d z in
      let w = writes_cut (with_digit p d es) lent used (omega (arith, l, n, m)) (e ∙ ap (λ (zs : List (List ℕ)). put used (flatten zs) lent) (sym f))
      in
      remains_full (with_digit p d es) (repeated p (d + 1) (last + 1 - (d + 1)) es) (repeats_turn h) w

  -- after the last digit all is written
  pub repeats_last : last < d → Writes (repeated p (first + 1) (last - first) es) lent₀ to lent (Ok used)
  repeats_last h = remains_done (rw (repeated_end p d last es h) at g.remains)

  -- the entries of which there is room for all words
  pub repeats_cut : 0 < width → length lent - used < to - from →
      Block (take ((length lent - used) / width) es) width lent from (from + (length lent - used) / width * width)
  repeats_cut z l = let h = cut_less g.block (length lent - used) z l in block_first g.block ((length lent - used) / width) (omega (arith, h))

  -- the entries, by how many words they have
  pub repeats_whole : Block es width lent from (from + (to - from))
  repeats_whole = let n : from + (to - from) ≡ to = omega (arith, g.block.end) in rw n g.block
