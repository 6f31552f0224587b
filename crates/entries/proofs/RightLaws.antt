-- The entries that differ in their right digits, from the last place back: a 0 stays, a 1 goes from 1 to k.
-- By cutting the entry at the place, and by unfolding `branch` a digit at a time. Assumes nothing.
use Prim.Native.Nat.{ℕ, zero, suc, ◌+◌, ◌-◌, ◌<◌, ◌≤◌}
use mathlib.Core.Bool.{Bool, true, false, cond}
use mathlib.Core.List.Memᴰ
use mathlib.Core.List.{List, [], ◌∷◌, ◌++◌, map, map-map, map-append, append_assoc, append-nil, Memᴰ}
use mathlib.Core.Logic.{◌⊎◌, inl, inr}
use mathlib.Core.Path.{◌≡◌, refl, sym, ap, ◌∙◌}
use native.Mathlib.Decide.{ℕ_discrete}
use native.Mathlib.Numerals.{add-one}
use native.Mathlib.Omega.{arith}
use borrow.Author.Tests.{eq-eqb, ne_eqb}
use lib.Dec.{eqb}
use lib.ListN.{length, get_or, take, drop, set, length-append, length-drop, take-append-drop}
use lib.Seq.{drop-cons, length-take-le, drop_at, take-suc, set_at, set-append_left}
use Rattle.std.specs.Prelude.{Result, Ok, Err}
use Rattle.unification.proofs.ListLaws.{map_same}
use Rattle.multiset_unification.specs.Computed.Choices.{branch}
use Rattle.entries.specs.declared.writing.Full.{Full}
use Rattle.entries.specs.Code.Writing.{put, full, Writes, Block, repeated, marked, marks_from, right_entries, Least}
use Rattle.entries.proofs.WritingLaws.{entry_fits, none_fits, writes_block, writes_full, repeat_writes}

-- the marks from a place on are its word and those after it
marks_cons : (e : List ℕ) (p end : ℕ) → p < end → end ≤ length e → marks_from e p end ≡ get_or e p 0 ∷ marks_from e (p + 1) end
marks_cons e p end h l =
    let n : end - p ≡ suc (end - (p + 1)) = omega arith in
    let s : suc p ≡ p + 1 = sym (add-one p) in
    ap (λ (k : ℕ). take k (drop p e)) n
    ∙ ap (take (suc (end - (p + 1)))) (drop-cons e p 0 (omega (arith, h, l)))
    ∙ ap (λ (k : ℕ). get_or e p 0 ∷ take (end - (p + 1)) (drop k e)) s

-- where the word at a place is 0, it stays
marked_paired : (k : ℕ) (e : List ℕ) (p end : ℕ) → p < end → end ≤ length e → get_or e p 0 ≡ 0 →
    marked k (marks_from e p end) ≡ map (0 ∷◌) (marked k (marks_from e (p + 1) end))
unfolding marked branch
marked_paired k e p end h l z =
    ap (marked k) (marks_cons e p end h l) ∙ rw (eq-eqb (get_or e p 0) 0 z) (append-nil (map (0 ∷◌) (marked k (marks_from e (p + 1) end))))

-- where it is not 0, it goes from 1 to k
marked_unpaired : (k : ℕ) (e : List ℕ) (p end : ℕ) → p < end → end ≤ length e → (get_or e p 0 ≡ 0 → ⊥) →
    marked k (marks_from e p end) ≡ branch 1 k (λ d. marked k (marks_from e (p + 1) end))
unfolding marked
marked_unpaired k e p end h l z =
    ap (marked k) (marks_cons e p end h l) ∙ rw (ne_eqb (get_or e p 0) 0 z) refl

-- an entry with the digits ds in the place of those from p up to `end`
abbrev with : List ℕ → ℕ → ℕ → List ℕ → List ℕ
with e p end ds = take p e ++ ds ++ drop end e

-- a digit before the digits from the next place on
with_digit_lem : (e e' : List ℕ) (p end d : ℕ) (ds : List ℕ) → take (p + 1) e' ≡ take p e ++ (d ∷ []) → drop end e' ≡ drop end e →
    with e' (p + 1) end ds ≡ with e p end (d ∷ ds)
with_digit_lem e e' p end d ds t l = rw (t, l) (ap (λ (r : List ℕ). r ++ drop end e) (append_assoc (take p e) (d ∷ []) ds))

-- no place is left: the entry itself
rights_end : (k : ℕ) (e : List ℕ) (p end : ℕ) → p ≡ end → right_entries k e p end ≡ e ∷ []
unfolding right_entries marked
rights_end k e p end q =
    let z : p - p ≡ 0 = omega arith in
    let a : take p e ++ [] ++ drop p e ≡ e = ap (λ (r : List ℕ). r ++ drop p e) (append-nil (take p e)) ∙ take-append-drop p e in
    rw (← q, z) (ap (λ (r : List ℕ). r ∷ []) a)

-- the words up to a place, and its own
next_digit : (e : List ℕ) (p : ℕ) → p < length e → take (p + 1) e ≡ take p e ++ (get_or e p 0 ∷ [])
next_digit e p h = ap (λ (n : ℕ). take n e) (add-one p) ∙ take-suc e p 0 h

-- the word at the place is 0: the entries from the next place on
rights_paired : (k : ℕ) (e : List ℕ) (p end : ℕ) → p < end → end ≤ length e → get_or e p 0 ≡ 0 →
    right_entries k e p end ≡ right_entries k e (p + 1) end
unfolding right_entries
rights_paired k e p end h l z =
    let m = marked k (marks_from e (p + 1) end) in
    let t : take (p + 1) e ≡ take p e ++ (0 ∷ []) = next_digit e p (omega (arith, h, l)) ∙ ap (λ (n : ℕ). take p e ++ (n ∷ [])) z in
    ap (map (with e p end)) (marked_paired k e p end h l z)
    ∙ map-map (with e p end) (0 ∷◌) m
    ∙ sym (map_same (with e (p + 1) end) (λ ds. with e p end (0 ∷ ds)) m (λ ds q. with_digit_lem e e p end 0 ds t refl))

-- a digit set at a place stands before the digits from the next place on
with_set : (e : List ℕ) (p end d : ℕ) (ds : List ℕ) → p < length e → set (with e (p + 1) end ds) p d ≡ with e p end (d ∷ ds)
with_set e p end d ds h =
    let t = length-take-le (p + 1) e (omega (arith, h)) in
    let a = length-append (take (p + 1) e) ds in
    set-append_left (take (p + 1) e ++ ds) (drop end e) p d (omega (arith, t, a))
    ∙ ap (λ (r : List ℕ). r ++ drop end e) (set-append_left (take (p + 1) e) ds p d (omega (arith, t)))
    ∙ ap (λ (r : List ℕ). set r p d ++ ds ++ drop end e) (next_digit e p h)
    ∙ ap (λ (r : List ℕ). r ++ ds ++ drop end e) (set_at (take p e) (get_or e p 0) [] d p (length-take-le p e (omega (arith, h))))
    ∙ ap (λ (r : List ℕ). r ++ drop end e) (append_assoc (take p e) (d ∷ []) ds)

-- each of c digits from d on at a place, before the same digits from the next place on
branch_repeated : (e : List ℕ) (p end d c : ℕ) (m : List (List ℕ)) → p < length e →
    map (with e p end) (branch d c (λ x. m)) ≡ repeated p d c (map (with e (p + 1) end) m)
unfolding branch repeated
branch_repeated e p end d zero m h = refl
branch_repeated e p end d (suc c) m h =
    let a : map (with e p end) (map (d ∷◌) m) ≡ map (λ f. set f p d) (map (with e (p + 1) end) m) =
    map-map (with e p end) (d ∷◌) m
    ∙ sym (map_same (λ ds. set (with e (p + 1) end ds) p d) (λ ds. with e p end (d ∷ ds)) m (λ ds z. with_set e p end d ds h))
    ∙ sym (map-map (λ f. set f p d) (with e (p + 1) end) m) in
    map-append (with e p end) (map (d ∷◌) m) (branch (suc d) c (λ x. m))
    ∙ ap (λ (zs : List (List ℕ)). zs ++ map (with e p end) (branch (suc d) c (λ x. m))) a
    ∙ ap (map (λ f. set f p d) (map (with e (p + 1) end) m) ++◌) (branch_repeated e p end (suc d) c m h)

-- the word at the place is not 0: the entries from the next place on, with each digit from 1 to k there
rights_unpaired : (k : ℕ) (e : List ℕ) (p end : ℕ) → p < end → end ≤ length e → (get_or e p 0 ≡ 0 → ⊥) →
    right_entries k e p end ≡ repeated p 1 k (right_entries k e (p + 1) end)
unfolding right_entries
rights_unpaired k e p end h l z =
    ap (map (with e p end)) (marked_unpaired k e p end h l z)
    ∙ branch_repeated e p end 1 k (marked k (marks_from e (p + 1) end)) (omega (arith, h, l))

-- the entries from the next place on have the word that is at the place
rights_word : (k : ℕ) (e : List ℕ) (p end : ℕ) → p < length e →
    map (λ f. set f p (get_or e p 0)) (right_entries k e (p + 1) end) ≡ right_entries k e (p + 1) end
unfolding right_entries
rights_word k e p end h =
    let m = marked k (marks_from e (p + 1) end) in
    map-map (λ f. set f p (get_or e p 0)) (with e (p + 1) end) m
    ∙ map_same (λ ds. set (with e (p + 1) end ds) p (get_or e p 0)) (with e (p + 1) end) m
    (λ ds z. with_set e p end (get_or e p 0) ds h ∙ sym (with_digit_lem e e p end (get_or e p 0) ds (next_digit e p h) refl))

-- the word at the place is 1: the entries from the next place on, and then these with each digit from 2 to k there
pub rights_marked : (k : ℕ) (e : List ℕ) (p end : ℕ) → p < end → end ≤ length e → get_or e p 0 ≡ 1 → 0 < k →
    right_entries k e p end ≡ right_entries k e (p + 1) end ++ repeated p 2 (k - 1) (right_entries k e (p + 1) end)
unfolding repeated
rights_marked k e p end h l o z =
    let es = right_entries k e (p + 1) end in
    let n : k ≡ suc (k - 1) = omega arith in
    let w : map (λ f. set f p 1) es ≡ es = ap (λ (x : ℕ). map (λ f. set f p x) es) (sym o) ∙ rights_word k e p end (omega (arith, h, l)) in
    rights_unpaired k e p end h l (λ q. absurd (omega (arith, o, q)))
    ∙ ap (λ (j : ℕ). repeated p 1 j es) n
    ∙ ap (λ (zs : List (List ℕ)). zs ++ repeated p 2 (k - 1) es) w

-- a mark that is not 0 is 1, and there are labels
mark_one : {k : ℕ} {e : List ℕ} {p end : ℕ} → Least k e p end → (j : ℕ) → p ≤ j → j < end → (get_or e j 0 ≡ 0 → ⊥) → (get_or e j 0 ≡ 1) × (0 < k)
mark_one {k} {e} {p} {end} g j h l n =
    let s = g.small j h l in
    (omega (arith, s, n), go (ℕ_discrete k 0))
  where
    go : Dec (k ≡ 0) → 0 < k
    go (yes z) = absurd (n (g.noughts z j h l))
    go (no z) = omega (arith, z)

-- with fewer than two labels there is no other string
pub rights_one : (k : ℕ) (e : List ℕ) (p end : ℕ) → k < 2 → p ≤ end → end ≤ length e → Least k e p end → right_entries k e p end ≡ e ∷ []
unfolding repeated
rights_one k e p end b h l g = go (end - p) p (omega arith) (omega arith)
  where
    turn : (r : ℕ) → p ≤ r → r < end → Dec (get_or e r 0 ≡ 0) → right_entries k e r end ≡ right_entries k e (r + 1) end
    turn r a m (yes z) = rights_paired k e r end m l z
    turn r a m (no z) =
        let o = mark_one g r a m z in
        let n : k - 1 ≡ 0 = omega (arith, b) in
        rights_marked k e r end m l o.0 o.1
        ∙ ap (λ (j : ℕ). right_entries k e (r + 1) end ++ repeated r 2 j (right_entries k e (r + 1) end)) n
        ∙ append-nil (right_entries k e (r + 1) end)

    go : (c r : ℕ) → p ≤ r → r + c ≡ end → right_entries k e r end ≡ e ∷ []
    go zero r a n = rights_end k e r end (omega (arith, n))
    go (suc c) r a n =
        turn r a (omega (arith, n)) (ℕ_discrete (get_or e r 0) 0) ∙ go c (r + 1) (omega (arith, a)) (omega (arith, n))

-- the entries from a place on are the first of those from a place before it on
rights_rest : (k : ℕ) (e : List ℕ) (p end : ℕ) → Least k e p end → end ≤ length e → (q : ℕ) → p ≤ q → q ≤ end →
    (rest : List (List ℕ)) × (right_entries k e p end ≡ right_entries k e q end ++ rest)
rights_rest k e p end g l q h m = go (q - p) p (omega arith) (omega arith)
  where
    turn : (r : ℕ) → p ≤ r → r < end → Dec (get_or e r 0 ≡ 0) →
        (rest : List (List ℕ)) × (right_entries k e (r + 1) end ≡ right_entries k e q end ++ rest) →
        (rest : List (List ℕ)) × (right_entries k e r end ≡ right_entries k e q end ++ rest)
    turn r a n (yes z) s = (s.0, rights_paired k e r end n l z ∙ s.1)
    turn r a n (no z) s =
        let o = mark_one g r a n z in
        let more = repeated r 2 (k - 1) (right_entries k e (r + 1) end) in (
          s.0 ++ more,
          rights_marked k e r end n l o.0 o.1 ∙ ap (λ (zs : List (List ℕ)). zs ++ more) s.1
              ∙ append_assoc (right_entries k e q end) s.0 more,
        )

    go : (c r : ℕ) → p ≤ r → r + c ≡ q → (rest : List (List ℕ)) × (right_entries k e r end ≡ right_entries k e q end ++ rest)
    go zero r a n =
        let z : r ≡ q = omega (arith, n) in
        ([], ap (λ (j : ℕ). right_entries k e j end) z ∙ sym (append-nil (right_entries k e q end)))
    go (suc c) r a n =
        turn r a (omega (arith, n, m)) (ℕ_discrete (get_or e r 0) 0) (go c (r + 1) (omega (arith, a)) (omega (arith, n)))

-- what holds of each string of f, a digit before it, holds of each that branches
branch_each : (P : List ℕ → Type 0) (d c : ℕ) (f : ℕ → List (List ℕ)) → ((e : ℕ) (x : List ℕ) → Memᴰ x (f e) → P (e ∷ x)) → (x : List ℕ) →
    Memᴰ x (branch d c f) → P x
unfolding branch
branch_each P d zero f h x m = absurd (Memᴰ.not-nil m)
branch_each P d (suc c) f h x m = go (branch_each P (suc d) c f h x) (Memᴰ.append_cases (map (d ∷◌) (f d)) m)
  where
    go : (Memᴰ x (branch (suc d) c f) → P x) → Memᴰ x (map (d ∷◌) (f d)) ⊎ Memᴰ x (branch (suc d) c f) → P x
    go r (inl n) = let s = Memᴰ.of_map (d ∷◌) (f d) n in rw (← s.2) (h d s.0 s.1)
    go r (inr n) = r n

-- there is a right digit for each mark
pub marked_long : (k : ℕ) (marks es : List ℕ) → Memᴰ es (marked k marks) → length es ≡ length marks
unfolding marked
marked_long k [] es m = ap length (Memᴰ.eq_of_singleton m)
marked_long k (z ∷ zs) es m = pick (eqb z 0) (λ e fs n. ap suc (marked_long k zs fs n)) m
  where
    pick : (b : Bool) → ((e : ℕ) (fs : List ℕ) → Memᴰ fs (marked k zs) → length (e ∷ fs) ≡ suc (length zs)) →
        Memᴰ es (cond b (branch 0 1 (λ d. marked k zs)) (branch 1 k (λ d. marked k zs))) → length es ≡ suc (length zs)
    pick true h n = branch_each (λ fs. length fs ≡ suc (length zs)) 0 1 (λ d. marked k zs) h es n
    pick false h n = branch_each (λ fs. length fs ≡ suc (length zs)) 1 k (λ d. marked k zs) h es n

-- as many digits in the place of those from p up to `end` leave as many words, and the same behind them
with_words : (e : List ℕ) (p end : ℕ) (ds : List ℕ) → p ≤ end → end ≤ length e → length ds ≡ end - p →
    (length (with e p end ds) ≡ length e) × (drop end (with e p end ds) ≡ drop end e)
with_words e p end ds h l n =
    let a = length-take-le p e (omega (arith, h, l)) in
    let b = length-append (take p e) ds in
    let c = length-append (take p e ++ ds) (drop end e) in
    let d = length-drop end e in
    (omega (arith, a, b, c, d, n, h, l), drop_at (take p e ++ ds) (drop end e) end (omega (arith, a, b, n, h)))

-- entries that differ in their right digits alone have as many words, and the same behind the digits
rights_kept : (k : ℕ) (e : List ℕ) (p end : ℕ) → p ≤ end → end ≤ length e → (f : List ℕ) → Memᴰ f (right_entries k e p end) →
    (length f ≡ length e) × (drop end f ≡ drop end e)
unfolding right_entries
rights_kept k e p end h l f i =
    let r = Memᴰ.of_map (with e p end) (marked k (marks_from e p end)) i in
    let a = marked_long k (marks_from e p end) r.0 r.1 in
    let b = length-take-le (end - p) (drop p e) (omega (arith, length-drop p e, l)) in
    rw (← r.2) (with_words e p end r.0 h l (a ∙ b))

-- those of n left digits and m right ones
pub right_words : (k : ℕ) (e : List ℕ) (n m : ℕ) → n + m ≤ length e → (f : List ℕ) → Memᴰ f (right_entries k e n (n + m)) →
    (length f ≡ length e) × (drop (n + m) f ≡ drop (n + m) e)
right_words k e n m l f i = rights_kept k e n (n + m) (omega arith) l f i

-- at the end of the places the entry is written
pub rights_first : (k : ℕ) (e : List ℕ) (end : ℕ) (lent : List ℕ) (at : ℕ) {lent' : List ℕ} → at + length e ≤ length lent → lent' ≡ put at e lent →
    Writes (right_entries k e end end) lent at lent' (Ok (at + length e))
rights_first k e end lent at h q = rw (rights_end k e end end refl) (entry_fits e lent at (omega (arith, h)) q)

-- with fewer than two labels it is all
pub rights_few : (k : ℕ) (e : List ℕ) (p end : ℕ) (lent : List ℕ) (at : ℕ) {lent' : List ℕ} → k < 2 → p ≤ end → end ≤ length e → Least k e p end →
    at + length e ≤ length lent → lent' ≡ put at e lent → Writes (right_entries k e p end) lent at lent' (Ok (at + length e))
rights_few k e p end lent at b h l g m q = rw (rights_one k e p end b h l g) (entry_fits e lent at (omega (arith, m)) q)

-- where the entry does not fit, none of them does
pub rights_over : (k : ℕ) (e : List ℕ) (p end : ℕ) (lent : List ℕ) (at : ℕ) → p ≤ end → end ≤ length e → Least k e p end →
    length lent - at < length e → Writes (right_entries k e p end) lent at lent (Err full)
rights_over k e p end lent at h l g o =
    let s = rights_rest k e p end g l end h (omega arith) in
    let z : 0 < length (right_entries k e p end) = omega (
      arith,
      ap length s.1,
      ap length (rights_end k e end end refl),
      length-append
          (right_entries k e end end) s.0,
    ) in
    none_fits (right_entries k e p end) lent at z (λ f i. let n = rights_kept k e p end h l f i in omega (arith, o, n.0))

module _ (k : ℕ) (e : List ℕ) (p q end : ℕ) (h : p < q) (m : q ≤ end) (l : end ≤ length e) {lent : List ℕ} {at : ℕ} {lent₁ : List ℕ} {r₁ : ℕ}
    (w : Writes (right_entries k e q end) lent at lent₁ (Ok r₁)) where
  -- a place with 0 changes nothing
  pub rights_skip : get_or e (q - 1) 0 ≡ 0 → Writes (right_entries k e (q - 1) end) lent at lent₁ (Ok r₁)
  rights_skip z =
      let n : q - 1 + 1 ≡ q = omega (arith, h) in
      rw (rights_paired k e (q - 1) end (omega (arith, h, m)) l z, n) w

  module _ (b : at ≤ length lent) where
    -- the entries that are written stand there
    pub rights_block : Block (right_entries k e q end) (length e) lent₁ at r₁
    rights_block = writes_block (length e) b w (λ x i. (rights_kept k e q end m l x i).0)

    -- at a place with 1 they are repeated
    pub rights_repeat : Least k e p end → (get_or e (q - 1) 0 ≡ 0 → ⊥) → {lent₂ : List ℕ} {r₂ : Result ℕ Full} →
        Writes (repeated (q - 1) 2 (k - 1) (right_entries k e q end)) lent₁ r₁ lent₂ r₂ → Writes (right_entries k e (q - 1) end) lent at lent₂ r₂
    rights_repeat g z v =
        let n : q - 1 + 1 ≡ q = omega (arith, h) in
        let o = mark_one g (q - 1) (omega (arith, h)) (omega (arith, h, m)) z in
        rw (rights_marked k e (q - 1) end (omega (arith, h, m)) l o.0 o.1, n) (repeat_writes (right_entries k e q end) (q - 1) 2 (k - 1) b w v)

    -- where they do not all fit, not all of the entries do
    pub rights_full : Least k e p end → (get_or e (q - 1) 0 ≡ 0 → ⊥) → {lent₂ : List ℕ} {f : Full} →
        Writes (repeated (q - 1) 2 (k - 1) (right_entries k e q end)) lent₁ r₁ lent₂ (Err f) → Writes (right_entries k e p end) lent at lent₂ (Err full)
    rights_full g z v =
        let s = rights_rest k e p end g l (q - 1) (omega (arith, h)) (omega (arith, m)) in
        rw s.1 (writes_full (right_entries k e (q - 1) end) s.0 (rights_repeat g z v))

-- at the first place all is written
pub rights_last : (k : ℕ) (e : List ℕ) (p q end : ℕ) {lent : List ℕ} {at : ℕ} {lent' : List ℕ} {r : Result ℕ Full} → q ≡ p →
    Writes (right_entries k e q end) lent at lent' r → Writes (right_entries k e p end) lent at lent' r
rights_last k e p q end z w = rw (← z) w
