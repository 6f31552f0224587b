-- The rows of bits, from the last left term back: where the left terms from a term on can be placed, the row before has the set.
-- A choice that completes gives the next left term a label or a pair, and the row after it has what is left. Assumes nothing.
use Prim.Native.Nat.{ℕ, suc, ◌+◌, ◌-◌, ◌*◌, ◌/◌, ◌%◌, ◌^◌, ◌≤◌, ◌<◌}
use mathlib.Core.Bool.{Bool, true, false, not, ◌&&◌, ◌||◌, false≢true}
use mathlib.Core.List.{List, [], ◌∷◌}
use mathlib.Core.Path.{◌≡◌, refl, sym, ap, ◌∙◌}
use native.Mathlib.Decide.{ℕ_discrete, dec_lt}
use native.Mathlib.Nat.{mod-eq_of_lt}
use native.Mathlib.Numerals.{add-one}
use native.Mathlib.Omega.{arith}
use borrow.Author.Tests.{eqb-true, eqb-false, ne_eqb, not-true}
use lib.Dec.{eqb}
use lib.ListN.{length, drop, set, replicate, length-set, length-drop, length-replicate, get_or-replicate, drop_of_length-le}
use lib.Pow.{pow-lt}
use lib.Seq.{length-take-le, drop-cons, get_or-set_same, get_or-set_other}
use Rattle.table.specs.Layout.{word}
use Rattle.table.specs.Some.{some_below}
use Rattle.table.proofs.BoolLaws.{and_true_left, and_true_right}
use Rattle.table.proofs.SomeLaws.{some_means}
use Rattle.branches.specs.Code.Known.{left_count, right_count, left_labels, right_labels, every_in, rows_in}
use Rattle.branches.specs.Code.Ahead.{has, partner_at, completes, completes_from, bit_at, Completable}
use Rattle.branches.proofs.SetLaws.{has_first, has_added, has_none, has_every, added_within}
use Rattle.branches.proofs.KnownLaws.{row_word}
use Rattle.ahead.specs.Code.Plan.{bit_from, SetsBefore, FillsRow, Sized, CompletableFrom, Ready, EndsRow, FillsRows, Plans}

-- there are not more sets of at most eight right terms than bits in four words
pub sets_few : (m : ℕ) → m ≤ 8 → 2 ^ m ≤ 256
sets_few m h = go (dec_lt m 8)
  where
    go : Dec (m < 8) → 2 ^ m ≤ 256
    go (yes l) =
        let p : 2 ^ m < 256 = pow-lt l in
        omega (arith, p)
    go (no l) =
        let e : m ≡ 8 = omega (arith, h, l) in
        let p : 2 ^ m ≡ 256 = ap (λ (x : ℕ). 2 ^ x) e in
        omega (arith, p)

-- a word of a row depends on the row after it alone
sets_same : {can can₀ : List ℕ} {t x row n : ℕ} {stay : Bool} {r : ℕ} → ((p : ℕ) → t ≤ p → word can p ≡ word can₀ p) →
    SetsBefore can t x row n stay r → SetsBefore can₀ t x row n stay r
sets_same {can} {can₀} {t} {x} {row} {n} {stay} {r} f b =
    record {
      stays = λ z s d h. b.stays z s d (there s ∙ h);
      joined = λ s j d q y m h. b.joined s j d q y m (there (s + 2 ^ j) ∙ h);
    }
  where
    there : (s : ℕ) → bit_from can t s ≡ bit_from can₀ t s
    there s = ap (λ (v : ℕ). has v (s % 64)) (f (t + s / 64) (omega arith))

-- one word more of a row is filled
pub fill_turn : {can₀ can can' : List ℕ} {t x row w : ℕ} {stay : Bool} → FillsRow can₀ t x row stay can → x < 4 → t + x < length can →
    SetsBefore can (t + 4) x row 8 stay w → can' ≡ set can (t + x) w → FillsRow can₀ t (x + 1) row stay can'
fill_turn {can₀} {can} {can'} {t} {x} {row} {w} {stay} f four l b e =
    record {
      size = ap length e ∙ length-set can (t + x) w ∙ f.size;
      kept = λ p h. ap (λ (zs : List ℕ). word zs p) e ∙ get_or-set_other can (t + x) p w 0 (λ z. omega (arith, z, h, four)) ∙ f.kept p h;
      filled = λ y h. go y h (ℕ_discrete y x);
    }
  where
    go : (y : ℕ) → y < x + 1 → Dec (y ≡ x) → SetsBefore can₀ (t + 4) y row 8 stay (word can' (t + y))
    go y h (yes d) =
        let v : word can' (t + x) ≡ w = ap (λ (zs : List ℕ). word zs (t + x)) e ∙ get_or-set_same can (t + x) w 0 l in
        rw (d, v) (sets_same f.kept b)
    go y h (no d) =
        let z : t + y ≡ t + x → ⊥ = λ q. d (omega (arith, q)) in
        let v : word can' (t + y) ≡ word can (t + y) = ap (λ (zs : List ℕ). word zs (t + y)) e ∙ get_or-set_other can (t + x) (t + y) w 0 z in
        rw v (f.filled y (omega (arith, h, d)))

-- one bit alone
pub one_bit : (k : ℕ) → k < 64 → 1 * 2 ^ k % 18446744073709551616 ≡ 2 ^ k
one_bit k h =
    let e : 1 * 2 ^ k ≡ 2 ^ k = omega arith in
    let l : 2 ^ k < 18446744073709551616 = pow-lt h in
    ap (λ (x : ℕ). x % 18446744073709551616) e ∙ mod-eq_of_lt l

-- where there are no left labels, the last row has the whole set
pub ends_whole : (can can₁ can' : List ℕ) (t every p v : ℕ) (closed : Bool) → closed ≡ true → length can₁ ≡ length can → every < 256 →
    t + 4 ≤ length can → p ≡ t + every / 64 → v ≡ 1 * 2 ^ (every % 64) % 18446744073709551616 → can' ≡ set can₁ p v → EndsRow can t every closed can'
ends_whole can can₁ can' t every p v closed y l few room q d e =
    record {
      size = ap length e ∙ length-set can₁ p v ∙ l;
      whole = λ z. ap (λ (w : ℕ). has w (every % 64)) here ∙ has_added 0 (every % 64) (has_none (every % 64));
      same = λ z. absurd (false≢true (sym z ∙ y));
    }
  where
    here : word can' (t + every / 64) ≡ 0 + 2 ^ (every % 64)
    here =
        let o = one_bit (every % 64) (omega arith) in
        let r : v ≡ 0 + 2 ^ (every % 64) = omega (arith, d, o) in
        ap (λ (zs : List ℕ). word zs (t + every / 64)) e ∙ ap (λ (k : ℕ). word (set can₁ k v) (t + every / 64)) q
        ∙ get_or-set_same can₁ (t + every / 64) v 0 (omega (arith, l, few, room))
        ∙ r

-- what is known of the sets
module _ {known : List ℕ} (z : Sized known) where
  -- there are as many sets as left terms
  rows_count : length (rows_in known) ≡ left_count known
  unfolding rows_in
  rows_count =
      let d = length-drop 600 known in
      length-take-le (left_count known) (drop 600 known) (omega (arith, d, z.size, z.left_few))

  -- the sets from one on
  rows_from : (i : ℕ) → i < left_count known → drop i (rows_in known) ≡ word known (600 + i) ∷ drop (i + 1) (rows_in known)
  rows_from i h =
      let l = rows_count in
      drop-cons (rows_in known) i 0 (omega (arith, h, l)) ∙ ap (λ (x : ℕ). x ∷ drop (suc i) (rows_in known)) (row_word known i h)
      ∙ ap (λ (k : ℕ). word known (600 + i) ∷ drop k (rows_in known)) (sym (add-one i))

  -- after the last there are none
  rows_none : (i : ℕ) → left_count known ≤ i → drop i (rows_in known) ≡ []
  rows_none i h =
      let l = rows_count in
      drop_of_length-le (rows_in known) {i = i} (omega (arith, h, l))

  -- a set of right terms has its bit in four words
  pub set_few : (s : ℕ) → s < 2 ^ right_count known → s < 256
  set_few s h =
      let f = sets_few (right_count known) z.right_few in
      omega (arith, h, f)

  -- where the left terms from term i on can be placed, the word before its row has the set
  pub bit_before : {can : List ℕ} {i t row s r : ℕ} {stay : Bool} → CompletableFrom known can i → i < left_count known → t ≡ 4 * i →
      row ≡ word known (600 + i) →
      stay ≡ not (eqb (right_labels known) 0) → s < 2 ^ right_count known → SetsBefore can t (s / 64) row 8 stay r → completes_from known i s ≡ true →
      has r (s % 64) ≡ true
  unfolding completes partner_at bit_at
  bit_before {can} {i} {t} {row} {s} {r} {stay} c h te re se few b e =
      pick (not (eqb (right_labels known) 0) && rest s) refl (some_below (right_count known) (partner_at (word known (600 + i)) s rest)) refl
      (sym (ap (λ (rows : List ℕ). completes (right_count known) (left_labels known) (right_labels known) rows s) (rows_from i h)) ∙ e)
    where
      rest : ℕ → Bool
      rest = completes (right_count known) (left_labels known) (right_labels known) (drop (i + 1) (rows_in known))

      after : (u : ℕ) → u < 2 ^ right_count known → rest u ≡ true → bit_from can t u ≡ true
      after u l d = ap (λ (y : ℕ). bit_from can y u) te ∙ c.bits i u (omega arith) h l d

      pick : (x : Bool) → (not (eqb (right_labels known) 0) && rest s) ≡ x → (y : Bool) →
          some_below (right_count known) (partner_at (word known (600 + i)) s rest) ≡ y → (x || y) ≡ true → has r (s % 64) ≡ true
      pick true p y q v =
          b.stays (se ∙ and_true_left (not (eqb (right_labels known) 0)) (rest s) p) s refl
          (after s few (and_true_right (not (eqb (right_labels known) 0)) (rest s) p))
      pick false p true q v =
          let o = (some_means (partner_at (word known (600 + i)) s rest) (right_count known)).0 q in
          let j = o.0 in
          let f : (has (word known (600 + i)) j && not (has s j) && rest (s + 2 ^ j)) ≡ true = o.2 in
          let g : (has (word known (600 + i)) j && not (has s j)) ≡ true = and_true_left (has (word known (600 + i)) j && not (has s j))
          (rest (s + 2 ^ j)) f in
          let n : has s j ≡ false = not-true _ (and_true_right (has (word known (600 + i)) j) (not (has s j)) g) in
          b.joined s j refl (let w =
          o.1 in omega (arith, w, z.right_few)) (ap (λ (y : ℕ). has y j) re ∙ and_true_left (has (word known (600 + i)) j) (not (has s j)) g) n
          (after (s + 2 ^ j) (added_within (right_count known) s j few o.1 n)
          (and_true_right (has (word known (600 + i)) j && not (has s j)) (rest (s + 2 ^ j)) f))
      pick false p false q v = absurd (false≢true v)

  -- a row before is filled
  pub rows_turn : {can can' : List ℕ} {i t words row : ℕ} {stay : Bool} → CompletableFrom known can i → 0 < i → i < left_count known →
      t ≡ 4 * (i - 1) →
      words ≡ every_in known / 64 + 1 → row ≡ word known (600 + i) → stay ≡ not (eqb (right_labels known) 0) → FillsRow can t words row stay can' →
      CompletableFrom known can' (i - 1)
  unfolding bit_at
  rows_turn {can} {can'} {i} {t} {words} {row} {stay} c p h te we re se f =
      record { size = f.size ∙ c.size; bits = λ k s l q few e. go k s l q few e (ℕ_discrete k (i - 1)) }
    where
      go : (k s : ℕ) → i - 1 ≤ k → k < left_count known → s < 2 ^ right_count known → completes_from known (k + 1) s ≡ true → Dec (k ≡ i - 1) →
          bit_at can' k s ≡ true
      go k s l q few e (yes d) =
          let x : s / 64 < words = let v = z.every in omega (arith, we, v, few) in
          let y : t + 4 ≡ 4 * i = omega (arith, te, p) in
          let u : k + 1 ≡ i = omega (arith, d, p) in
          let w : 4 * k ≡ t = omega (arith, d, te) in
          ap (λ (v : ℕ). bit_from can' v s) w
          ∙ bit_before c h y re se few (f.filled (s / 64) x) (ap (λ (v : ℕ). completes_from known v s) (sym u) ∙ e)
      go k s l q few e (no d) =
          ap (λ (v : ℕ). has v (s % 64)) (f.kept (4 * k + s / 64) (omega (arith, te, l, d, p))) ∙ c.bits k s (omega (arith, l, d)) q few e

  -- the row of the last left term
  pub last_completable : {can can' : List ℕ} {t every : ℕ} {closed : Bool} → Ready known can → t ≡ 4 * (left_count known - 1) →
      every ≡ every_in known →
      closed ≡ eqb (left_labels known) 0 →
      EndsRow can t every closed can' → CompletableFrom known can' (left_count known - 1)
  unfolding completes bit_at
  last_completable {can} {can'} {t} {every} {closed} y te ee ce d =
      record {
        size =
            d.size ∙ y.size;
        bits = λ k s l q few e. go k s l q few (eqb (left_labels known) 0) refl
            (sym (ap (λ (rows : List ℕ). completes (right_count known) (left_labels known) (right_labels known) rows s)
            (rows_none (k + 1) (omega (arith, l, z.some)))) ∙ e);
      }
    where
      go : (k s : ℕ) → left_count known - 1 ≤ k → k < left_count known → s < 2 ^ right_count known → (b : Bool) → eqb (left_labels known) 0 ≡ b →
          (not b || eqb (s + 1) (2 ^ right_count known)) ≡ true → bit_at can' k s ≡ true
      go k s l q few true x e =
          let u : s + 1 ≡ 2 ^ right_count known = eqb-true (s + 1) (2 ^ right_count known) e in
          let v : s ≡ every = let g = z.every in omega (arith, u, g, ee) in
          let w : 4 * k ≡ t = omega (arith, te, l, q) in
          ap (λ (n : ℕ). bit_from can' n s) w ∙ ap (bit_from can' t) v ∙ d.whole (ce ∙ x)
      go k s l q few false x e =
          let w : 4 * k ≡ 4 * (left_count known - 1) = omega (arith, l, q) in
          ap (λ (n : ℕ). bit_from can' n s) w ∙ ap (λ (zs : List ℕ). bit_from zs (4 * (left_count known - 1)) s) (d.same (ce ∙ x))
          ∙ y.ends (eqb-false (left_labels known) 0 x) s (set_few s few)

  -- where both sides have labels, nothing is to be filled
  pub plans_all : {can : List ℕ} {stay closed : Bool} → Ready known can → stay ≡ not (eqb (right_labels known) 0) →
      closed ≡ eqb (left_labels known) 0 →
      (stay && not closed) ≡ true → Plans known can can true
  unfolding bit_at
  plans_all {can} {stay} {closed} y se ce t =
      record {
        ready = y;
        completable = record {
          size = y.size;
          bits = λ i s h few e. y.whole left right i s (omega (arith, h, z.left_few)) (set_few s few);
        };
        none = λ e. absurd (false≢true (sym e));
      }
    where
      left : left_labels known ≡ 0 → ⊥
      left = eqb-false (left_labels known) 0 (sym ce ∙ not-true closed (and_true_right stay (not closed) t))

      right : right_labels known ≡ 0 → ⊥
      right = eqb-false (right_labels known) 0 (not-true (eqb (right_labels known) 0) (sym se ∙ and_true_left stay (not closed) t))

  -- otherwise the first bit tells whether there may be a choice
  pub plans_rest : {can can₁ can' : List ℕ} {t every row w : ℕ} {stay closed : Bool} → Ready known can → stay ≡ not (eqb (right_labels known) 0) →
      closed ≡ eqb (left_labels known) 0 → (stay && not closed) ≡ false → t ≡ 4 * (left_count known - 1) → EndsRow can t every closed can₁ →
      FillsRows known can₁ can' → row ≡ word known (600 + 0) → SetsBefore can' 0 0 row 8 stay w → (r : Bool) → r ≡ eqb
      (w % 2) 1 → Plans known can can' r
  plans_rest {can} {can₁} {can'} {t} {every} {row} {w} {stay} {closed} y se ce n te d f re b r rr =
      record {
        ready = record {
          size = f.completable.size;
          ends = λ k s few.
              ap (λ (v : ℕ). has v (s % 64)) (f.last (4 * (left_count known - 1) + s / 64) (omega arith))
              ∙ ap (λ (zs : List ℕ). bit_from zs (4 * (left_count known - 1)) s) (d.same (ce ∙ ne_eqb (left_labels known) 0 k))
              ∙ y.ends k s few;
          whole = λ k l. absurd (false≢true (sym n ∙ labelled k l));
        };
        completable = record { size = f.completable.size; bits = λ i s h few e. f.completable.bits i s (omega arith) h few e };
        none = λ e. pick (completes_from known 0 0) refl e;
      }
    where
      labelled : (left_labels known ≡ 0 → ⊥) → (right_labels known ≡ 0 → ⊥) → (stay && not closed) ≡ true
      labelled k l = rw (se, ce, ne_eqb (left_labels known) 0 k, ne_eqb (right_labels known) 0 l) refl

      pick : (c : Bool) → completes_from known 0 0 ≡ c → r ≡ false → completes_from known 0 0 ≡ false
      pick true e q =
          let p : 0 < 2 ^ right_count known = let g = z.every in omega (arith, g) in
          let x : has w 0 ≡ true = bit_before f.completable z.some refl re se p b e in
          absurd (false≢true (sym q ∙ rr ∙ sym (has_first w) ∙ x))
      pick false e q = e

-- every set is in every row
module _ (known can : List ℕ) (e : can ≡ replicate 32 18446744073709551615) where
  -- there are 32 words
  full_size : length can ≡ 32
  full_size = ap length e ∙ length-replicate {A = ℕ} 32 18446744073709551615

  -- each bit is 1
  pub full_bit : (t s : ℕ) → t + 4 ≤ 32 → s < 256 → bit_from can t s ≡ true
  full_bit t s h l =
      ap (λ (v : ℕ). has v (s % 64))
      (ap (λ (zs : List ℕ). word zs (t + s / 64)) e ∙ get_or-replicate 32 (t + s / 64) 18446744073709551615 0 (omega (arith, h, l)))
      ∙ has_every 64 18446744073709551615 (s % 64) refl (omega arith)

  -- so it is ready
  pub full_ready : left_count known ≤ 8 → Ready known can
  full_ready h =
      record {
        size = full_size;
        ends = λ k s l. full_bit (4 * (left_count known - 1)) s (omega (arith, h)) l;
        whole = λ k q i s g l. full_bit (4 * i) s (omega (arith, g)) l;
      }

  -- and right, whatever the sets
  pub full_completable : left_count known ≤ 8 → right_count known ≤ 8 → Completable known can
  unfolding bit_at
  full_completable h g =
      record {
        size = full_size;
        bits = λ i s q few d. full_bit (4 * i) s (omega (arith, q, h)) (let f = sets_few (right_count known) g in omega (arith, f, few));
      }
