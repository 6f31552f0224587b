-- Bits of a word of sets: what a union and a shift under a mask have, and so a word of a row from the row after it.
-- By the laws of bit operations; that a mask has the bits it needs is computed. Assumes nothing.
use Prim.Native.Nat.{ℕ, zero, suc, ◌+◌, ◌*◌, ◌/◌, ◌%◌, ◌^◌, ◌<◌}
use mathlib.Core.Bool.{Bool, true, false, not, ◌&&◌, false≢true}
use mathlib.Core.List.{List}
use mathlib.Core.Path.{◌≡◌, refl, sym, ap, ◌∙◌}
use native.Mathlib.Decide.{dec_lt}
use native.Mathlib.Omega.{arith}
use borrow.Author.Tests.{eqb-true, eqb-false, eq-eqb, ne_eqb, lt-ltb}
use lib.Bits.{bit_and, bit_or, and_step, or_step, and_shr, or_shr}
use lib.Dec.{eqb, ltb}
use lib.Pow.{shr-shr}
use Rattle.table.specs.Layout.{word}
use Rattle.table.specs.Some.{some_below}
use Rattle.table.proofs.SomeLaws.{none_some}
use Rattle.branches.specs.Code.Ahead.{has}
use Rattle.branches.proofs.SetLaws.{has_first, has_above}
use Rattle.ahead.specs.Code.Plan.{WithSets, bit_from, SetsBefore}

-- the first bit of a union
or_odd : (x y : ℕ) → x % 2 ≡ 1 → bit_or x y % 2 ≡ 1
or_odd x y h =
    let e = or_step x y in
    omega (arith, e, h)

-- by either word
or_odd_right : (x y : ℕ) → y % 2 ≡ 1 → bit_or x y % 2 ≡ 1
or_odd_right x y h =
    let e = or_step x y in
    omega (arith, e, h)

-- the first bit of an intersection
and_odd : (x y : ℕ) → x % 2 ≡ 1 → y % 2 ≡ 1 → bit_and x y % 2 ≡ 1
and_odd x y h k =
    let e = and_step x y in
    omega (arith, e, h, k)

-- a union has the bits of the first word
pub or_left : (a b u : ℕ) → has a u ≡ true → has (bit_or a b) u ≡ true
unfolding has
or_left a b u h =
    eq-eqb (bit_or a b / 2 ^ u % 2) 1 (ap (λ (x : ℕ). x % 2) (or_shr a b u) ∙ or_odd (a / 2 ^ u) (b / 2 ^ u) (eqb-true (a / 2 ^ u % 2) 1 h))

-- also of the second
pub or_right : (a b u : ℕ) → has b u ≡ true → has (bit_or a b) u ≡ true
unfolding has
or_right a b u h =
    eq-eqb (bit_or a b / 2 ^ u % 2) 1 (ap (λ (x : ℕ). x % 2) (or_shr a b u) ∙ or_odd_right (a / 2 ^ u) (b / 2 ^ u) (eqb-true (b / 2 ^ u % 2) 1 h))

-- an intersection has the bits that both have
pub and_both : (a b u : ℕ) → has a u ≡ true → has b u ≡ true → has (bit_and a b) u ≡ true
unfolding has
and_both a b u h k =
    eq-eqb (bit_and a b / 2 ^ u % 2) 1
    (ap (λ (x : ℕ). x % 2) (and_shr a b u) ∙ and_odd (a / 2 ^ u) (b / 2 ^ u) (eqb-true (a / 2 ^ u % 2) 1 h) (eqb-true (b / 2 ^ u % 2) 1 k))

-- a shifted word has a bit where the word has it c places further
shifted_has : (w c u : ℕ) → has w (c + u) ≡ true → has (w / 2 ^ c) u ≡ true
unfolding has
shifted_has w c u h = ap (λ (x : ℕ). eqb (x % 2) 1) (shr-shr w c u) ∙ h

-- sets that may be put to others are
pub with_put : (sets more : ℕ) → (may : Bool) → may ≡ true → WithSets sets more may (bit_or sets more)
with_put sets more may e =
    record { kept = λ u h. or_left sets more u h; put = λ z u h. or_right sets more u h }

-- at first the sets of the row after it, if they stay
pub before_first : (can : List ℕ) (t x row w : ℕ) (stay : Bool) (r : ℕ) → w ≡ word can (t + x) → WithSets 0 w stay r → SetsBefore can t x row 0 stay r
before_first can t x row w stay r e p =
    record {
      stays = λ z s d h. p.put z (s % 64) (ap (λ (n : ℕ). has n (s % 64)) e ∙ ap (λ (n : ℕ). has (word can (t + n)) (s % 64)) (sym d) ∙ h);
      joined = λ s j d q. absurd (omega (arith, q));
    }

-- one right term more
module _ (can : List ℕ) (t x row j : ℕ) (stay : Bool) (sets more : ℕ) (may : Bool) (r : ℕ) (b : SetsBefore can t x row j stay sets)
    (p : WithSets sets more may r) where
  -- where its sets are put to the word, the word has what it adds
  pub before_next : ((s : ℕ) → s / 64 ≡ x → has s j ≡ false → has row j ≡ true → may ≡ true) →
      ((s : ℕ) → s / 64 ≡ x → has s j ≡ false → bit_from can t (s + 2 ^ j) ≡ true → has more (s % 64) ≡ true) → SetsBefore can t x row (suc j) stay r
  before_next f g =
      record { stays = λ z s d h. p.kept (s % 64) (b.stays z s d h); joined = λ s k d q. go s k d q (dec_lt k j) }
    where
      go : (s k : ℕ) → s / 64 ≡ x → k < suc j → Dec (k < j) → has row k ≡ true → has s k ≡ false → bit_from can t (s + 2 ^ k) ≡ true →
          has r (s % 64) ≡ true
      go s k d q (yes l) y n h = p.kept (s % 64) (b.joined s k d l y n h)
      go s k d q (no l) y n h =
          let e : k ≡ j = omega (arith, q, l) in
          let n₁ : has s j ≡ false = ap (has s) (sym e) ∙ n in
          p.put (f s d n₁ (ap (has row) (sym e) ∙ y)) (s % 64)
          (g s d n₁ (ap (λ (i : ℕ). bit_from can t (s + 2 ^ i)) (sym e) ∙ h))

  -- one of the first six: its place is in the same word, c bits further, and the mask has the sets without it
  before_low : (c w mask : ℕ) → w ≡ word can (t + x) → more ≡ bit_and (w / 2 ^ c) mask → (has row j ≡ true → may ≡ true) →
      ((s : ℕ) → has s j ≡ false → ((s + 2 ^ j) / 64 ≡ s / 64) × ((s + 2 ^ j) % 64 ≡ c + s % 64) × (has (s % 64) j ≡ false)) →
      ((u : ℕ) → u < 64 → has u j ≡ false → has mask u ≡ true) → SetsBefore can t x row (suc j) stay r
  before_low c w mask e m f g k =
      before_next (λ s d n. f)
      (λ s d n h.
      let z = g s n in
      let i : has w (c + s % 64) ≡ true = ap (λ (y : ℕ). has y (c + s % 64)) e ∙ ap (λ (y : ℕ). has (word can (t + y)) (c + s % 64)) (sym (z.0 ∙ d))
      ∙ ap (has (word can (t + (s + 2 ^ j) / 64))) (sym z.1) ∙ h in
      ap (λ (y : ℕ). has y (s % 64)) m ∙ and_both (w / 2 ^ c) mask (s % 64) (shifted_has w c (s % 64) i) (k (s % 64) (omega arith) z.2))

  -- one of the last two: its place is in another word
  before_high : (y : ℕ) → more ≡ word can y → ((s : ℕ) → s / 64 ≡ x → has s j ≡ false → has row j ≡ true → may ≡ true) →
      ((s : ℕ) → s / 64 ≡ x → has s j ≡ false → (t + (s + 2 ^ j) / 64 ≡ y) × ((s + 2 ^ j) % 64 ≡ s % 64)) → SetsBefore can t x row (suc j) stay r
  before_high y m f g =
      before_next f
      (λ s d n h.
      let z = g s d n in
      ap (λ (v : ℕ). has v (s % 64)) m ∙ ap (λ (v : ℕ). has (word can v) (s % 64)) (sym z.0) ∙ ap (has (word can (t + (s + 2 ^ j) / 64)))
      (sym z.1) ∙ h)

-- Sets without right term j that a mask lacks.
abbrev lacks : ℕ → ℕ → ℕ → Bool
lacks mask j u = not (has u j) && not (has mask u)

-- a mask that lacks none has each
mask_has : (mask j : ℕ) → some_below 64 (lacks mask j) ≡ false → (u : ℕ) → u < 64 → has u j ≡ false → has mask u ≡ true
mask_has mask j e u h n = pick (has u j) n (has mask u) (none_some (lacks mask j) 64 e u h)
  where
    pick : (a : Bool) → a ≡ false → (b : Bool) → (not a && not b) ≡ false → b ≡ true
    pick true d b z = absurd (false≢true (sym d))
    pick false d true z = refl
    pick false d false z = absurd (false≢true (sym z))

-- a bit that is 0
bit_nought : (s j c : ℕ) → c ≡ 2 ^ j → has s j ≡ false → s / c % 2 ≡ 0
unfolding has
bit_nought s j c e h =
    let n = eqb-false (s / 2 ^ j % 2) 1 h in
    let z : s / 2 ^ j % 2 ≡ 0 = omega (arith, n) in
    ap (λ (y : ℕ). s / y % 2) e ∙ z

-- the other way round
nought_bit : (s j c : ℕ) → c ≡ 2 ^ j → s / c % 2 ≡ 0 → has s j ≡ false
unfolding has
nought_bit s j c e h = ne_eqb (s / 2 ^ j % 2) 1 (λ z. let y : s / c % 2 ≡ 1 = ap (λ (y : ℕ). s / y % 2) e ∙ z in omega (arith, h, y))

-- each right term by itself
module _ (can : List ℕ) (t x row : ℕ) (stay : Bool) (sets more : ℕ) (may : Bool) (r w : ℕ) (e : w ≡ word can (t + x)) where
  -- the first
  pub before_0 : SetsBefore can t x row 0 stay sets → WithSets sets more may r → more ≡ bit_and (w / 2 ^ 1) 0x5555555555555555 →
      may ≡ eqb (row % 2) 1 → SetsBefore can t x row 1 stay r
  unfolding has some_below
  before_0 b p m f =
      before_low can t x row 0 stay sets more may r b p 1 w 0x5555555555555555 e m (λ z. f ∙ sym (has_first row) ∙ z)
      (λ s n. let z = bit_nought s 0 1 refl n in (omega (arith, z), omega (arith, z), nought_bit (s % 64) 0 1 refl (omega (arith, z))))
      (mask_has 0x5555555555555555 0 refl)

  -- the second
  pub before_1 : SetsBefore can t x row 1 stay sets → WithSets sets more may r → more ≡ bit_and (w / 2 ^ 2) 0x3333333333333333 →
      may ≡ eqb (row / 2 % 2) 1 → SetsBefore can t x row 2 stay r
  unfolding has some_below
  before_1 b p m f =
      before_low can t x row 1 stay sets more may r b p 2 w 0x3333333333333333 e m (λ z. f ∙ z)
      (λ s n. let z = bit_nought s 1 2 refl n in (omega (arith, z), omega (arith, z), nought_bit (s % 64) 1 2 refl (omega (arith, z))))
      (mask_has 0x3333333333333333 1 refl)

  -- the third
  pub before_2 : SetsBefore can t x row 2 stay sets → WithSets sets more may r → more ≡ bit_and (w / 2 ^ 4) 0x0f0f0f0f0f0f0f0f →
      may ≡ eqb (row / 4 % 2) 1 → SetsBefore can t x row 3 stay r
  unfolding has some_below
  before_2 b p m f =
      before_low can t x row 2 stay sets more may r b p 4 w 0x0f0f0f0f0f0f0f0f e m (λ z. f ∙ z)
      (λ s n. let z = bit_nought s 2 4 refl n in (omega (arith, z), omega (arith, z), nought_bit (s % 64) 2 4 refl (omega (arith, z))))
      (mask_has 0x0f0f0f0f0f0f0f0f 2 refl)

  -- the fourth
  pub before_3 : SetsBefore can t x row 3 stay sets → WithSets sets more may r → more ≡ bit_and (w / 2 ^ 8) 0x00ff00ff00ff00ff →
      may ≡ eqb (row / 8 % 2) 1 → SetsBefore can t x row 4 stay r
  unfolding has some_below
  before_3 b p m f =
      before_low can t x row 3 stay sets more may r b p 8 w 0x00ff00ff00ff00ff e m (λ z. f ∙ z)
      (λ s n. let z = bit_nought s 3 8 refl n in (omega (arith, z), omega (arith, z), nought_bit (s % 64) 3 8 refl (omega (arith, z))))
      (mask_has 0x00ff00ff00ff00ff 3 refl)

  -- the fifth
  pub before_4 : SetsBefore can t x row 4 stay sets → WithSets sets more may r → more ≡ bit_and (w / 2 ^ 16) 0x0000ffff0000ffff →
      may ≡ eqb (row / 16 % 2) 1 → SetsBefore can t x row 5 stay r
  unfolding has some_below
  before_4 b p m f =
      before_low can t x row 4 stay sets more may r b p 16 w 0x0000ffff0000ffff e m (λ z. f ∙ z)
      (λ s n. let z = bit_nought s 4 16 refl n in (omega (arith, z), omega (arith, z), nought_bit (s % 64) 4 16 refl (omega (arith, z))))
      (mask_has 0x0000ffff0000ffff 4 refl)

  -- the sixth
  pub before_5 : SetsBefore can t x row 5 stay sets → WithSets sets more may r → more ≡ bit_and (w / 2 ^ 32) 0x00000000ffffffff →
      may ≡ eqb (row / 32 % 2) 1 → SetsBefore can t x row 6 stay r
  unfolding has some_below
  before_5 b p m f =
      before_low can t x row 5 stay sets more may r b p 32 w 0x00000000ffffffff e m (λ z. f ∙ z)
      (λ s n. let z = bit_nought s 5 32 refl n in (omega (arith, z), omega (arith, z), nought_bit (s % 64) 5 32 refl (omega (arith, z))))
      (mask_has 0x00000000ffffffff 5 refl)

-- the word of a set with the seventh right term
pub or_one : (x : ℕ) → x < 4 → bit_or x 1 ≡ x / 2 * 2 + 1
or_one zero h = refl
or_one (suc zero) h = refl
or_one (suc (suc zero)) h = refl
or_one (suc (suc (suc zero))) h = refl
or_one (suc (suc (suc (suc x)))) h = absurd (omega (arith, h))

-- and with the eighth
pub or_two : (x : ℕ) → x < 4 → bit_or x 2 ≡ x % 2 + 2
or_two zero h = refl
or_two (suc zero) h = refl
or_two (suc (suc zero)) h = refl
or_two (suc (suc (suc zero))) h = refl
or_two (suc (suc (suc (suc x)))) h = absurd (omega (arith, h))

-- and the last two
module _ (can : List ℕ) (t x row : ℕ) (stay : Bool) (sets : ℕ) (may : Bool) (r : ℕ) (four : x < 4) where
  -- the seventh
  pub before_6 : SetsBefore can t x row 6 stay sets → WithSets sets (word can (t + bit_or x 1)) may r → may ≡ (eqb (row / 64 % 2) 1 && eqb (x % 2) 0) →
      SetsBefore can t x row 7 stay r
  unfolding has
  before_6 b p f =
      before_high can t x row 6 stay sets (word can (t + bit_or x 1)) may r b p (t + bit_or x 1) refl
      (λ s d n h. let z = bit_nought s 6 64 refl n in let y : x % 2 ≡ 0 = omega (arith, z, d) in f ∙ both _ _ h (eq-eqb (x % 2) 0 y))
      (λ s d n. let z = bit_nought s 6 64 refl n in let o = or_one x four in (omega (arith, d, z, o), omega arith))
    where
      both : (a b : Bool) → a ≡ true → b ≡ true → (a && b) ≡ true
      both a b u v = rw (u, v) refl

  -- the eighth
  pub before_7 : SetsBefore can t x row 7 stay sets → WithSets sets (word can (t + bit_or x 2)) may r → may ≡ (eqb (row / 128 % 2) 1 && ltb x 2) →
      SetsBefore can t x row 8 stay r
  unfolding has
  before_7 b p f =
      before_high can t x row 7 stay sets (word can (t + bit_or x 2)) may r b p (t + bit_or x 2) refl
      (λ s d n h. let z = bit_nought s 7 128 refl n in let y : x < 2 = omega (arith, z, d, four) in f ∙ both _ _ h (lt-ltb x 2 y))
      (λ s d n. let z = bit_nought s 7 128 refl n in let o = or_two x four in (omega (arith, d, z, o, four), omega arith))
    where
      both : (a b : Bool) → a ≡ true → b ≡ true → (a && b) ≡ true
      both a b u v = rw (u, v) refl

-- further right terms that the row does not have add nothing
pub before_end : (can : List ℕ) (t x row n : ℕ) (stay : Bool) (r : ℕ) → row < 2 ^ n → SetsBefore can t x row n stay r →
    SetsBefore can t x row 8 stay r
before_end can t x row n stay r l b =
    record { stays = b.stays; joined = λ s j d q y. go s j d y (dec_lt j n) }
  where
    go : (s j : ℕ) → s / 64 ≡ x → has row j ≡ true → Dec (j < n) → has s j ≡ false → bit_from can t (s + 2 ^ j) ≡ true → has r (s % 64) ≡ true
    go s j d y (yes h) = b.joined s j d h y
    go s j d y (no h) = absurd (false≢true (sym (has_above n row j l (omega (arith, h))) ∙ y))
