-- What digits pair and put, by the families `Lefts` and `Rights`: document 01's pairs, and its terms in each label; and every way to pair
-- and put has its digits.
-- By induction on the families. Assumes nothing.
use Prim.Native.Nat.{ℕ, suc, ◌+◌, ◌-◌, ◌<◌}
use mathlib.Core.List.{List, [], ◌∷◌, zip, zip_with, Memᴰ}
use mathlib.Core.Path.{◌≡◌, refl, sym, ap, ◌∙◌}
use native.Mathlib.Decide.{ℕ_discrete}
use native.Mathlib.Omega.{arith}
use lib.ListN.{length, drop}
use Rattle.table.specs.Layout.{word}
use Rattle.unification.proofs.ListLaws.{member_place}
use Rattle.multiset_unification.specs.Choice.{pairs, with_digit}
use Rattle.multiset_unification.proofs.BalanceLaws.{with_pair, without_pair}
use Rattle.multiset_unification.proofs.PutLaws.{with_digit_lem, without_digit}
use Rattle.algorithms.specs.Code.Placing.{Split, Placing, Lefts, Rights, none, chosen, left, pair, put}

module _ {rs fs : List ℕ} {l : ℕ} where
  -- what the digits of left terms pair and put: the terms are split,
  pub lefts_split : {F ds T S R qs : List ℕ} → Lefts rs l fs F ds T S R qs → Split F T R
  lefts_split none = none
  lefts_split (pair h r) = chosen (lefts_split r)
  lefts_split (put h r) = left (lefts_split r)

  -- those not paired are put in a label each,
  pub lefts_placing : {F ds T S R qs : List ℕ} → Lefts rs l fs F ds T S R qs → Placing l R qs
  lefts_placing none = none
  lefts_placing (pair h r) = lefts_placing r
  lefts_placing (put h r) = put h (lefts_placing r)

  -- those paired have a partner each,
  pub lefts_long : {F ds T S R qs : List ℕ} → Lefts rs l fs F ds T S R qs → length T ≡ length S
  lefts_long none = refl
  lefts_long (pair h r) = ap suc (lefts_long r)
  lefts_long (put h r) = lefts_long r

  -- the pairs are document 01's,
  pub lefts_pairs : {F ds T S R qs : List ℕ} → Lefts rs l fs F ds T S R qs → pairs F rs ds ≡ zip T S
  unfolding pairs zip zip_with
  lefts_pairs none = refl
  lefts_pairs (pair {a} {s} {F} {ds} h r) =
      let e : suc s - 1 ≡ s = omega arith in
      with_pair rs a F (suc s) ds (omega arith) ∙ ap (λ (i : ℕ). (a, word rs i) ∷ pairs F rs ds) e ∙ ap ((a, word rs s) ∷◌) (lefts_pairs r)
  lefts_pairs (put {a} {q} {F} {ds} h r) =
      without_pair rs a F (length rs + suc q) ds (omega arith) ∙ lefts_pairs r

  -- and so is what is put in each label,
  pub lefts_put : {F ds T S R qs : List ℕ} → Lefts rs l fs F ds T S R qs → (q : ℕ) → with_digit (length rs + suc q) F ds ≡ with_digit q R qs
  unfolding with_digit
  lefts_put none q = refl
  lefts_put (pair {a} {s} {F} {ds} h r) q =
      without_digit (length rs + suc q) (suc s) a F ds (λ e. omega (arith, e)) ∙ lefts_put r q
  lefts_put (put {a} {q = o} {F} {ds} {R = R} {qs = qs} h r) q = pick (ℕ_discrete o q) (lefts_put r q)
    where
      pick : Dec (o ≡ q) → with_digit (length rs + suc q) F ds ≡ with_digit q R qs →
          with_digit (length rs + suc q) (a ∷ F) ((length rs + suc o) ∷ ds) ≡ with_digit q (a ∷ R) (o ∷ qs)
      pick (yes e) i = rw e (with_digit_lem (length rs + suc q) a F ds ∙ ap (a ∷◌) i ∙ sym (with_digit_lem q a R qs))
      pick (no n) i =
          without_digit (length rs + suc q) (length rs + suc o) a F ds (λ e. n (omega (arith, e))) ∙ i ∙ sym (without_digit q o a R qs n)

  -- and the other digits follow
  pub lefts_rest : {F ds T S R qs : List ℕ} → Lefts rs l fs F ds T S R qs → drop (length F) ds ≡ fs
  lefts_rest none = refl
  lefts_rest (pair h r) = lefts_rest r
  lefts_rest (put h r) = lefts_rest r

-- any way to pair and put left terms has its digits
pub split_lefts : (rs : List ℕ) (l : ℕ) (fs : List ℕ) {F T R : List ℕ} → Split F T R → (S qs : List ℕ) → length T ≡ length S →
    ((x : ℕ) → Memᴰ x S → Memᴰ x rs) → Placing l R qs → (ds : List ℕ) × Lefts rs l fs F ds T S R qs
split_lefts rs l fs (left {a = a} {F = F} {T = T} {R = R} c) S [] e h p = elim p [ ]
split_lefts rs l fs none [] qs e h none = (fs, none)
split_lefts rs l fs none (s ∷ S) qs e h p = absurd (omega (arith, e))
split_lefts rs l fs (chosen c) [] qs e h p = absurd (omega (arith, e))
split_lefts rs l fs (chosen {a} {F} {T} {R} c) (x ∷ S) qs e h p =
    go (split_lefts rs l fs c S qs (omega (arith, e)) (λ y m. h y (Memᴰ.tail m)) p) (member_place rs x (h x (Memᴰ.head refl)))
  where
    go : (ds : List ℕ) × Lefts rs l fs F ds T S R qs → (s : ℕ) × (s < length rs) × (x ≡ word rs s) → (ds : List ℕ) ×
        Lefts rs l fs (a ∷ F) ds (a ∷ T) (x ∷ S) R qs
    go (ds, r) (s, b, w) = (suc s ∷ ds, rw w (pair b r))
split_lefts rs l fs (left c) S (q ∷ qs) e h (put b p) =
    let i = split_lefts rs l fs c S qs e h p in
    ((length rs + suc q) ∷ i.0, put b i.1)

-- the same of right terms
pub rights_split : {k : ℕ} {G fs S R ps : List ℕ} → Rights k G fs S R ps → Split G S R
rights_split none = none
rights_split (pair r) = chosen (rights_split r)
rights_split (put h r) = left (rights_split r)

pub rights_placing : {k : ℕ} {G fs S R ps : List ℕ} → Rights k G fs S R ps → Placing k R ps
rights_placing none = none
rights_placing (pair r) = rights_placing r
rights_placing (put h r) = put h (rights_placing r)

pub rights_put : {k : ℕ} {G fs S R ps : List ℕ} → Rights k G fs S R ps → (p : ℕ) → with_digit (suc p) G fs ≡ with_digit p R ps
unfolding with_digit
rights_put none p = refl
rights_put (pair {b} {G} {fs} r) p = without_digit (suc p) 0 b G fs (λ e. omega (arith, e)) ∙ rights_put r p
rights_put (put {b} {p = o} {G} {fs} {R = R} {ps = ps} h r) p = pick (ℕ_discrete o p) (rights_put r p)
  where
    pick : Dec (o ≡ p) → with_digit (suc p) G fs ≡ with_digit p R ps → with_digit (suc p) (b ∷ G) (suc o ∷ fs) ≡ with_digit p (b ∷ R) (o ∷ ps)
    pick (yes e) i = rw e (with_digit_lem (suc p) b G fs ∙ ap (b ∷◌) i ∙ sym (with_digit_lem p b R ps))
    pick (no n) i = without_digit (suc p) (suc o) b G fs (λ e. n (omega (arith, e))) ∙ i ∙ sym (without_digit p o b R ps n)

pub split_rights : (k : ℕ) {G S R : List ℕ} → Split G S R → (ps : List ℕ) → Placing k R ps → (fs : List ℕ) × Rights k G fs S R ps
split_rights k none [] none = ([], none)
split_rights k none (o ∷ ps) p = elim p [ ]
split_rights k (left c) [] p = elim p [ ]
split_rights k (chosen c) ps p = let i = split_rights k c ps p in (0 ∷ i.0, pair i.1)
split_rights k (left c) (o ∷ ps) (put b p) = let i = split_rights k c ps p in (suc o ∷ i.0, put b i.1)
