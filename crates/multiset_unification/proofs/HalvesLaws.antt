-- All halves at once: their choices, pairs and sides are those of each half, one after the other, and what holds of a half holds of all.
-- By induction on the halves: a choice of the first, and then one of the others. Assumes nothing.
use Prim.Native.Nat.{ℕ}
use mathlib.Core.List.Memᴰ
use mathlib.Core.List.{List, [], ◌∷◌, ◌++◌, map, Memᴰ}
use mathlib.Core.Logic.{◌⊎◌, inl, inr, ◌↔◌}
use mathlib.Core.Path.{◌≡◌, refl, sym, ap, ◌∙◌}
use native.Mathlib.Omega.{arith}
use lib.ListN.{length, take, drop, length-append, length-drop, take-append-drop}
use lib.Seq.{take_at, drop_at}
use Rattle.terms.specs.Term.{Term}
use Rattle.unification.specs.Node.{Node}
use Rattle.unification.specs.Unifier.{value}
use Rattle.unification.specs.Words.{Rising, end, before}
use Rattle.unification.proofs.FlatLaws.{in_flat}
use Rattle.unification.proofs.ListLaws.{length_none}
use Rattle.unification.proofs.RisingLaws.{rising_map, rising_flat}
use Rattle.multiset_unification.specs.Choice.{Before, here, later}
use Rattle.multiset_unification.specs.Problem.{Half, Problem}
use Rattle.multiset_unification.specs.Entry.{HalfChoice, half_pairs, half_digits, digit_count, shares, Choice, pairs_of}
use Rattle.multiset_unification.specs.Assignment.{Assignment, Balanced}
use Rattle.multiset_unification.specs.Instance.{HalfFilled}
use Rattle.multiset_unification.specs.Computed.Listing.{half_choices, cross, halves_choices}
use Rattle.multiset_unification.specs.Code.Posed.{HalfPosed}
use Rattle.multiset_unification.proofs.HalfLaws.{half_choices_lem, half_rise, EqualPairs, balanced_filled}

-- the first half has the first digits, the others the rest
pub shares_first : (h : Half) (hs : List Half) (ds es : List ℕ) → length ds ≡ half_digits h → shares (h ∷ hs) (ds ++ es) ≡ (h, ds) ∷ shares hs es
unfolding shares
shares_first h hs ds es e =
    ap (λ (xs : List ℕ). (h, xs) ∷ shares hs (drop (half_digits h) (ds ++ es))) (take_at ds es (half_digits h) e)
    ∙ ap (λ (xs : List ℕ). (h, ds) ∷ shares hs xs) (drop_at ds es (half_digits h) e)

-- every half has a share of the digits
pub share_of : (hs : List Half) (ds : List ℕ) (h : Half) → Memᴰ h hs → (es : List ℕ) × Memᴰ (h, es) (shares hs ds)
unfolding shares
share_of [] ds h x = elim x [ ]
share_of (g ∷ hs) ds h (Memᴰ.head e) =
    (take (half_digits g) ds, Memᴰ.head (ap (λ (x : Half). (x, take (half_digits g) ds)) e))
share_of (g ∷ hs) ds h (Memᴰ.tail m) = let r = share_of hs (drop (half_digits g) ds) h m in (r.0, Memᴰ.tail r.1)

-- and every share is that of a half
pub share_half : (hs : List Half) (ds : List ℕ) (h : Half) (es : List ℕ) → Memᴰ (h, es) (shares hs ds) → Memᴰ h hs
unfolding shares
share_half [] ds h es m = absurd (Memᴰ.not-nil m)
share_half (g ∷ hs) ds h es (Memᴰ.head e) = Memᴰ.head (ap (λ (s : Half × List ℕ). s.0) e)
share_half (g ∷ hs) ds h es (Memᴰ.tail m) = Memᴰ.tail (share_half hs (drop (half_digits g) ds) h es m)

-- It holds of each half with its digits.
abbrev pub EachShare : (Half → List ℕ → Type 0) → List Half → List ℕ → Type 0
EachShare P hs ds = (h : Half) (es : List ℕ) → Memᴰ (h, es) (shares hs ds) → P h es

module _ (P : Half → List ℕ → Type 0) where
  -- of no half
  pub each_none : EachShare P [] []
  unfolding shares
  each_none h es m = absurd (Memᴰ.not-nil m)

  -- of the first and of the others
  pub each_then : (h : Half) (hs : List Half) (ds es : List ℕ) → length ds ≡ half_digits h → P h ds → EachShare P hs es →
      EachShare P (h ∷ hs) (ds ++ es)
  each_then h hs ds es e p r g fs m = go (Memᴰ.cases_cons (rw (shares_first h hs ds es e) at m))
    where
      go : (◌≡◌ {A = Half × List ℕ} (g, fs) (h, ds)) ⊎ Memᴰ (g, fs) (shares hs es) → P g fs
      go (inl q) =
          let x : g ≡ h = ap (λ (s : Half × List ℕ). s.0) q in
          let y : fs ≡ ds = ap (λ (s : Half × List ℕ). s.1) q in
          rw (x, y) p
      go (inr n) = r g fs n

-- A string of the first list, followed by one of the second.
abbrev Crossed : List (List ℕ) → List (List ℕ) → List ℕ → Type 0
Crossed dss ess fs = (ds : List ℕ) × (es : List ℕ) × Memᴰ ds dss × Memᴰ es ess × (fs ≡ ds ++ es)

cross_from : (dss ess : List (List ℕ)) (fs : List ℕ) → Memᴰ fs (cross dss ess) → Crossed dss ess fs
unfolding cross
cross_from dss ess fs m =
    let s = (in_flat (λ ds. map (ds ++◌) ess) dss fs).0 m in
    let t = Memᴰ.of_map (s.0 ++◌) ess s.2 in
    (s.0, t.0, s.1, t.1, sym t.2)

in_cross : (dss ess : List (List ℕ)) (ds es : List ℕ) → Memᴰ ds dss → Memᴰ es ess → Memᴰ (ds ++ es) (cross dss ess)
unfolding cross
in_cross dss ess ds es m n = (in_flat (λ ds. map (ds ++◌) ess) dss (ds ++ es)).1 (ds, m, Memᴰ.map (ds ++◌) n)

-- what comes before stays so with digits behind
before_behind : {ds es : List ℕ} (xs ys : List ℕ) → Before ds es → Before (ds ++ xs) (es ++ ys)
before_behind xs ys (here h) = here h
before_behind xs ys (later b) = later (before_behind xs ys b)

-- and with the same digits in front
before_front : (ds : List ℕ) {xs ys : List ℕ} → Before xs ys → Before (ds ++ xs) (ds ++ ys)
before_front [] b = b
before_front (d ∷ ds) b = later (before_front ds b)

cross_rises : (dss ess : List (List ℕ)) → Rising Before dss → Rising Before ess → Rising Before (cross dss ess)
unfolding cross
cross_rises dss ess r s =
    rising_flat Before Before (λ ds. map (ds ++◌) ess) dss r
    (λ ds m. rising_map Before Before (ds ++◌) ess (λ x y k l b. before_front ds b) s)
    (λ x y k l b u v m n. further x y b u v (Memᴰ.of_map (x ++◌) ess m) (Memᴰ.of_map (y ++◌) ess n))
  where
    further : (x y : List ℕ) → Before x y → (u v : List ℕ) → (xs : List ℕ) × Memᴰ xs ess × (x ++ xs ≡ u) →
        (ys : List ℕ) × Memᴰ ys ess × (y ++ ys ≡ v) → Before u v
    further x y b u v (xs, m, p) (ys, n, q) = rw (← p, ← q) (before_behind xs ys b)

module _ (p : Problem) where
  -- the pairs of a problem's choice are those of each half
  pub pairs_each : (ds : List ℕ) (a b : ℕ) →
      Memᴰ (a, b) (pairs_of p ds) ↔ ((s : Half × List ℕ) × Memᴰ s (shares p.halves ds) × Memᴰ (a, b) (half_pairs s.0 s.1))
  unfolding pairs_of
  pairs_each ds a b = in_flat (λ s. half_pairs s.0 s.1) (shares p.halves ds) (a, b)

  -- so they are equal if those of each half are
  pub equal_pairs : (v : ℕ → Term) (ds : List ℕ) → EqualPairs v (pairs_of p ds) ↔ EachShare (λ h es. EqualPairs v (half_pairs h es)) p.halves ds
  equal_pairs v ds = (
    (λ q h es m a b n. q a b ((pairs_each ds a b).1 ((h, es), m, n))),
    (λ q a b n. let s = (pairs_each ds a b).0 n in q s.0.0 s.0.1 s.1 a b s.2),
  )

-- A choice whose pairs are equal under the values, and which fills the labels of each half.
pub record Fills (p : Problem) (v : ℕ → Term) (labels : ℕ → List Term) : Type 0 where
  pub digits : List ℕ
  pub choice : Choice p digits
  pub equal : EqualPairs v (pairs_of p digits)
  pub filled : EachShare (λ h es. HalfFilled h es v labels) p.halves digits

-- Problems of the same nodes, by their halves.
module _ (ns : List Node) where
  abbrev with_halves : List Half → Problem
  with_halves hs = record { nodes = ns; halves = hs }

  -- a choice of no half
  pub choice_none : Choice (with_halves []) []
  unfolding digit_count
  choice_none = record { long = refl; each = each_none HalfChoice }

  -- one of the first half and one of the others
  pub choice_then : (h : Half) (hs : List Half) (ds es : List ℕ) → HalfChoice h ds → Choice (with_halves hs) es →
      Choice (with_halves (h ∷ hs)) (ds ++ es)
  unfolding digit_count
  choice_then h hs ds es c d =
      record {
        long = let l = length-append ds es in let x = c.long in let y = d.long in omega (arith, l, x, y);
        each = each_then HalfChoice h hs ds es c.long c d.each;
      }

  -- and every choice is so made
  pub choice_parts : (h : Half) (hs : List Half) (ds : List ℕ) → Choice (with_halves (h ∷ hs)) ds →
      HalfChoice h (take (half_digits h) ds) × Choice (with_halves hs) (drop (half_digits h) ds)
  unfolding shares digit_count
  choice_parts h hs ds c = (
    c.each h (take (half_digits h) ds) (Memᴰ.head refl),
    record {
      long = let l = length-drop (half_digits h) ds in let x = c.long in omega (arith, l, x);
      each = λ g fs m. c.each g fs (Memᴰ.tail m);
    },
  )

  choices_from : (hs : List Half) (ds : List ℕ) → Memᴰ ds (halves_choices hs) → Choice (with_halves hs) ds
  unfolding halves_choices
  choices_from [] ds m = rw (Memᴰ.eq_of_singleton m) choice_none
  choices_from (h ∷ hs) ds m = go (cross_from (half_choices h) (halves_choices hs) ds m) (choices_from hs)
    where
      go : Crossed (half_choices h) (halves_choices hs) ds → ((es : List ℕ) → Memᴰ es (halves_choices hs) → Choice (with_halves hs) es) →
          Choice (with_halves (h ∷ hs)) ds
      go (xs, ys, p, q, e) r = rw e (choice_then h hs xs ys ((half_choices_lem h xs).0 p) (r ys q))

  in_choices : (hs : List Half) (ds : List ℕ) → Choice (with_halves hs) ds → Memᴰ ds (halves_choices hs)
  unfolding halves_choices digit_count
  in_choices [] ds c = Memᴰ.head (length_none ds c.long)
  in_choices (h ∷ hs) ds c =
      let p = choice_parts h hs ds c in
      rw
      (take-append-drop (half_digits h) ds) at (in_cross (half_choices h) (halves_choices hs) (take (half_digits h) ds) (drop (half_digits h) ds) ((half_choices_lem h (take (half_digits h) ds)).1 p.0) (in_choices hs (drop (half_digits h) ds) p.1))

  -- the list of choices holds exactly the choices of all halves
  pub halves_choices_lem : (hs : List Half) (ds : List ℕ) → Memᴰ ds (halves_choices hs) ↔ Choice (with_halves hs) ds
  halves_choices_lem hs ds = (choices_from hs ds, in_choices hs ds)

  -- equal sides of all halves are filled by a choice whose pairs are equal
  pub halves_filled : {n : ℕ} (hs : List Half) → ((h : Half) → Memᴰ h hs → HalfPosed n h) → (A : Assignment) →
      ((h : Half) → Memᴰ h hs → Balanced ns h A) → Fills (with_halves hs) (value ns A.variables) A.labels
  halves_filled [] g A b =
      record {
        digits = [];
        choice = choice_none;
        equal =
            (equal_pairs (with_halves []) (value ns A.variables) []).1
            (each_none (λ h es. EqualPairs (value ns A.variables) (half_pairs h es)));
        filled = each_none (λ h es. HalfFilled h es (value ns A.variables) A.labels);
      }
  halves_filled (h ∷ hs) g A b =
      go (balanced_filled h (g h (Memᴰ.head refl)) ns A (b h (Memᴰ.head refl)))
      (halves_filled hs (λ k m. g k (Memᴰ.tail m)) A (λ k m. b k (Memᴰ.tail m)))
    where
      v : ℕ → Term
      v = value ns A.variables

      go : (ds : List ℕ) × HalfChoice h ds × EqualPairs v (half_pairs h ds) × HalfFilled h ds v A.labels → Fills (with_halves hs) v A.labels →
          Fills (with_halves (h ∷ hs)) v A.labels
      go (ds, c, q, f) r =
          record {
            digits = ds ++ r.digits;
            choice = choice_then h hs ds r.digits c r.choice;
            equal =
                (equal_pairs (with_halves (h ∷ hs)) v (ds ++ r.digits)).1
                (each_then (λ k es. EqualPairs v (half_pairs k es)) h hs ds r.digits c.long q ((equal_pairs (with_halves hs) v r.digits).0 r.equal));
            filled = each_then (λ k es. HalfFilled k es v A.labels) h hs ds r.digits c.long f r.filled;
          }

-- the choices stand in strictly rising order of their digits
pub halves_rise : (hs : List Half) → Rising Before (halves_choices hs)
unfolding halves_choices
halves_rise [] = before (λ y m. absurd (Memᴰ.not-nil m)) end
halves_rise (h ∷ hs) = cross_rises (half_choices h) (halves_choices hs) (half_rise h) (halves_rise hs)
