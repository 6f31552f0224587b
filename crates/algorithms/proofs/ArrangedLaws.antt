-- A choice is what its digits pair and put: left terms that are paired, with right terms in some order, and the others put in labels.
-- By induction on the families `Lefts` and `Rights`, and by places for the choice. Assumes nothing.
use Prim.Native.Nat.{ℕ, zero, suc, ◌+◌, ◌-◌, ◌<◌, ◌≤◌}
use mathlib.Core.List.Memᴰ
use mathlib.Core.List.{List, [], ◌∷◌, Memᴰ}
use mathlib.Core.Logic.{◌↔◌}
use mathlib.Core.Path.{◌≡◌, refl, sym, ap, ◌∙◌}
use native.Mathlib.Decide.{dec_lt}
use native.Mathlib.Omega.{arith}
use lib.ListN.{length, drop, length-drop}
use lib.Seq.{get_or-drop}
use Rattle.table.specs.Layout.{word}
use Rattle.unification.specs.Words.{end, before}
use Rattle.multiset_unification.specs.Choice.{IsChoice}
use Rattle.algorithms.specs.Code.Placing.{Distinct, SameMembers, Lefts, Rights, none, pair, put}
use Rattle.algorithms.proofs.DistinctLaws.{one_place}
use Rattle.algorithms.proofs.PlacingLaws.{lefts_rest}

-- One of n left terms is paired with x.
abbrev Partner : List ℕ → ℕ → List ℕ → ℕ → Type 0
Partner rs n ds x = (i : ℕ) × (s : ℕ) × (i < n) × (s < length rs) × (word ds i ≡ suc s) × (x ≡ word rs s)

-- One of the right terms that have digit 0 is x.
abbrev Nought : List ℕ → List ℕ → ℕ → Type 0
Nought G fs x = (j : ℕ) × (j < length G) × (word fs j ≡ 0) × (x ≡ word G j)

-- both stay so with one more term before
later_partner : (rs : List ℕ) (n d : ℕ) (ds : List ℕ) (x : ℕ) → Partner rs n ds x → Partner rs (suc n) (d ∷ ds) x
later_partner rs n d ds x (i, s, h, k, w, e) = (suc i, s, omega arith, k, w, e)

later_nought : (b d : ℕ) (G fs : List ℕ) (x : ℕ) → Nought G fs x → Nought (b ∷ G) (d ∷ fs) x
later_nought b d G fs x (j, h, w, e) = (suc j, omega arith, w, e)

module _ {rs fs : List ℕ} {l : ℕ} where
  partner_from : {F ds T S R qs : List ℕ} → Lefts rs l fs F ds T S R qs → (x : ℕ) → Memᴰ x S → Partner rs (length F) ds x
  partner_from none x m = absurd (Memᴰ.not-nil m)
  partner_from (pair {a} {s} h r) x (Memᴰ.head e) = (0, s, omega arith, h, refl, e)
  partner_from (pair {a} {s} {F} {ds} h r) x (Memᴰ.tail m) = later_partner rs (length F) (suc s) ds x (partner_from r x m)
  partner_from (put {a} {q} {F} {ds} h r) x m = later_partner rs (length F) (length rs + suc q) ds x (partner_from r x m)

  in_partners : {F ds T S R qs : List ℕ} → Lefts rs l fs F ds T S R qs → (i s : ℕ) → i < length F → s < length rs → word ds i ≡ suc s →
      Memᴰ (word rs s) S
  in_partners none i s h k w = absurd (omega arith)
  in_partners (pair {s = o} b r) zero s h k w = let e : s ≡ o = omega (arith, w) in Memᴰ.head (ap (word rs) e)
  in_partners (pair b r) (suc i) s h k w = Memᴰ.tail (in_partners r i s (omega arith) k w)
  in_partners (put b r) zero s h k w = absurd (omega (arith, w))
  in_partners (put b r) (suc i) s h k w = in_partners r i s (omega arith) k w

  -- the partners are the right terms that left digits count to
  partners : {F ds T S R qs : List ℕ} → Lefts rs l fs F ds T S R qs → (x : ℕ) → Memᴰ x S ↔ Partner rs (length F) ds x
  partners r x = ((λ m. partner_from r x m), (λ p. rw p.5 (in_partners r p.0 p.1 p.2 p.3 p.4)))

  -- they are distinct if no digit pairs twice
  partners_distinct : Distinct rs → {F ds T S R qs : List ℕ} → Lefts rs l fs F ds T S R qs →
      ((i i' : ℕ) → i < i' → i' < length F → word ds i ≡ word ds i' → length rs < word ds i) → Distinct S
  partners_distinct u none o = end
  partners_distinct u (pair {a} {s} {F} {ds} {S = S} h r) o =
      before (λ y m e. apart y e (partner_from r y m)) (partners_distinct u r (λ i i' b c e. o (suc i) (suc i') (omega arith) (omega arith) e))
    where
      apart : (y : ℕ) → word rs s ≡ y → Partner rs (length F) ds y → ⊥
      apart y e (i, t, b, c, w, f) =
          let z : s ≡ t = one_place rs u s t h c (e ∙ f) in
          let x : length rs < suc s = o 0 (suc i) (omega arith) (omega arith) (ap suc z ∙ sym w) in
          omega (arith, x, h)
  partners_distinct u (put h r) o = partners_distinct u r (λ i i' b c e. o (suc i) (suc i') (omega arith) (omega arith) e)

  -- and no digit pairs twice if they are
  distinct_partners : {F ds T S R qs : List ℕ} → Lefts rs l fs F ds T S R qs → Distinct S → (i i' : ℕ) → i < i' → i' < length F →
      word ds i ≡ word ds i' → length rs < word ds i
  distinct_partners none u i i' b c e = absurd (omega arith)
  distinct_partners (pair h r) u i zero b c e = absurd (omega arith)
  distinct_partners (pair {s = s} h r) (before v u) zero (suc i') b c e =
      absurd (v (word rs s) (in_partners r i' s (omega arith) h (sym e)) refl)
  distinct_partners (pair h r) (before v u) (suc i) (suc i') b c e = distinct_partners r u i i' (omega arith) (omega arith) e
  distinct_partners (put h r) u i zero b c e = absurd (omega arith)
  distinct_partners (put h r) u zero (suc i') b c e = omega arith
  distinct_partners (put h r) u (suc i) (suc i') b c e = distinct_partners r u i i' (omega arith) (omega arith) e

  -- left digits are in range
  lefts_range : {F ds T S R qs : List ℕ} → Lefts rs l fs F ds T S R qs → (i : ℕ) → i < length F → (0 < word ds i) × (word ds i ≤ length rs + l)
  lefts_range none i h = absurd (omega arith)
  lefts_range (pair b r) zero h = (omega arith, omega arith)
  lefts_range (pair b r) (suc i) h = lefts_range r i (omega arith)
  lefts_range (put b r) zero h = (omega arith, omega arith)
  lefts_range (put b r) (suc i) h = lefts_range r i (omega arith)

  -- there is one for each left term, and then come the others
  lefts_digits : {F ds T S R qs : List ℕ} → Lefts rs l fs F ds T S R qs → length ds ≡ length F + length fs
  lefts_digits none = omega arith
  lefts_digits (pair b r) = let e = lefts_digits r in omega (arith, e)
  lefts_digits (put b r) = let e = lefts_digits r in omega (arith, e)

  -- which stand at the places after
  lefts_after : {F ds T S R qs : List ℕ} → Lefts rs l fs F ds T S R qs → (j : ℕ) → word ds (length F + j) ≡ word fs j
  lefts_after {F} {ds} r j = sym (get_or-drop (length F) ds j 0) ∙ ap (λ (es : List ℕ). word es j) (lefts_rest r)

module _ {k : ℕ} where
  nought_from : {G fs S R ps : List ℕ} → Rights k G fs S R ps → (x : ℕ) → Memᴰ x S → Nought G fs x
  nought_from none x m = absurd (Memᴰ.not-nil m)
  nought_from (pair r) x (Memᴰ.head e) = (0, omega arith, refl, e)
  nought_from (pair {b} {G} {fs} r) x (Memᴰ.tail m) = later_nought b 0 G fs x (nought_from r x m)
  nought_from (put {b} {p} {G} {fs} h r) x m = later_nought b (suc p) G fs x (nought_from r x m)

  in_noughts : {G fs S R ps : List ℕ} → Rights k G fs S R ps → (j : ℕ) → j < length G → word fs j ≡ 0 → Memᴰ (word G j) S
  in_noughts none j h w = absurd (omega arith)
  in_noughts (pair r) zero h w = Memᴰ.head refl
  in_noughts (pair r) (suc j) h w = Memᴰ.tail (in_noughts r j (omega arith) w)
  in_noughts (put b r) zero h w = absurd (omega (arith, w))
  in_noughts (put b r) (suc j) h w = in_noughts r j (omega arith) w

  -- the right terms that are paired are those with digit 0
  noughts : {G fs S R ps : List ℕ} → Rights k G fs S R ps → (x : ℕ) → Memᴰ x S ↔ Nought G fs x
  noughts r x = ((λ m. nought_from r x m), (λ p. rw p.3 (in_noughts r p.0 p.1 p.2)))

  -- right digits are in range
  rights_range : {G fs S R ps : List ℕ} → Rights k G fs S R ps → (j : ℕ) → j < length G → word fs j ≤ k
  rights_range none j h = absurd (omega arith)
  rights_range (pair r) zero h = omega arith
  rights_range (pair r) (suc j) h = rights_range r j (omega arith)
  rights_range (put b r) zero h = omega arith
  rights_range (put b r) (suc j) h = rights_range r j (omega arith)

  -- and there is one for each right term
  rights_digits : {G fs S R ps : List ℕ} → Rights k G fs S R ps → length fs ≡ length G
  rights_digits none = refl
  rights_digits (pair r) = ap suc (rights_digits r)
  rights_digits (put b r) = ap suc (rights_digits r)

-- The digits pair and put left terms in some way.
abbrev SomeLefts : List ℕ → ℕ → List ℕ → List ℕ → List ℕ → Type 0
SomeLefts rs l fs F ds = (T : List ℕ) × (S : List ℕ) × (R : List ℕ) × (qs : List ℕ) × Lefts rs l fs F ds T S R qs

-- any digits in range do
to_lefts : (rs : List ℕ) (l : ℕ) (F ds : List ℕ) → length F ≤ length ds → ((i : ℕ) → i < length F → (0 < word ds i) × (word ds i ≤ length rs + l)) →
    SomeLefts rs l (drop (length F) ds) F ds
to_lefts rs l [] ds h g = ([], [], [], [], none)
to_lefts rs l (a ∷ F) [] h g = absurd (omega arith)
to_lefts rs l (a ∷ F) (d ∷ ds) h g =
    go (dec_lt (length rs) d) (g 0 (omega arith)) (to_lefts rs l F ds (omega arith) (λ i b. g (suc i) (omega arith)))
  where
    beyond : (q : ℕ) → d ≡ length rs + suc q → q < l → SomeLefts rs l (drop (length F) ds) F ds → SomeLefts rs l (drop (length F) ds) (a ∷ F) (d ∷ ds)
    beyond q e b (T, S, R, qs, r) = (T, S, a ∷ R, q ∷ qs, rw e (put b r))

    within : (s : ℕ) → d ≡ suc s → s < length rs → SomeLefts rs l (drop (length F) ds) F ds → SomeLefts rs l (drop (length F) ds) (a ∷ F) (d ∷ ds)
    within s e b (T, S, R, qs, r) = (a ∷ T, word rs s ∷ S, R, qs, rw e (pair b r))

    go : Dec (length rs < d) → (0 < d) × (d ≤ length rs + l) → SomeLefts rs l (drop (length F) ds) F ds →
        SomeLefts rs l (drop (length F) ds) (a ∷ F) (d ∷ ds)
    go (yes b) (p, c) t = beyond (d - length rs - 1) (omega arith) (omega arith) t
    go (no b) (p, c) t = within (d - 1) (omega arith) (omega arith) t

-- The digits pair and put right terms in some way.
abbrev SomeRights : ℕ → List ℕ → List ℕ → Type 0
SomeRights k G fs = (P : List ℕ) × (Q : List ℕ) × (ps : List ℕ) × Rights k G fs P Q ps

-- any digits in range do
to_rights : (k : ℕ) (G fs : List ℕ) → length fs ≡ length G → ((j : ℕ) → j < length G → word fs j ≤ k) → SomeRights k G fs
to_rights k [] [] h g = ([], [], [], none)
to_rights k [] (d ∷ fs) h g = absurd (omega arith)
to_rights k (b ∷ G) [] h g = absurd (omega arith)
to_rights k (b ∷ G) (d ∷ fs) h g = go d (g 0 (omega arith)) (to_rights k G fs (omega arith) (λ j c. g (suc j) (omega arith)))
  where
    go : (e : ℕ) → e ≤ k → SomeRights k G fs → SomeRights k (b ∷ G) (e ∷ fs)
    go zero c (P, Q, ps, r) = (b ∷ P, Q, ps, pair r)
    go (suc p) c (P, Q, ps, r) = (P, b ∷ Q, p ∷ ps, put {p = p} (omega arith) r)

-- A choice by what it pairs and puts: left terms T with right terms S, in the order of T, which are the right terms P in some order. The
-- left terms R go in right labels qs, the right terms Q in left labels ps; fs are the right digits.
pub record Arranged (ls rs : List ℕ) (k l : ℕ) (ds : List ℕ) : Type 0 where
  pub T : List ℕ
  pub S : List ℕ
  pub R : List ℕ
  pub qs : List ℕ
  pub fs : List ℕ
  pub P : List ℕ
  pub Q : List ℕ
  pub ps : List ℕ
  pub lefts : Lefts rs l fs ls ds T S R qs
  pub rights : Rights k rs fs P Q ps
  pub once : Distinct S
  pub same : SameMembers S P

-- every choice is so arranged
pub choice_arranged : (ls rs : List ℕ) (k l : ℕ) (ds : List ℕ) → Distinct rs → IsChoice (length ls) (length rs) k l ds → Arranged ls rs k l ds
choice_arranged ls rs k l ds u c =
    let n = c.long in
    let e : length (drop (length ls) ds) ≡ length rs = (let z = length-drop (length ls) ds in omega (arith, n, z)) in
    go (to_lefts rs l ls ds (omega (arith, n)) c.left_digits)
    (to_rights k rs (drop (length ls) ds) e (λ j b. rw (get_or-drop (length ls) ds j 0) (c.right_digits j b)))
  where
    after : (j : ℕ) → word ds (length ls + j) ≡ word (drop (length ls) ds) j
    after j = sym (get_or-drop (length ls) ds j 0)

    to_nought : (x : ℕ) → Partner rs (length ls) ds x → Nought rs (drop (length ls) ds) x
    to_nought x (i, s, h, b, w, e) = (s, b, sym (after s) ∙ (c.paired s b).1 (i, h, w), e)

    to_partner : (x : ℕ) → Nought rs (drop (length ls) ds) x → Partner rs (length ls) ds x
    to_partner x (j, b, w, e) = let p = (c.paired j b).0 (after j ∙ w) in (p.0, j, p.1, b, p.2, e)

    go : SomeLefts rs l (drop (length ls) ds) ls ds → SomeRights k rs (drop (length ls) ds) → Arranged ls rs k l ds
    go (T, S, R, qs, p) (P, Q, ps, r) =
        record {
          T = T;
          S = S;
          R = R;
          qs = qs;
          fs = drop (length ls) ds;
          P = P;
          Q = Q;
          ps = ps;
          lefts = p;
          rights = r;
          once = partners_distinct u p c.once;
          same = λ x. ((λ m. (noughts r x).1 (to_nought x ((partners p x).0 m))), (λ m. (partners p x).1 (to_partner x ((noughts r x).0 m))));
        }

-- and whatever is so arranged is a choice
pub arranged_choice : (ls rs : List ℕ) (k l : ℕ) (ds : List ℕ) → Distinct rs → Arranged ls rs k l ds → IsChoice (length ls) (length rs) k l ds
arranged_choice ls rs k l ds u a =
    record {
      long = let x = lefts_digits a.lefts in let y = rights_digits a.rights in omega (arith, x, y);
      left_digits = lefts_range a.lefts;
      right_digits = λ j b. rw (lefts_after a.lefts j) (rights_range a.rights j b);
      once = distinct_partners a.lefts a.once;
      paired = λ j b. (there j b, back_to j b);
    }
  where
    there : (j : ℕ) → j < length rs → word ds (length ls + j) ≡ 0 → (i : ℕ) × (i < length ls) × (word ds i ≡ suc j)
    there j b w =
        let m = in_noughts a.rights j b (sym (lefts_after a.lefts j) ∙ w) in
        let p = partner_from a.lefts (word rs j) ((a.same (word rs j)).1 m) in
        let e : j ≡ p.1 = one_place rs u j p.1 b p.3 p.5 in
        (p.0, p.2, p.4 ∙ ap suc (sym e))

    back_to : (j : ℕ) → j < length rs → (i : ℕ) × (i < length ls) × (word ds i ≡ suc j) → word ds (length ls + j) ≡ 0
    back_to j b (i, h, w) =
        let m = in_partners a.lefts i j h b w in
        let p = nought_from a.rights (word rs j) ((a.same (word rs j)).0 m) in
        let e : j ≡ p.0 = one_place rs u j p.0 b p.1 p.3 in
        lefts_after a.lefts j ∙ ap (word a.fs) e ∙ p.2
