-- Where the two sides are equal under the values, some choice accounts for it: each left term is found among the right terms that are not
-- paired, or in a right label; then each right term that is left over is found in a left label. What remains in the labels are the rests.
-- By induction on the terms. Assumes nothing.
use Prim.Native.Nat.{ℕ, suc, ◌+◌, ◌-◌, ◌<◌}
use mathlib.Core.Bool.{Bool, true, false, false≢true}
use mathlib.Core.List.Memᴰ
use mathlib.Core.List.{List, [], ◌∷◌, map, Memᴰ}
use mathlib.Core.Logic.{◌⊎◌, inl, inr}
use mathlib.Core.Path.{◌≡◌, refl, sym, ap, ◌∙◌}
use native.Mathlib.Decide.{dec_lt}
use native.Mathlib.Omega.{arith}
use lib.ListN.{length, drop}
use Rattle.table.specs.Layout.{word}
use Rattle.terms.specs.Term.{Term}
use Rattle.terms.specs.Multiset.{occurrences}
use Rattle.terms.proofs.MultisetLaws.{occurrences_append, occurs_member, occurs_once}
use Rattle.multiset_unification.specs.Choice.{IsChoice, pairs, with_digit, in_left, in_right}
use Rattle.multiset_unification.specs.Instance.{Filled}
use Rattle.multiset_unification.specs.Computed.Choices.{among}
use Rattle.multiset_unification.proofs.DigitLaws.{IsRights, none, paired, placed, IsLefts, last, next, choice_digits}
use Rattle.multiset_unification.proofs.ChoiceLaws.{among_member}
use Rattle.multiset_unification.proofs.CountLaws.{total, places_count, in_labels}
use Rattle.multiset_unification.proofs.UnusedLaws.{unused, unused_all, unused_kept, unused_taken, unused_place}
use Rattle.multiset_unification.proofs.BalanceLaws.{left_digit, right_digit, with_pair, without_pair}
use Rattle.multiset_unification.proofs.FilledLaws.{filled}
use Rattle.multiset_unification.proofs.TakenLaws.{TakenOut, take_out, taken_count, Holds, holds_on, holds_back}

-- How often a term occurs in the lists at k places.
abbrev count : Term → ℕ → (ℕ → List Term) → ℕ
count t k f = total k (λ p. occurrences t (f p))

module _ (v : ℕ → Term) where
  -- Digits for the right terms from place j on, and what remains in the left labels: as often as `others` says.
  record RightsCovered (k : ℕ) (used : List ℕ) (j : ℕ) (rs : List ℕ) (A : ℕ → List Term) (others : Term → ℕ) : Type 0 where
    digits : List ℕ
    are : IsRights k used j (length rs) digits
    rest : ℕ → List Term
    holds : Holds left_digit v k A rs digits rest
    remain : (t : Term) → count t k rest ≡ others t

  rights_covered : (k : ℕ) (used : List ℕ) (j : ℕ) (rs : List ℕ) (A : ℕ → List Term) (others : Term → ℕ) →
      ((t : Term) → count t k A ≡ occurrences t (map v (unused j used rs)) + others t) → RightsCovered k used j rs A others
  unfolding unused with_digit occurrences
  rights_covered k used j [] A others h =
      record {
        digits = [];
        are = none;
        rest = A;
        holds = λ p b t. refl;
        remain = λ t. h t ∙ omega arith;
      }
  rights_covered k used j (r ∷ rs) A others h = pick (among (suc j) used) refl (λ B g. rights_covered k used (suc j) rs B others g)
    where
      Later : (ℕ → List Term) → Type 0
      Later B = RightsCovered k used (suc j) rs B others

      pick : (b : Bool) → among (suc j) used ≡ b →
          ((B : ℕ → List Term) → ((t : Term) → count t k B ≡ occurrences t (map v (unused (suc j) used rs)) + others t) → Later B) →
          RightsCovered k used j (r ∷ rs) A others
      pick true e f = go (f A (λ t. rw e at (h t)))
        where
          go : Later A → RightsCovered k used j (r ∷ rs) A others
          go c =
              record {
                digits = 0 ∷ c.digits;
                are = paired ((among_member (suc j) used).0 e) c.are;
                rest = c.rest;
                holds = holds_on left_digit v k A c.rest 0 r rs c.digits (λ p b q. absurd (omega (arith, q))) c.holds;
                remain = c.remain;
              }
      pick false e f = go (take_out k A (v r) (omega (arith, now (v r), occurs_once (v r)))) (λ B. f B)
        where
          now : (t : Term) → count t k A ≡ occurrences t (v r ∷ []) + occurrences t (map v (unused (suc j) used rs)) + others t
          now t =
              let a : count t k A ≡ occurrences t (v r ∷ map v (unused (suc j) used rs)) + others t = rw e at (h t) in
              let b = occurrences_append t (v r ∷ []) (map v (unused (suc j) used rs)) in
              omega (arith, a, b)

          go : (o : TakenOut k A (v r)) → ((B : ℕ → List Term) →
              ((t : Term) → count t k B ≡ occurrences t (map v (unused (suc j) used rs)) + others t) → Later B) →
              RightsCovered k used j (r ∷ rs) A others
          go o g = back (g o.rest (λ t. omega (arith, now t, taken_count k A (v r) o t)))
            where
              out : Memᴰ (suc j) used → ⊥
              out m = false≢true (sym e ∙ (among_member (suc j) used).1 m)

              back : Later o.rest → RightsCovered k used j (r ∷ rs) A others
              back c =
                  record {
                    digits = suc o.place ∷ c.digits;
                    are = placed {d = suc o.place} out (omega arith) (omega (arith, o.below)) c.are;
                    rest = c.rest;
                    holds = holds_back left_digit v k (λ p q w. omega (arith, w)) A c.rest r o rs c.digits c.holds;
                    remain = c.remain;
                  }

  -- Digits for the left terms to come and for all right terms, pairs that are equal, and the rests of all labels.
  record Covered (m k l : ℕ) (rs used ls : List ℕ) (A B : ℕ → List Term) : Type 0 where
    pub digits : List ℕ
    pub are : IsLefts m k l used (length ls) digits
    pub equal_pairs : (a b : ℕ) → Memᴰ (a, b) (pairs ls rs digits) → v a ≡ v b
    pub left_rest : ℕ → List Term
    pub right_rest : ℕ → List Term
    pub in_left_lem : Holds left_digit v k A rs (drop (length ls) digits) left_rest
    pub in_right_lem : Holds (right_digit m) v l B ls digits right_rest
    pub remain : (t : Term) → count t k left_rest ≡ count t l right_rest

  module _ (m k l : ℕ) (rs : List ℕ) (long : length rs ≡ m) where
    -- sides that are equal under the values are covered by digits
    covered : (used ls : List ℕ) (A B : ℕ → List Term) →
        ((t : Term) → occurrences t (map v ls) + count t k A ≡ occurrences t (map v (unused 0 used rs)) + count t l B) → Covered m k l rs used ls A B
    unfolding with_digit occurrences pairs
    covered used [] A B h = go (rights_covered k used 0 rs A (λ t. count t l B) (λ t. let e = h t in omega (arith, e)))
      where
        go : RightsCovered k used 0 rs A (λ t. count t l B) → Covered m k l rs used [] A B
        go c =
            record {
              digits = c.digits;
              are = last (rw long at c.are);
              equal_pairs = λ a b n. absurd (Memᴰ.not-nil n);
              left_rest = c.rest;
              right_rest = B;
              in_left_lem = c.holds;
              in_right_lem = λ p b t. refl;
              remain = c.remain;
            }
    covered used (a ∷ ls) A B h = choose (dec_lt 0 (occurrences (v a) (map v (unused 0 used rs)))) (λ d C g. covered (d ∷ used) ls A C g)
      where
        Later : ℕ → (ℕ → List Term) → Type 0
        Later d C = Covered m k l rs (d ∷ used) ls A C

        Hypothesis : ℕ → (ℕ → List Term) → Type 0
        Hypothesis d C = (t : Term) → occurrences t (map v ls) + count t k A ≡ occurrences t (map v (unused 0 (d ∷ used) rs)) + count t l C

        now : (t : Term) → occurrences t (v a ∷ []) + occurrences t (map v ls) + count t k A ≡ occurrences t (map v (unused 0 used rs)) + count t l B
        now t =
            let x = h t in
            let y = occurrences_append t (v a ∷ []) (map v ls) in
            omega (arith, x, y)

        choose : Dec (0 < occurrences (v a) (map v (unused 0 used rs))) → ((d : ℕ) (C : ℕ → List Term) → Hypothesis d C → Later d C) →
            Covered m k l rs used (a ∷ ls) A B
        choose (yes q) f = found (Memᴰ.of_map v (unused 0 used rs) ((occurs_member (v a) (map v (unused 0 used rs))).0 q))
          where
            found : (r : ℕ) × Memᴰ r (unused 0 used rs) × (v r ≡ v a) → Covered m k l rs used (a ∷ ls) A B
            found (r, n, e) = at (unused_place 0 used rs r n)
              where
                at : (i : ℕ) × (i < length rs) × (among (suc (0 + i)) used ≡ false) × (r ≡ word rs i) → Covered m k l rs used (a ∷ ls) A B
                at (i, b, o, w) = pair (f (suc i) B (λ t. omega (arith, now t, taken t, same t)))
                  where
                    place : suc (0 + i) ≡ suc i
                    place = omega arith

                    free : among (suc i) used ≡ false
                    free = rw place at o

                    taken : (t : Term) → occurrences t (map v (unused 0 used rs))
                        ≡ occurrences t (v (word rs i) ∷ []) + occurrences t (map v (unused 0 (suc i ∷ used) rs))
                    taken t = unused_taken v t 0 i (suc i) used rs b place free

                    equal : v a ≡ v (word rs i)
                    equal = sym e ∙ ap v w

                    same : (t : Term) → occurrences t (v a ∷ []) ≡ occurrences t (v (word rs i) ∷ [])
                    same t = ap (λ (x : Term). occurrences t (x ∷ [])) equal

                    pair : Later (suc i) B → Covered m k l rs used (a ∷ ls) A B
                    pair c =
                        record {
                          digits = suc i ∷ c.digits;
                          are = next {d = suc i} (omega arith) (omega arith) (λ x y. false≢true (sym free ∙ (among_member (suc i) used).1 y)) c.are;
                          equal_pairs = λ x y z. first x y (Memᴰ.cases_cons (rw (with_pair rs a ls (suc i) c.digits (omega arith)) at z));
                          left_rest = c.left_rest;
                          right_rest = c.right_rest;
                          in_left_lem = c.in_left_lem;
                          in_right_lem = holds_on (right_digit m) v l B c.right_rest (suc i) a ls c.digits (λ p x y. absurd (omega (arith, y)))
                              c.in_right_lem;
                          remain = c.remain;
                        }
                      where
                        first : (x y : ℕ) → (◌≡◌ {A = ℕ × ℕ} (x, y) (a, word rs (suc i - 1))) ⊎ Memᴰ (x, y) (pairs ls rs c.digits) → v x ≡ v y
                        first x y (inl z) =
                            let s : i ≡ suc i - 1 = omega arith in
                            ap (λ (p : ℕ × ℕ). v p.0) z ∙ equal ∙ ap (λ (n : ℕ). v (word rs n)) s ∙ sym (ap (λ (p : ℕ × ℕ). v p.1) z)
                        first x y (inr z) = c.equal_pairs x y z
        choose (no q) f = go (take_out l B (v a) (omega (arith, now (v a), occurs_once (v a)))) f
          where
            go : TakenOut l B (v a) → ((d : ℕ) (C : ℕ → List Term) → Hypothesis d C → Later d C) → Covered m k l rs used (a ∷ ls) A B
            go o g = back (g (m + suc o.place) o.rest (λ t. omega (arith, now t, taken_count l B (v a) o t, kept t)))
              where
                kept : (t : Term) → occurrences t (map v (unused 0 ((m + suc o.place) ∷ used) rs)) ≡ occurrences t (map v (unused 0 used rs))
                kept t = ap (λ (us : List ℕ). occurrences t (map v us)) (unused_kept 0 (m + suc o.place) used rs (λ i x y. absurd (omega (arith, y))))

                back : Later (m + suc o.place) o.rest → Covered m k l rs used (a ∷ ls) A B
                back c =
                    record {
                      digits = (m + suc o.place) ∷ c.digits;
                      are = next {d = m + suc o.place} (omega arith) (omega (arith, o.below))
                          (λ x (y : Memᴰ (m + suc o.place) used). absurd (omega (arith, x))) c.are;
                      equal_pairs = λ x y z. c.equal_pairs x y (rw (without_pair rs a ls (m + suc o.place) c.digits (omega arith)) at z);
                      left_rest = c.left_rest;
                      right_rest = c.right_rest;
                      in_left_lem = c.in_left_lem;
                      in_right_lem = holds_back (right_digit m) v l (λ p x y. omega (arith, y)) B c.right_rest a o ls c.digits c.in_right_lem;
                      remain = c.remain;
                    }

module _ (ls ks rs qs : List ℕ) (v : ℕ → Term) (labels : ℕ → List Term) where
  -- equal sides are filled by a choice whose pairs are equal
  pub equal_filled : ((t : Term) → occurrences t (map v ls) + in_labels labels t ks ≡ occurrences t (map v rs) + in_labels labels t qs) →
      (ds : List ℕ) × IsChoice (length ls) (length rs) (length ks) (length qs) ds × ((a b : ℕ) → Memᴰ (a, b) (pairs ls rs ds) → v a ≡ v b) ×
      Filled ls ks rs qs ds v labels
  unfolding in_left in_right
  equal_filled h = go (covered v (length rs) (length ks) (length qs) rs refl [] ls (λ p. labels (word ks p)) (λ q. labels (word qs q))
      (λ t. rw (unused_all 0 rs) (h t)))
    where
      go : Covered v (length rs) (length ks) (length qs) rs [] ls (λ p. labels (word ks p)) (λ q. labels (word qs q)) → (ds : List ℕ) ×
          IsChoice (length ls) (length rs) (length ks) (length qs) ds × ((a b : ℕ) → Memᴰ (a, b) (pairs ls rs ds) → v a ≡ v b) ×
          Filled ls ks rs qs ds v labels
      go c = (
        c.digits,
        (choice_digits (length ls) (length rs) (length ks) (length qs) c.digits).1 c.are,
        c.equal_pairs,
        filled ls ks rs qs c.digits v labels c.left_rest c.right_rest c.in_left_lem c.in_right_lem
            (λ t. places_count t (length ks) c.left_rest ∙ c.remain t ∙ sym (places_count t (length qs) c.right_rest)),
      )
