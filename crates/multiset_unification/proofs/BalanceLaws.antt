-- A choice whose pairs are equal under the values balances: each left term is paired or in a right label, each right term is paired or in a
-- left label.
-- Digit by digit, counting the right terms that are not paired yet. Assumes nothing.
use Prim.Native.Nat.{ℕ, suc, ◌+◌, ◌-◌, ◌<◌, ◌≤◌}
use mathlib.Core.List.{List, [], ◌∷◌, map, Memᴰ}
use mathlib.Core.Path.{◌≡◌, refl, sym, ap, ◌∙◌}
use native.Mathlib.Decide.{dec_lt}
use native.Mathlib.Omega.{arith}
use borrow.Author.Tests.{le-leb, lt-leb}
use lib.ListN.{length, drop}
use Rattle.table.specs.Layout.{word}
use Rattle.terms.specs.Term.{Term}
use Rattle.terms.specs.Multiset.{occurrences}
use Rattle.terms.proofs.MultisetLaws.{occurrences_append}
use Rattle.multiset_unification.specs.Choice.{IsChoice, pairs, with_digit, in_left, in_right}
use Rattle.multiset_unification.specs.Instance.{Filled}
use Rattle.multiset_unification.proofs.DigitLaws.{IsRights, none, paired, placed, IsLefts, last, next, choice_digits}
use Rattle.multiset_unification.proofs.ChoiceLaws.{among_member, among_not}
use Rattle.multiset_unification.proofs.CountLaws.{total_none, places_count, total_add, in_labels}
use Rattle.multiset_unification.proofs.UnusedLaws.{unused, unused_all, unused_kept, unused_taken}
use Rattle.multiset_unification.proofs.PutLaws.{put, put_nowhere, put_once}

-- The digit of a left label, and of a right one, by its place.
abbrev pub left_digit : ℕ → ℕ
left_digit p = suc p

abbrev pub right_digit : ℕ → ℕ → ℕ
right_digit m q = m + suc q

-- no term, nothing put
nothing_put : (digit : ℕ → ℕ) (v : ℕ → Term) (t : Term) (k : ℕ) (ds : List ℕ) → put digit v t k [] ds ≡ 0
unfolding with_digit occurrences
nothing_put digit v t k ds = total_none k (λ p. occurrences t (map v (with_digit (digit p) [] ds))) (λ p h. refl)

-- a digit up to m pairs
pub with_pair : (rs : List ℕ) (a : ℕ) (ls : List ℕ) (d : ℕ) (ds : List ℕ) → d ≤ length rs →
    pairs (a ∷ ls) rs (d ∷ ds) ≡ (a, word rs (d - 1)) ∷ pairs ls rs ds
unfolding pairs
with_pair rs a ls d ds h = rw (le-leb d (length rs) h) refl

-- one above does not
pub without_pair : (rs : List ℕ) (a : ℕ) (ls : List ℕ) (d : ℕ) (ds : List ℕ) → length rs < d → pairs (a ∷ ls) rs (d ∷ ds) ≡ pairs ls rs ds
unfolding pairs
without_pair rs a ls d ds h = rw (lt-leb d (length rs) h) refl

module _ (v : ℕ → Term) (t : Term) where
  -- the right terms that are not paired are in left labels
  rights_balance : (k : ℕ) (used : List ℕ) {j n : ℕ} {ds : List ℕ} → IsRights k used j n ds → (rs : List ℕ) → length rs ≡ n →
      occurrences t (map v (unused j used rs)) ≡ put left_digit v t k rs ds
  unfolding unused occurrences
  rights_balance k used none [] e = sym (nothing_put left_digit v t k [])
  rights_balance k used none (r ∷ rs) e = absurd (omega arith)
  rights_balance k used (paired m s) [] e = absurd (omega arith)
  rights_balance k used (paired {j} {ds = ds} m s) (r ∷ rs) e =
      rw ((among_member (suc j) used).1 m)
      (rights_balance k used s rs (omega arith) ∙ sym (put_nowhere left_digit v t k 0 r rs ds (λ p h q. absurd (omega (arith, q)))))
  rights_balance k used (placed m a b s) [] e = absurd (omega arith)
  rights_balance k used (placed {j} {d = d} {ds = ds} m a b s) (r ∷ rs) e =
      let x : suc (d - 1) ≡ d = omega arith in
      let i = rights_balance k used s rs (omega arith) in
      let o = occurrences_append t (v r ∷ []) (map v (unused (suc j) used rs)) in
      let p : put left_digit v t k (r ∷ rs) (suc (d - 1) ∷ ds) ≡ occurrences t (v r ∷ []) + put left_digit v t k rs ds =
      put_once left_digit v (λ p q h. omega (arith, h)) t k (d - 1) r rs ds (omega arith) in
      let y : put left_digit v t k (r ∷ rs) (d ∷ ds) ≡ occurrences t (v r ∷ []) + put left_digit v t k rs ds = rw x at p in
      rw (among_not (suc j) used m) (o ∙ ap (λ (c : ℕ). occurrences t (v r ∷ []) + c) i ∙ sym y)

  -- with n left terms to come: they and what is in left labels are the right terms that are not paired and what is in right labels
  pub balance : (m k l : ℕ) (rs : List ℕ) → length rs ≡ m → {used ds : List ℕ} {n : ℕ} → IsLefts m k l used n ds → (ls : List ℕ) → length ls ≡ n →
      ((a b : ℕ) → Memᴰ (a, b) (pairs ls rs ds) → v a ≡ v b) →
      occurrences t (map v ls) + put left_digit v t k rs (drop (length ls) ds)
      ≡ occurrences t (map v (unused 0 used rs)) + put (right_digit m) v t l ls ds
  unfolding occurrences
  balance m k l rs f (last {used} {ds} s) [] e h =
      let a = rights_balance k used s rs f in
      let b = nothing_put (right_digit m) v t l ds in
      omega (arith, a, b)
  balance m k l rs f (last s) (x ∷ ls) e h = absurd (omega arith)
  balance m k l rs f (next a b c s) [] e h = absurd (omega arith)
  balance m k l rs f (next {used} {ds} {n} {d} a b c s) (x ∷ ls) e h = go (dec_lt m d) (λ g. balance m k l rs f s ls (omega arith) g)
    where
      Pairs : List (ℕ × ℕ) → Type 0
      Pairs ps = (y z : ℕ) → Memᴰ (y, z) ps → v y ≡ v z

      go : Dec (m < d) → (Pairs (pairs ls rs ds) →
          occurrences t (map v ls) + put left_digit v t k rs (drop (length ls) ds)
          ≡ occurrences t (map v (unused 0 (d ∷ used) rs)) + put (right_digit m) v t l ls ds) →
          occurrences t (v x ∷ map v ls) + put left_digit v t k rs (drop (length ls) ds)
          ≡ occurrences t (map v (unused 0 used rs)) + put (right_digit m) v t l (x ∷ ls) (d ∷ ds)
      go (yes q) r =
          let p : pairs (x ∷ ls) rs (d ∷ ds) ≡ pairs ls rs ds = without_pair rs x ls d ds (omega arith) in
          let i = r (rw p at h) in
          let o = occurrences_append t (v x ∷ []) (map v ls) in
          let g : m + suc (d - m - 1) ≡ d = omega arith in
          let y = put_once (right_digit m) v (λ i j w. omega (arith, w)) t l (d - m - 1) x ls ds (omega arith) in
          let z : put (right_digit m) v t l (x ∷ ls) (d ∷ ds) ≡ occurrences t (v x ∷ []) + put (right_digit m) v t l ls ds = rw g at y in
          let u = ap (λ (w : List ℕ). occurrences t (map v w)) (unused_kept 0 d used rs (λ i j w. absurd (omega (arith, w)))) in
          omega (arith, i, o, z, u)
      go (no q) r =
          let p : pairs (x ∷ ls) rs (d ∷ ds) ≡ (x, word rs (d - 1)) ∷ pairs ls rs ds = with_pair rs x ls d ds (omega arith) in
          let g : Pairs ((x, word rs (d - 1)) ∷ pairs ls rs ds) = rw p at h in
          let i = r (λ y z m. g y z (Memᴰ.tail m)) in
          let o = occurrences_append t (v x ∷ []) (map v ls) in
          let w = g x (word rs (d - 1)) (Memᴰ.head refl) in
          let z = put_nowhere (right_digit m) v t l d x ls ds (λ i j w. absurd (omega (arith, w))) in
          let u = unused_taken v t 0 (d - 1) d used rs (omega arith) (omega arith) (among_not d used (c (omega arith))) in
          let y = ap (λ (w : Term). occurrences t (w ∷ [])) w in
          omega (arith, i, o, z, u, y)

module _ (ls ks rs qs : List ℕ) (v : ℕ → Term) (labels : ℕ → List Term) where
  -- labels that are filled by a choice whose pairs are equal make the sides equal
  pub filled_equal : (ds : List ℕ) → IsChoice (length ls) (length rs) (length ks) (length qs) ds →
      ((a b : ℕ) → Memᴰ (a, b) (pairs ls rs ds) → v a ≡ v b) → Filled ls ks rs qs ds v labels → (t : Term) →
      occurrences t (map v ls) + in_labels labels t ks ≡ occurrences t (map v rs) + in_labels labels t qs
  unfolding in_left in_right
  filled_equal ds c e f t =
      let b = balance v t (length rs) (length ks) (length qs) rs refl ((choice_digits (length ls) (length rs) (length ks) (length qs) ds).0 c) ls
      refl e in
      let u = ap (λ (us : List ℕ). occurrences t (map v us)) (unused_all 0 rs) in
      let x = total_add (length ks) (λ p. occurrences t (labels (word ks p)))
      (λ p. occurrences t (map v (with_digit (left_digit p) rs (drop (length ls) ds)))) (λ p. occurrences t (f.left_rest p))
      (λ p h. f.in_left_lem p h t ∙ occurrences_append t _ (f.left_rest p)) in
      let y = total_add (length qs) (λ q. occurrences t (labels (word qs q)))
      (λ q. occurrences t (map v (with_digit (right_digit (length rs) q) ls ds))) (λ q. occurrences t (f.right_rest q))
      (λ q h. f.in_right_lem q h t ∙ occurrences_append t _ (f.right_rest q)) in
      let r = f.balance t in
      let g = places_count t (length ks) f.left_rest in
      let h = places_count t (length qs) f.right_rest in
      omega (arith, b, u, x, y, r, g, h)
