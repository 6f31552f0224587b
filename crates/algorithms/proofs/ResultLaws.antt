-- A result tells its choice: a digit is told by the pair or by the label that has its term.
-- Place by place; a term stands at one place only. Assumes nothing.
use Prim.Native.Nat.{ℕ, suc, ◌+◌, ◌-◌, ◌<◌, ◌≤◌}
use mathlib.Core.List.{List, []}
use mathlib.Core.Path.{◌≡◌, refl, sym, ap, ◌∙◌}
use native.Mathlib.Decide.{dec_lt, ℕ_discrete}
use native.Mathlib.Omega.{arith}
use lib.ListN.{length, drop, get_or}
use lib.Seq.{get_or-drop, ext_get_or}
use Rattle.table.specs.Layout.{word}
use Rattle.unification.specs.Node.{tabulate}
use Rattle.unification.proofs.ListLaws.{tabulate_length, tabulate_at}
use Rattle.multiset_unification.specs.Choice.{IsChoice, pairs, with_digit, in_left, in_right}
use Rattle.multiset_unification.proofs.PlaceLaws.{pairs_mean, with_digit_means}
use Rattle.algorithms.specs.Algorithms.{Result}
use Rattle.algorithms.specs.Sides.{gone_over_as}
use Rattle.algorithms.specs.Code.Placing.{Distinct}
use Rattle.algorithms.proofs.DistinctLaws.{one_place}
use Rattle.algorithms.proofs.DistributeLaws.{contexts_tell}

-- lists made alike have the same at each place
told_at : (n : ℕ) (f g : ℕ → List ℕ) → tabulate n f ≡ tabulate n g → (i : ℕ) → i < n → f i ≡ g i
told_at n f g e i h =
    sym (tabulate_at n f [] i h) ∙ ap (λ (xs : List (List ℕ)). get_or xs i []) e ∙ tabulate_at n g [] i h

-- equal parts of a list without repeats have equal digits
part_told : (ts ds es : List ℕ) (d i : ℕ) → Distinct ts → 0 < d → i < length ts → word ds i ≡ d → with_digit d ts ds ≡ with_digit d ts es →
    word es i ≡ d
part_told ts ds es d i u z h e q =
    let s = (with_digit_means d z ts es (word ts i)).0 (rw q at ((with_digit_means d z ts ds (word ts i)).1 (i, h, e, refl))) in
    ap (word es) (one_place ts u i s.0 h s.1 s.3) ∙ s.2

module _ (ls ks rs qs : List ℕ) (dl : Distinct ls) (dr : Distinct rs) (ds es : List ℕ)
    (c : IsChoice (length ls) (length rs) (length ks) (length qs) ds) (d : IsChoice (length ls) (length rs) (length ks) (length qs) es) where
  module _ (paired : pairs ls rs ds ≡ pairs ls rs es) (in_left_lem : (p : ℕ) → p < length ks → in_left ls rs ds p ≡ in_left ls rs es p)
      (in_right_lem : (q : ℕ) → q < length qs → in_right ls rs ds q ≡ in_right ls rs es q) where
    left_told : (i : ℕ) → i < length ls → word ds i ≡ word es i
    unfolding in_right
    left_told i h = go (dec_lt (length rs) (word ds i))
      where
        r : (0 < word ds i) × (word ds i ≤ length rs + length qs)
        r = c.left_digits i h

        go : Dec (length rs < word ds i) → word ds i ≡ word es i
        go (yes g) =
            let q = word ds i - length rs - 1 in
            let e : word ds i ≡ length rs + suc q = omega (arith, g, r.0) in
            let b : q < length qs = omega (arith, g, r.1) in
            e ∙ sym (part_told ls ds es (length rs + suc q) i dl (omega arith) h e (in_right_lem q b))
        go (no g) =
            let j = word ds i - 1 in
            let e : word ds i ≡ suc j = omega (arith, r.0) in
            let b : j < length rs = omega (arith, g, r.0) in
            let m = (pairs_mean ls rs ds (λ x y. (c.left_digits x y).0) (word ls i) (word rs j)).1 (i, j, h, b, e, refl, refl) in
            let s = (pairs_mean ls rs es (λ x y. (d.left_digits x y).0) (word ls i) (word rs j)).0 (rw paired at m) in
            let x = one_place ls dl i s.0 h s.2 s.5 in
            let y = one_place rs dr j s.1 b s.3 s.6 in
            e ∙ ap suc y ∙ sym (ap (word es) x ∙ s.4)

    right_told : (j : ℕ) → j < length rs → word ds (length ls + j) ≡ word es (length ls + j)
    unfolding in_left
    right_told j h = go (ℕ_discrete (word ds (length ls + j)) 0)
      where
        go : Dec (word ds (length ls + j) ≡ 0) → word ds (length ls + j) ≡ word es (length ls + j)
        go (yes g) =
            let s = (c.paired j h).0 g in
            g ∙ sym ((d.paired j h).1 (s.0, s.1, sym (left_told s.0 s.1) ∙ s.2))
        go (no g) =
            let p = word ds (length ls + j) - 1 in
            let e : word ds (length ls + j) ≡ suc p = omega (arith, g) in
            let b : p < length ks = let r = c.right_digits j h in omega (arith, g, r) in
            let x = part_told rs (drop (length ls) ds) (drop (length ls) es) (suc p) j dr (omega arith) h (get_or-drop (length ls) ds j 0 ∙ e)
            (in_left_lem p b) in
            e ∙ sym x ∙ get_or-drop (length ls) es j 0

    all_told : ds ≡ es
    all_told = ext_get_or 0 ds es (c.long ∙ sym d.long) (λ i h. go i (omega (arith, h, c.long)) (dec_lt i (length ls)))
      where
        go : (i : ℕ) → i < length ls + length rs → Dec (i < length ls) → word ds i ≡ word es i
        go i h (yes g) = left_told i g
        go i h (no g) =
            let e : i ≡ length ls + (i - length ls) = omega (arith, g) in
            rw e (right_told (i - length ls) (omega (arith, g, h)))

  -- choices that Algorithm 1 goes over as one result are one choice
  pub result_tells : gone_over_as ls ks rs qs ds ≡ gone_over_as ls ks rs qs es → ds ≡ es
  unfolding gone_over_as
  result_tells e =
      let s = contexts_tell ks qs (tabulate (length ks) (in_left ls rs ds)) (tabulate (length ks) (in_left ls rs es))
      (tabulate (length qs) (in_right ls rs ds)) (tabulate (length qs) (in_right ls rs es)) (tabulate_length _ _) (tabulate_length _ _)
      (tabulate_length _ _) (tabulate_length _ _) (ap (λ (r : Result). r.contexts) e) in
      all_told (ap (λ (r : Result). r.pairing) e) (told_at (length ks) _ _ s.0) (told_at (length qs) _ _ s.1)
