-- Nothing is below a branch that cannot be completed: what has an entry is found by the walk over sets of right terms.
-- By induction on the left terms still to go; a pair that is struck out has no unifier on top of more pairs either. Assumes nothing.
use Prim.Native.Nat.{ℕ, zero, suc, ◌+◌, ◌-◌, ◌^◌, ◌≤◌, ◌<◌}
use mathlib.Core.Bool.{Bool, true, false, cond, not, ◌&&◌, false≢true}
use mathlib.Core.List.Memᴰ
use mathlib.Core.List.{List, [], ◌∷◌, ◌++◌, map}
use mathlib.Core.Path.{◌≡◌, refl, sym, ap, ◌∙◌}
use native.Mathlib.Omega.{arith}
use borrow.Author.Tests.{eqb-true, eqb-false, ne_eqb, not-false}
use lib.Dec.{eqb}
use lib.ListN.{length, drop, set, length-set, length-drop}
use lib.Seq.{get_or-drop}
use Rattle.table.specs.Layout.{word}
use Rattle.table.specs.Some.{some_below}
use Rattle.table.proofs.BoolLaws.{or_false_left, or_false_right}
use Rattle.table.proofs.SomeLaws.{none_some}
use Rattle.unification.specs.Node.{Node, nodes_from}
use Rattle.unification.specs.Unifier.{Unifies}
use Rattle.unification.specs.Outcome.{unified}
use Rattle.unification.specs.Computed.Unifying.{outcome, words_of}
use Rattle.unification.specs.Code.Given.{WellFormed, Inside}
use Rattle.unification.proofs.JoinedLaws.{inside_more}
use Rattle.unification.proofs.OutcomeLaws.{outcome_unified}
use Rattle.unification.proofs.SectionLaws.{is_node, sections_well_formed}
use Rattle.multiset_unification.specs.Computed.Choices.{branch}
use Rattle.entries.specs.Code.Writing.{marked}
use Rattle.branches.specs.Code.Known.{left_count, right_count, left_labels, right_labels, left_in, right_in, rows_in, KnownOf}
use Rattle.branches.specs.Code.Ahead.{has, partner_at, completes, completes_from, NeverOn, MayPair, PairedSet}
use Rattle.branches.specs.Code.Walk.{on_digit, below}
use Rattle.branches.proofs.SetLaws.{unpaired_not, paired_more, paired_some}
use Rattle.branches.proofs.OverLaws.{over_none, digit_empty}
use Rattle.branches.proofs.KnownLaws.{left_long, right_long, rows_long, left_word, right_word, row_word}

-- without left labels an unpaired right term has no digit
pub marked_none : (marks : List ℕ) (j : ℕ) → j < length marks → (word marks j ≡ 0 → ⊥) → marked 0 marks ≡ []
unfolding marked branch
marked_none [] j h n = absurd (omega arith)
marked_none (z ∷ zs) zero h n = rw (ne_eqb z 0 n)
marked_none (z ∷ zs) (suc j) h n = pick (eqb z 0) (marked_none zs j (omega arith) n)
  where
    pick : (b : Bool) → marked 0 zs ≡ [] → cond b (branch 0 1 (λ d. marked 0 zs)) (branch 1 0 (λ d. marked 0 zs)) ≡ []
    pick true e = rw e
    pick false e = refl

-- a pair that no substitution unifies on top of some pairs it unifies on top of no more
pub never_more : (ns : List Node) (p : ℕ × ℕ) (ps : List (ℕ × ℕ)) (a b : ℕ) → NeverOn ns ps a b → NeverOn ns (p ∷ ps) a b
never_more ns p ps a b n σ u = n σ fewer
  where
    fewer : Unifies ns ((a, b) ∷ ps) σ
    fewer x y (Memᴰ.head e) = u x y (Memᴰ.head e)
    fewer x y (Memᴰ.tail m) = u x y (Memᴰ.tail (Memᴰ.tail m))

-- such a pair is not unified on top of them
pub never_unified : (ns : List Node) → WellFormed ns → (ps : List (ℕ × ℕ)) (a b : ℕ) → Inside ns ((a, b) ∷ ps) → NeverOn ns ps a b →
    outcome ns ((a, b) ∷ ps) ≡ unified → ⊥
never_unified ns w ps a b i n e = let u = (outcome_unified ns w ((a, b) ∷ ps) i).0 e in n u.0 u.1

-- of two tests that do not both hold, the second fails where the first holds
and_false_right : (a b : Bool) → (a && b) ≡ false → a ≡ true → b ≡ false
and_false_right true b e p = e
and_false_right false b e p = absurd (false≢true p)

-- what cannot be completed cannot be with a label, where there are any
pub label_cannot : (m k l row : ℕ) (rows : List ℕ) (s : ℕ) → completes m k l (row ∷ rows) s ≡ false → 0 < l → completes m k l rows s ≡ false
unfolding completes
label_cannot m k l row rows s e h =
    and_false_right (not (eqb l 0)) _
    (or_false_left (not (eqb l 0) && completes m k l rows s) (some_below m (partner_at row s (completes m k l rows))) e)
    (rw (ne_eqb l 0 (λ z. omega (arith, h, z))))

-- nor with a pair that may be
pub pair_cannot : (m k l row : ℕ) (rows : List ℕ) (s : ℕ) → completes m k l (row ∷ rows) s ≡ false → (j : ℕ) → j < m → has row j ≡ true →
    has s j ≡ false → completes m k l rows (s + 2 ^ j) ≡ false
unfolding completes partner_at
pair_cannot m k l row rows s e j h p q =
    and_false_right (has row j && not (has s j)) _
    (none_some (partner_at row s (completes m k l rows)) m (or_false_right (not (eqb l 0) && completes m k l rows s)
    (some_below m (partner_at row s (completes m k l rows))) e) j h)
    (rw (p, q))

-- at the end there are no left labels, and the set is not whole
pub end_cannot : (m k l s : ℕ) → completes m k l [] s ≡ false → (k ≡ 0) × (s + 1 ≡ 2 ^ m → ⊥)
unfolding completes
end_cannot m k l s e = (
  eqb-true k 0 (not-false _ (or_false_left (not (eqb k 0)) (eqb (s + 1) (2 ^ m)) e)),
  eqb-false (s + 1) (2 ^ m)
      (or_false_right (not (eqb k 0)) (eqb (s + 1) (2 ^ m)) e),
)

module _ (ns : List Node) (w : WellFormed ns) (rs : List ℕ) (right : (j : ℕ) → j < length rs → word rs j < length ns) (k l : ℕ) where
  -- nothing is below a branch with left terms ls and their sets to go, where these cannot be placed
  cannot : (ls rows : List ℕ) → length rows ≡ length ls → ((q : ℕ) → q < length ls → word ls q < length ns) →
      (s : ℕ) (ds : List ℕ) (ps : List (ℕ × ℕ)) (marks : List ℕ) → length marks ≡ length rs → PairedSet marks s → Inside ns ps →
      ((q j : ℕ) → q < length ls → j < length rs → has (word rows q) j ≡ false → NeverOn ns ps (word ls q) (word rs j)) →
      completes (length rs) k l rows s ≡ false → below ns rs k l ls ds ps marks ≡ []
  unfolding below
  cannot [] [] z left s ds ps marks lm p i never e =
      let r = end_cannot (length rs) k l s e in
      let u = paired_some marks s p (λ x. r.1 (x ∙ ap (λ (y : ℕ). 2 ^ y) lm)) in
      ap (λ (y : ℕ). map (λ es. ds ++ es ++ words_of ns ps) (marked y marks)) r.0
      ∙ ap (map (λ es. ds ++ es ++ words_of ns ps)) (marked_none marks u.0 u.1 u.2)
  cannot [] (row ∷ rows) z left s ds ps marks lm p i never e = absurd (omega (arith, z))
  cannot (a ∷ ls) [] z left s ds ps marks lm p i never e = absurd (omega (arith, z))
  cannot (a ∷ ls) (row ∷ rows) z left s ds ps marks lm p i never e =
      let rest : (t : ℕ) (es : List ℕ) (qs : List (ℕ × ℕ)) (zs : List ℕ) → length zs ≡ length rs → PairedSet zs t → Inside ns qs →
      ((q j : ℕ) → q < length ls → j < length rs → has (word rows q) j ≡ false → NeverOn ns qs (word ls q) (word rs j)) →
      completes (length rs) k l rows t ≡ false → below ns rs k l ls es qs zs ≡ [] =
      cannot ls rows (omega (arith, z)) (λ q h. left (suc q) (omega arith)) in
      let later : (q j : ℕ) → q < length ls → j < length rs → has (word rows q) j ≡ false → NeverOn ns ps (word ls q) (word rs j) = λ q j h g o. never
      (suc q) j (omega arith) g o in
      over_none 1 (length rs + l) (λ d. on_digit ns rs (below ns rs k l ls) ds ps marks a d)
      (λ d x y.
      digit_empty ns rs (below ns rs k l ls) ds ps marks a d
      (λ t n o. pick d x t n o rest later (has row (d - 1)) refl)
      (λ t. rest s (ds ++ d ∷ []) ps marks lm p i later (label_cannot (length rs) k l row rows s e (omega arith))))
    where
      inside : (d : ℕ) → 1 ≤ d → d ≤ length rs → Inside ns ((a, word rs (d - 1)) ∷ ps)
      inside d x t = inside_more ns a (word rs (d - 1)) ps (left 0 (omega arith)) (right (d - 1) (omega arith)) i

      pick : (d : ℕ) → 1 ≤ d → d ≤ length rs → (word marks (d - 1) ≡ 0 → ⊥) → outcome ns ((a, word rs (d - 1)) ∷ ps) ≡ unified →
          ((t : ℕ) (es : List ℕ) (qs : List (ℕ × ℕ)) (zs : List ℕ) → length zs ≡ length rs → PairedSet zs t → Inside ns qs →
          ((q j : ℕ) → q < length ls → j < length rs → has (word rows q) j ≡ false → NeverOn ns qs (word ls q) (word rs j)) →
          completes (length rs) k l rows t ≡ false → below ns rs k l ls es qs zs ≡ []) →
          ((q j : ℕ) → q < length ls → j < length rs → has (word rows q) j ≡ false → NeverOn ns ps (word ls q) (word rs j)) →
          (b : Bool) → has row (d - 1) ≡ b → below ns rs k l ls (ds ++ d ∷ []) ((a, word rs (d - 1)) ∷ ps) (set marks (d - 1) 0) ≡ []
      pick d x t n o rest later true h =
          let g : d - 1 < length marks = omega (arith, x, t, lm) in
          rest (s + 2 ^ (d - 1)) (ds ++ d ∷ []) ((a, word rs (d - 1)) ∷ ps) (set marks (d - 1) 0) (length-set marks (d - 1) 0 ∙ lm)
          (paired_more marks s (d - 1) p g n) (inside d x t)
          (λ q j v u y. never_more ns (a, word rs (d - 1)) ps (word ls q) (word rs j) (later q j v u y))
          (pair_cannot (length rs) k l row rows s e (d - 1) (omega (arith, x, t)) h (unpaired_not marks s (d - 1) p g n))
      pick d x t n o rest later false h =
          absurd (never_unified ns w ps a (word rs (d - 1)) (inside d x t) (never 0 (d - 1) (omega arith) (omega (arith, x, t)) h) o)

-- nothing is below a branch that cannot be completed
pub below_cannot : (nodes arguments known : List ℕ) → KnownOf nodes arguments known → (i : ℕ) → i ≤ left_count known →
    (s : ℕ) (ds : List ℕ) (ps : List (ℕ × ℕ)) (marks : List ℕ) → length marks ≡ right_count known → PairedSet marks s →
    Inside (nodes_from nodes arguments) ps → MayPair nodes arguments known ps → completes_from known i s ≡ false →
    below (nodes_from nodes arguments) (right_in known) (left_labels known) (right_labels known) (drop i (left_in known)) ds ps marks ≡ []
below_cannot nodes arguments known k i h s ds ps marks lm p g may e =
    let w = sections_well_formed nodes arguments k.sections in
    let x = left_long k in
    let y = right_long k in
    let z = rows_long k in
    let u = length-drop i (left_in known) in
    let v = length-drop i (rows_in known) in
    cannot (nodes_from nodes arguments) w (right_in known)
    (λ j q. rw (right_word known j (omega (arith, q, y))) (is_node nodes arguments (word known (592 + j)) (k.right_nodes j (omega (arith, q, y)))))
    (left_labels known) (right_labels known) (drop i (left_in known)) (drop i (rows_in known)) (omega (arith, x, z, u, v))
    (λ q r. rw (left_at q (omega (arith, r, u, x))) (is_node nodes arguments (word known (584 + (i + q)))
    (k.left_nodes (i + q) (omega (arith, r, u, x)))))
    s ds ps marks (lm ∙ sym y) p g
    (λ q j r t o. rw (left_at q (omega (arith, r, u, x)), right_word known j (omega (arith, t, y)))
    (may.never (i + q) j (omega (arith, r, u, x)) (omega (arith, t, y)) (sym (ap (λ (n : ℕ). has n j) (row_at q (omega (arith, r, u, x)))) ∙ o)))
    (ap (λ (m : ℕ). completes m (left_labels known) (right_labels known) (drop i (rows_in known)) s) y ∙ e)
  where
    left_at : (q : ℕ) → i + q < left_count known → word (drop i (left_in known)) q ≡ word known (584 + (i + q))
    left_at q r = get_or-drop i (left_in known) q 0 ∙ left_word known (i + q) r

    row_at : (q : ℕ) → i + q < left_count known → word (drop i (rows_in known)) q ≡ word known (600 + (i + q))
    row_at q r = get_or-drop i (rows_in known) q 0 ∙ row_word known (i + q) r
