-- Where a side has more terms than the other, which has no labels, there is no entry.
-- By induction on the left terms still to go, each of which lowers the number of unpaired right terms by one at most. Assumes nothing.
use Prim.Native.Nat.{ℕ, zero, suc, ◌+◌, ◌-◌, ◌<◌}
use mathlib.Core.Bool.{Bool, true, false, cond}
use mathlib.Core.List.{List, [], ◌∷◌, ◌++◌, map}
use mathlib.Core.Path.{◌≡◌, refl, ap, ◌∙◌}
use native.Mathlib.Omega.{arith}
use borrow.Author.Tests.{ne_eqb}
use lib.Dec.{eqb}
use lib.ListN.{length, set, replicate}
use Rattle.table.specs.Layout.{word}
use Rattle.unification.specs.Node.{Node, nodes_from}
use Rattle.unification.specs.Computed.Unifying.{words_of}
use Rattle.multiset_unification.specs.Computed.Choices.{branch}
use Rattle.entries.specs.Code.Writing.{marked}
use Rattle.branches.specs.Code.Known.{right_count, left_labels, right_labels, left_in, right_in, KnownOf}
use Rattle.branches.specs.Code.Walk.{on_digit, below, all_entries}
use Rattle.branches.proofs.OverLaws.{over_none, digit_empty}
use Rattle.branches.proofs.KnownLaws.{left_long}
use Rattle.ahead.specs.Code.Whole.{NotFit, more_left, more_right}

-- How many right terms are unpaired.
unfoldable unpaired_in : List ℕ → ℕ
unpaired_in [] = 0
unpaired_in (z ∷ zs) = cond (eqb z 0) (unpaired_in zs) (suc (unpaired_in zs))

-- to pair a right term lowers the number of unpaired ones by one
unpaired_set : (marks : List ℕ) (j : ℕ) → (word marks j ≡ 0 → ⊥) → unpaired_in marks ≡ suc (unpaired_in (set marks j 0))
unfolding unpaired_in
unpaired_set [] j h = absurd (h refl)
unpaired_set (z ∷ zs) zero h = rw (ne_eqb z 0 h)
unpaired_set (z ∷ zs) (suc j) h = pick (eqb z 0) (unpaired_set zs j h)
  where
    pick : (b : Bool) → unpaired_in zs ≡ suc (unpaired_in (set zs j 0)) →
        cond b (unpaired_in zs) (suc (unpaired_in zs)) ≡ suc (cond b (unpaired_in (set zs j 0)) (suc (unpaired_in (set zs j 0))))
    pick true e = e
    pick false e = ap suc e

-- at first no right term is paired
unpaired_ones : (m : ℕ) → unpaired_in (replicate m 1) ≡ m
unfolding unpaired_in
unpaired_ones zero = refl
unpaired_ones (suc m) = ap suc (unpaired_ones m)

-- without left labels an unpaired right term has no digit
unpaired_none : (marks : List ℕ) → 0 < unpaired_in marks → marked 0 marks ≡ []
unfolding unpaired_in marked branch
unpaired_none [] h = absurd (omega arith)
unpaired_none (z ∷ zs) h = pick (eqb z 0) h (unpaired_none zs)
  where
    pick : (b : Bool) → 0 < cond b (unpaired_in zs) (suc (unpaired_in zs)) → (0 < unpaired_in zs → marked 0 zs ≡ []) →
        cond b (branch 0 1 (λ d. marked 0 zs)) (branch 1 0 (λ d. marked 0 zs)) ≡ []
    pick true p f = rw (f p)
    pick false p f = refl

module _ (ns : List Node) (rs : List ℕ) where
  -- without left labels, more unpaired right terms than left terms to go are too many
  many_unpaired : (l : ℕ) (ls ds : List ℕ) (ps : List (ℕ × ℕ)) (marks : List ℕ) → length ls < unpaired_in marks → below ns rs 0 l ls ds ps marks ≡ []
  unfolding below
  many_unpaired l [] ds ps marks h = ap (map (λ es. ds ++ es ++ words_of ns ps)) (unpaired_none marks h)
  many_unpaired l (a ∷ ls) ds ps marks h =
      over_none 1 (length rs + l) (λ d. on_digit ns rs (below ns rs 0 l ls) ds ps marks a d)
      (λ d p q.
      digit_empty ns rs (below ns rs 0 l ls) ds ps marks a d
      (λ r z w. let u =
      unpaired_set marks (d - 1) z in many_unpaired l ls (ds ++ d ∷ []) ((a, word rs (d - 1)) ∷ ps) (set marks (d - 1) 0) (omega (arith, h, u)))
      (λ z. many_unpaired l ls (ds ++ d ∷ []) ps marks (omega arith)))

  -- without right labels, more left terms to go than unpaired right terms are too many
  many_left : (k : ℕ) (ls ds : List ℕ) (ps : List (ℕ × ℕ)) (marks : List ℕ) → unpaired_in marks < length ls → below ns rs k 0 ls ds ps marks ≡ []
  unfolding below
  many_left k [] ds ps marks h = absurd (omega arith)
  many_left k (a ∷ ls) ds ps marks h =
      over_none 1 (length rs + 0) (λ d. on_digit ns rs (below ns rs k 0 ls) ds ps marks a d)
      (λ d p q.
      digit_empty ns rs (below ns rs k 0 ls) ds ps marks a d
      (λ r z w. let u =
      unpaired_set marks (d - 1) z in many_left k ls (ds ++ d ∷ []) ((a, word rs (d - 1)) ∷ ps) (set marks (d - 1) 0) (omega (arith, h, u)))
      (λ z. absurd (omega arith)))

-- sides that do not fit have no entries
pub not_fit_none : (nodes arguments known : List ℕ) → KnownOf nodes arguments known → NotFit known → (ps : List (ℕ × ℕ)) →
    all_entries nodes arguments known ps ≡ []
not_fit_none nodes arguments known k (more_left e h) ps =
    let x = left_long k in
    let y = unpaired_ones (right_count known) in
    ap (λ (l : ℕ). below (nodes_from nodes arguments) (right_in known) (left_labels known) l (left_in known) [] ps (replicate (right_count known) 1))
    e
    ∙ many_left (nodes_from nodes arguments) (right_in known) (left_labels known) (left_in known) [] ps (replicate (right_count known) 1)
    (omega (arith, h, x, y))
not_fit_none nodes arguments known k (more_right e h) ps =
    let x = left_long k in
    let y = unpaired_ones (right_count known) in
    ap (λ (l : ℕ). below (nodes_from nodes arguments) (right_in known) l (right_labels known) (left_in known) [] ps
    (replicate (right_count known) 1)) e
    ∙ many_unpaired (nodes_from nodes arguments) (right_in known) (right_labels known) (left_in known) [] ps (replicate (right_count known) 1)
    (omega (arith, h, x, y))
