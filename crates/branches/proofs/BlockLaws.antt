-- Below a label the entries are the same for every label, but for its digit: so those of the first are repeated for the others.
-- The digits so far stand in front of every entry below a branch, by induction on the left terms to go. Assumes nothing.
use Prim.Native.Nat.{ℕ, zero, suc, ◌+◌, ◌-◌}
use mathlib.Core.Bool.{Bool, true, false, cond}
use mathlib.Core.List.{List, [], ◌∷◌, ◌++◌, map, map-map, append_assoc, append-nil}
use mathlib.Core.Path.{◌≡◌, refl, sym, ap, ◌∙◌}
use lib.Dec.{eqb, leb}
use lib.ListN.{length, set}
use Rattle.table.specs.Layout.{word}
use Rattle.unification.specs.Node.{Node}
use Rattle.unification.specs.Outcome.{Outcome, unified, clash, occurs}
use Rattle.unification.specs.Computed.Unifying.{outcome, words_of}
use Rattle.unification.proofs.ListLaws.{map_same}
use Rattle.entries.specs.Code.Writing.{marked, repeated}
use Rattle.branches.specs.Code.Walk.{over, if_unified, on_digit, below}
use Rattle.branches.proofs.OverLaws.{over_within, map_over}

-- of entries of pairs that have a unifier
map_if : (f : List ℕ → List ℕ) (o : Outcome) (es : List (List ℕ)) → map f (if_unified o es) ≡ if_unified o (map f es)
unfolding if_unified
map_if f unified es = refl
map_if f clash es = refl
map_if f occurs es = refl

-- Words in front of an entry.
abbrev behind : List ℕ → List ℕ → List ℕ
behind ds e = ds ++ e

module _ (ns : List Node) (rs : List ℕ) (k l : ℕ) where
  -- What is below a branch with left terms ls to go has the digits so far in front.
  abbrev Fronted : List ℕ → Type 0
  Fronted ls = (ds es : List ℕ) (ps : List (ℕ × ℕ)) (marks : List ℕ) →
      below ns rs k l ls (ds ++ es) ps marks ≡ map (behind ds) (below ns rs k l ls es ps marks)

  -- so has what a digit more has
  digit_front : (ls : List ℕ) → Fronted ls → (ds es : List ℕ) (ps : List (ℕ × ℕ)) (marks : List ℕ) (a d : ℕ) →
      on_digit ns rs (below ns rs k l ls) (ds ++ es) ps marks a d ≡ map (behind ds) (on_digit ns rs (below ns rs k l ls) es ps marks a d)
  unfolding on_digit
  digit_front ls f ds es ps marks a d = pick (leb d (length rs)) (eqb (word marks (d - 1)) 0)
    where
      on : (qs : List (ℕ × ℕ)) (zs : List ℕ) → below ns rs k l ls (ds ++ es ++ d ∷ []) qs zs ≡ map (behind ds)
          (below ns rs k l ls (es ++ d ∷ []) qs zs)
      on qs zs = ap (λ (x : List ℕ). below ns rs k l ls x qs zs) (append_assoc ds es (d ∷ [])) ∙ f ds (es ++ d ∷ []) qs zs

      pick : (b c : Bool) → cond b (cond c [] (if_unified (outcome ns ((a, word rs (d - 1)) ∷ ps))
          (below ns rs k l ls (ds ++ es ++ d ∷ []) ((a, word rs (d - 1)) ∷ ps) (set marks (d - 1) 0))))
          (below ns rs k l ls (ds ++ es ++ d ∷ []) ps marks) ≡ map (behind ds)
          (cond b (cond c [] (if_unified (outcome ns ((a, word rs (d - 1)) ∷ ps))
          (below ns rs k l ls (es ++ d ∷ []) ((a, word rs (d - 1)) ∷ ps) (set marks (d - 1) 0)))) (below ns rs k l ls (es ++ d ∷ []) ps marks))
      pick true true = refl
      pick true false =
          ap (if_unified (outcome ns ((a, word rs (d - 1)) ∷ ps))) (on ((a, word rs (d - 1)) ∷ ps) (set marks (d - 1) 0))
          ∙ sym (map_if (behind ds) (outcome ns ((a, word rs (d - 1)) ∷ ps))
          (below ns rs k l ls (es ++ d ∷ []) ((a, word rs (d - 1)) ∷ ps) (set marks (d - 1) 0)))
      pick false c = on ps marks

  -- the digits so far stand in front of every entry below a branch
  below_front : (ls : List ℕ) → Fronted ls
  unfolding below
  below_front [] ds es ps marks =
      map_same (λ xs. ds ++ es ++ xs ++ words_of ns ps) (λ xs. ds ++ (es ++ xs ++ words_of ns ps)) (marked k marks)
      (λ xs m. ap (λ (x : List ℕ). x ++ words_of ns ps) (append_assoc ds es xs) ∙ append_assoc ds (es ++ xs) (words_of ns ps))
      ∙ sym (map-map (behind ds) (λ xs. es ++ xs ++ words_of ns ps) (marked k marks))
  below_front (a ∷ ls) ds es ps marks =
      over_within 1 (length rs + l) (λ d. on_digit ns rs (below ns rs k l ls) (ds ++ es) ps marks a d)
      (λ d. map (behind ds) (on_digit ns rs (below ns rs k l ls) es ps marks a d))
      (λ d p q. digit_front ls (below_front ls) ds es ps marks a d)
      ∙ sym (map_over (behind ds) 1 (length rs + l) (λ d. on_digit ns rs (below ns rs k l ls) es ps marks a d))

  -- with no digit more
  whole_front : (ls ds : List ℕ) (ps : List (ℕ × ℕ)) (marks : List ℕ) →
      below ns rs k l ls ds ps marks ≡ map (behind ds) (below ns rs k l ls [] ps marks)
  whole_front ls ds ps marks = ap (λ (x : List ℕ). below ns rs k l ls x ps marks) (sym (append-nil ds)) ∙ below_front ls ds [] ps marks

-- a digit in the place of another, behind the digits so far
set_behind : (ds : List ℕ) (d e : ℕ) (xs : List ℕ) → set (ds ++ d ∷ [] ++ xs) (length ds) e ≡ ds ++ e ∷ [] ++ xs
set_behind [] d e xs = refl
set_behind (x ∷ ds) d e xs = ap (x ∷◌) (set_behind ds d e xs)

module _ (ns : List Node) (rs : List ℕ) (k l : ℕ) (ls ds : List ℕ) (ps : List (ℕ × ℕ)) (marks : List ℕ) where
  -- The entries whose next left term has digit d of a label.
  abbrev labelled : ℕ → List (List ℕ)
  labelled d = below ns rs k l ls (ds ++ d ∷ []) ps marks

  -- those of another label have its digit in the place of that of the first
  pub label_digit : (d e : ℕ) → labelled e ≡ map (λ x. set x (length ds) e) (labelled d)
  label_digit d e =
      whole_front ns rs k l ls (ds ++ e ∷ []) ps marks
      ∙ sym (map_same (λ x. set (ds ++ d ∷ [] ++ x) (length ds) e) (behind (ds ++ e ∷ [])) (below ns rs k l ls [] ps marks)
      (λ x m. set_behind ds d e x))
      ∙ sym (map-map (λ x. set x (length ds) e) (behind (ds ++ d ∷ [])) (below ns rs k l ls [] ps marks))
      ∙ ap (map (λ x. set x (length ds) e)) (sym (whole_front ns rs k l ls (ds ++ d ∷ []) ps marks))

  -- so those of several labels are those of any one of them, repeated
  pub labels_repeated : (d e c : ℕ) → over e c labelled ≡ repeated (length ds) e c (labelled d)
  unfolding over repeated
  labels_repeated d e zero = refl
  labels_repeated d e (suc c) = rw (label_digit d e, labels_repeated d (suc e) c)
