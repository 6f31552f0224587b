-- Where a side has no label for the terms of the other side, a choice pairs each of these, no two with the same: so there are enough
-- others, by the pigeonhole, and each is equal to some other under a unifier of the choice. Assumes nothing.
use Prim.Native.Nat.{ℕ, suc, ◌-◌, ◌≤◌, ◌<◌}
use mathlib.Core.List.{List}
use mathlib.Core.Path.{◌≡◌, refl, sym, ap, ◌∙◌}
use native.Mathlib.Decide.{dec_lt}
use native.Mathlib.Omega.{arith}
use lib.ListN.{length}
use Rattle.table.specs.Layout.{word}
use Rattle.terms.specs.Substitution.{Substitution}
use Rattle.unification.specs.Node.{Node, nodes_from}
use Rattle.unification.specs.Unifier.{value}
use Rattle.unification.proofs.PigeonLaws.{pigeons}
use Rattle.multiset_unification.specs.Code.InEvery.{ChoiceUnifier, NoneAdmissible}
use Rattle.multiset_unification.proofs.PlaceLaws.{pairs_mean}
use Rattle.symbols.specs.Code.Symbols.{Unpaired, too_few, alone}

module _ {ns : List Node} {ls rs : List ℕ} {k l : ℕ} {ds : List ℕ} {σ : Substitution} (u : ChoiceUnifier ns ls rs k l ds σ) where
  -- a left term is equal to the right term that its digit counts to
  paired_equal : (i j : ℕ) → i < length ls → j < length rs → word ds i ≡ suc j →
      value ns σ (word ls i) ≡ value ns σ (word rs j)
  paired_equal i j h g e =
      u.unifies (word ls i) (word rs j)
      ((pairs_mean ls rs ds (λ x y. (u.choice.left_digits x y).0) (word ls i) (word rs j)).1 (i, j, h, g, e, refl, refl))

  -- without right labels there are enough right terms
  lefts_enough : l ≡ 0 → length rs < length ls → ⊥
  lefts_enough z few =
      let t = pigeons (length rs) (λ i. word ds i - 1) below in
      let x = u.choice.left_digits t.0 (omega (arith, t.2, t.3, few)) in
      let y = u.choice.left_digits t.1 (omega (arith, t.3, few)) in
      let o = u.choice.once t.0 t.1 t.2 (omega (arith, t.3, few)) (omega (arith, x.0, y.0, t.4)) in
      omega (arith, o, x.1, z)
    where
      below : (i : ℕ) → i ≤ length rs → word ds i - 1 < length rs
      below i h =
          let x = u.choice.left_digits i (omega (arith, h, few)) in
          omega (arith, x.0, x.1, z)

  -- and each left term is equal to some right term
  lefts_paired : l ≡ 0 → (i : ℕ) → i < length ls → ((j : ℕ) → j < length rs → value ns σ (word ls i) ≡ value ns σ (word rs j) → ⊥) → ⊥
  lefts_paired z i h n =
      let x = u.choice.left_digits i h in
      let g : word ds i - 1 < length rs = omega (arith, x.0, x.1, z) in
      n (word ds i - 1) g (paired_equal i (word ds i - 1) h g (omega (arith, x.0)))

  -- without left labels each right term has a partner
  partner : k ≡ 0 → (j : ℕ) → j < length rs → (i : ℕ) × (i < length ls) × (word ds i ≡ suc j)
  partner z j h =
      let x = u.choice.right_digits j h in
      (u.choice.paired j h).0 (omega (arith, x, z))

  -- that of a place, if there is a right term
  placed : k ≡ 0 → (j : ℕ) → (i : ℕ) × (j < length rs → (i < length ls) × (word ds i ≡ suc j))
  placed z j = go (dec_lt j (length rs))
    where
      go : Dec (j < length rs) → (i : ℕ) × (j < length rs → (i < length ls) × (word ds i ≡ suc j))
      go (yes h) = ((partner z j h).0, λ g. ((partner z j h).1, (partner z j h).2))
      go (no h) = (0, λ g. absurd (h g))

  -- there are enough left terms
  rights_enough : k ≡ 0 → length ls < length rs → ⊥
  rights_enough z few =
      let t = pigeons (length ls) (λ j. (placed z j).0) (λ j h. ((placed z j).1 (omega (arith, h, few))).0) in
      let x = ((placed z t.0).1 (omega (arith, t.2, t.3, few))).1 in
      let y = ((placed z t.1).1 (omega (arith, t.3, few))).1 in
      let e : suc t.0 ≡ suc t.1 = sym x ∙ ap (word ds) t.4 ∙ y in
      omega (arith, e, t.2)

  -- and each right term is equal to some left term
  rights_paired : k ≡ 0 → (j : ℕ) → j < length rs → ((i : ℕ) → i < length ls → value ns σ (word rs j) ≡ value ns σ (word ls i) → ⊥) → ⊥
  rights_paired z j h n =
      let t = partner z j h in
      n t.0 t.1 (sym (paired_equal t.0 j t.1 h t.2))

module _ {nodes args ls rs : List ℕ} {k l : ℕ} where
  -- where left terms cannot be paired, and there is no right label, no choice is admissible
  pub lefts_none : l ≡ 0 → Unpaired nodes args ls rs → NoneAdmissible (nodes_from nodes args) ls rs k l
  lefts_none z (too_few h) = record { never = λ ds σ u. lefts_enough u z h }
  lefts_none z (alone i h n) = record { never = λ ds σ u. lefts_paired u z i h (λ j g. (n.each j g).never σ) }

  -- where right terms cannot be paired, and there is no left label, neither
  pub rights_none : k ≡ 0 → Unpaired nodes args rs ls → NoneAdmissible (nodes_from nodes args) ls rs k l
  rights_none z (too_few h) = record { never = λ ds σ u. rights_enough u z h }
  rights_none z (alone j h n) = record { never = λ ds σ u. rights_paired u z j h (λ i g. (n.each i g).never σ) }
