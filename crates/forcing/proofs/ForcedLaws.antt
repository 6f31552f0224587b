-- Pairs that every choice has. A left term that must be paired is so in every admissible choice, with one of its row, as pairs that are struck
-- out have no unifier on top of what every choice has; and so is a right term. Assumes nothing.
use Prim.Native.Nat.{ℕ, suc, ◌+◌, ◌-◌, ◌^◌, ◌≤◌, ◌<◌}
use mathlib.Core.Bool.{Bool, true, false, false≢true}
use mathlib.Core.List.Memᴰ
use mathlib.Core.List.{List, ◌∷◌}
use mathlib.Core.Path.{◌≡◌, refl, sym, ap, ◌∙◌}
use native.Mathlib.Decide.{ℕ_discrete, dec_lt}
use native.Mathlib.Omega.{arith}
use Rattle.table.specs.Layout.{word, node_count}
use Rattle.terms.specs.Substitution.{Substitution}
use Rattle.unification.specs.Node.{nodes_from}
use Rattle.unification.specs.Unifier.{value, Unifies}
use Rattle.unification.proofs.OutcomeLaws.{outcome_unified}
use Rattle.unification.proofs.SectionLaws.{sections_well_formed}
use Rattle.classes.proofs.TrailLaws.{merges_trailed}
use Rattle.multiset_unification.specs.Code.InEvery.{ChoiceUnifier}
use Rattle.multiset_unification.proofs.PlaceLaws.{pairs_mean}
use Rattle.branches.specs.Code.Known.{left_count, right_count, left_labels, right_labels, left_in, right_in, KnownOf, KeepsKnown}
use Rattle.branches.specs.Code.Ahead.{has}
use Rattle.branches.specs.Code.Branch.{JoinsPair}
use Rattle.branches.specs.Code.Walk.{NoneOfKnown, InEveryKnown, Based}
use Rattle.branches.proofs.SetLaws.{has_none, has_other}
use Rattle.branches.proofs.KnownLaws.{left_long, right_long, left_word, right_word, left_kept, right_kept, formed_kept}
use Rattle.branches.proofs.PairLaws.{pair_inside, pair_answers, pair_pairing}
use Rattle.ahead.specs.Code.Struck.{RowsTo}
use Rattle.ahead.proofs.StruckLaws.{rows_pairs}
use Rattle.forcing.specs.Code.Forced.{OneTaker, NoTaker, FirstTaker, Forces}

-- a set of one right term has no other
only_bit : (j k : ℕ) → has (2 ^ j) k ≡ true → k ≡ j
only_bit j k h = go (ℕ_discrete k j)
  where
    go : Dec (k ≡ j) → k ≡ j
    go (yes e) = e
    go (no n) =
        let z : 0 + 2 ^ j ≡ 2 ^ j = omega arith in
        absurd (false≢true (sym (ap (λ (x : ℕ). has x k) (sym z) ∙ has_other 0 j k (has_none j) n ∙ has_none k) ∙ h))

-- what holds of a pair holds of it by other names
same_pair : (P : ℕ → ℕ → Type 0) {x y a b : ℕ} → ◌≡◌ {A = ℕ × ℕ} (x, y) (a, b) → P a b → P x y
same_pair P {x} {y} {a} {b} e p =
    let d : x ≡ a = ap (λ (q : ℕ × ℕ). q.0) e in
    let f : y ≡ b = ap (λ (q : ℕ × ℕ). q.1) e in
    rw (d, f) p

module _ {nodes arguments known : List ℕ} (k : KnownOf nodes arguments known) where
  -- The digits ds are a choice of what is known, and σ unifies its pairs.
  abbrev Admits : List ℕ → Substitution → Type 0
  Admits ds σ = ChoiceUnifier (nodes_from nodes arguments) (left_in known) (right_in known) (left_labels known) (right_labels known) ds σ

  -- paired terms are equal
  digit_equal : (ds : List ℕ) (σ : Substitution) → Admits ds σ → (i j : ℕ) → i < left_count known → j < right_count known → word ds i ≡ suc j →
      value (nodes_from nodes arguments) σ (word known (584 + i)) ≡ value (nodes_from nodes arguments) σ (word known (592 + j))
  digit_equal ds σ c i j h g e =
      c.unifies (word known (584 + i)) (word known (592 + j))
      ((pairs_mean (left_in known) (right_in known) ds (λ q l. (c.choice.left_digits q l).0) (word known (584 + i)) (word known (592 + j))).1 (
        i,
        j,
        omega (arith, h, left_long k),
        omega (arith, g, right_long k),
        e,
        sym (left_word known i h),
        sym (right_word known j g),
      ))

  -- what is known but for the sets leaves the same choices
  pub never_kept : {known' : List ℕ} → KeepsKnown known known' → NoneOfKnown nodes arguments known' → NoneOfKnown nodes arguments known
  never_kept s n =
      rw (left_kept k s, right_kept k s, s.same 580 (omega arith), s.same 581 (omega arith)) at n

  module _ {heads next : List ℕ} (b : Based nodes arguments known heads next) where
    -- the classes with other rows
    pub based_kept : {known' : List ℕ} → KeepsKnown known known' → RowsTo nodes arguments known' heads (left_count known') →
        Based nodes arguments known' heads next
    based_kept s r =
        record {
          formed = formed_kept k s b.formed;
          trailed = b.trailed;
          pairs = b.pairs;
          pairing = record { standing = b.pairing.standing; partners = rows_pairs r b.pairs b.pairing.standing };
          in_every = rw (left_kept k s, right_kept k s, s.same 580 (omega arith), s.same 581 (omega arith)) b.in_every;
        }

    -- a choice pairs a left term only with one of its row
    row_has : (ds : List ℕ) (σ : Substitution) → Admits ds σ → (i j : ℕ) → i < left_count known → j < right_count known → word ds i ≡ suc j →
        has (word known (600 + i)) j ≡ true
    row_has ds σ c i j h g e = pick (has (word known (600 + i)) j) refl
      where
        all : Unifies (nodes_from nodes arguments) ((word known (584 + i), word known (592 + j)) ∷ b.pairs) σ
        all x y (Memᴰ.head d) =
            same_pair (λ p q. value (nodes_from nodes arguments) σ p ≡ value (nodes_from nodes arguments) σ q) d (digit_equal ds σ c i j h g e)
        all x y (Memᴰ.tail m) = b.in_every.unifies ds σ c x y m

        pick : (t : Bool) → has (word known (600 + i)) j ≡ t → t ≡ true
        pick true z = refl
        pick false z = absurd (b.pairing.partners.never i j h g z σ all)

    -- without right labels the digit of a left term counts to one of its row
    left_has : right_labels known ≡ 0 → (i : ℕ) → i < left_count known → (ds : List ℕ) (σ : Substitution) → Admits ds σ →
        (j : ℕ) × (j < right_count known) × (word ds i ≡ suc j) × (has (word known (600 + i)) j ≡ true)
    left_has z i h ds σ c =
        let l = left_long k in
        let r = right_long k in
        let w = c.choice.left_digits i (omega (arith, h, l)) in
        let e : word ds i ≡ suc (word ds i - 1) = omega (arith, w.0) in
        let g : word ds i - 1 < right_count known = omega (arith, w.0, w.1, z, r) in
        (word ds i - 1, g, e, row_has ds σ c i (word ds i - 1) h g e)

    -- where its row is empty, no choice is admissible
    pub none_left : right_labels known ≡ 0 → (i : ℕ) → i < left_count known → word known (600 + i) ≡ 0 → NoneOfKnown nodes arguments known
    none_left z i h e =
        record {
          never = λ ds σ c. let x = left_has z i h ds σ c in
              false≢true (sym (has_none x.0) ∙ ap (λ (w : ℕ). has w x.0) (sym e) ∙ x.3);
        }

    -- where its row has one right term, it is paired with it
    only_left : right_labels known ≡ 0 → (i j : ℕ) → i < left_count known → word known (600 + i) ≡ 2 ^ j → (ds : List ℕ) (σ : Substitution) →
        Admits ds σ → word ds i ≡ j + 1
    only_left z i j h e ds σ c =
        let x = left_has z i h ds σ c in
        let y = only_bit j x.0 (ap (λ (w : ℕ). has w x.0) (sym e) ∙ x.3) in
        let d = x.2 in
        omega (arith, y, d)

    -- without left labels a right term is paired with one that may take it
    right_has : left_labels known ≡ 0 → (j : ℕ) → j < right_count known → (ds : List ℕ) (σ : Substitution) → Admits ds σ →
        (i : ℕ) × (i < left_count known) × (word ds i ≡ suc j) × (has (word known (600 + i)) j ≡ true)
    right_has z j g ds σ c =
        let l = left_long k in
        let r = right_long k in
        let w = c.choice.right_digits j (omega (arith, g, r)) in
        let x = (c.choice.paired j (omega (arith, g, r))).0 (omega (arith, w, z)) in
        let u : x.0 < left_count known = omega (arith, x.1, l) in
        (x.0, u, x.2, row_has ds σ c x.0 j u g x.2)

    -- where only one may, with that
    only_right : left_labels known ≡ 0 → (i j : ℕ) → j < right_count known → OneTaker known j → FirstTaker known j i →
        (ds : List ℕ) (σ : Substitution) → Admits ds σ → word ds i ≡ j + 1
    only_right z i j g o f ds σ c =
        let x = right_has z j g ds σ c in
        go x.0 x.1 x.2 x.3 (dec_lt x.0 i) (dec_lt i x.0)
      where
        go : (q : ℕ) → q < left_count known → word ds q ≡ suc j → has (word known (600 + q)) j ≡ true → Dec (q < i) → Dec (i < q) →
            word ds i ≡ j + 1
        go q u e t (yes a) d = absurd (false≢true (sym (f.before q a) ∙ t))
        go q u e t (no a) (yes d) = absurd (false≢true (sym (o.one i q d u f.takes) ∙ t))
        go q u e t (no a) (no d) =
            let y : q ≡ i = omega (arith, a, d) in
            ap (λ (p : ℕ). word ds p) (sym y) ∙ e ∙ omega arith

    -- where none may, no choice is admissible
    pub none_right : left_labels known ≡ 0 → (j : ℕ) → j < right_count known → NoTaker known j → NoneOfKnown nodes arguments known
    none_right z j g n =
        record { never = λ ds σ c. let x = right_has z j g ds σ c in false≢true (sym (n.none x.0 x.1) ∙ x.3) }

    -- A pair that every choice has.
    module _ (i d : ℕ) (h : i < left_count known) (p : 0 < d) (g : d ≤ right_count known)
        (every : (ds : List ℕ) (σ : Substitution) → Admits ds σ → word ds i ≡ d) where
      a_node : word known (584 + i) < node_count nodes
      a_node = k.left_nodes i h

      b_node : word known (592 + (d - 1)) < node_count nodes
      b_node = k.right_nodes (d - 1) (omega (arith, p, g))

      -- what unifies a choice unifies it
      pair_in_every : InEveryKnown nodes arguments known ((word known (584 + i), word known (592 + (d - 1))) ∷ b.pairs)
      pair_in_every = record { unifies = λ ds σ c x y m. go ds σ c x y m }
        where
          go : (ds : List ℕ) (σ : Substitution) → Admits ds σ → Unifies (nodes_from nodes arguments)
              ((word known (584 + i), word known (592 + (d - 1))) ∷ b.pairs) σ
          go ds σ c x y (Memᴰ.head e) =
              let z = every ds σ c in
              same_pair (λ u v. value (nodes_from nodes arguments) σ u ≡ value (nodes_from nodes arguments) σ v) e
              (digit_equal ds σ c i (d - 1) h (omega (arith, p, g)) (omega (arith, z, p)))
          go ds σ c x y (Memᴰ.tail m) = b.in_every.unifies ds σ c x y m

      -- it is joined for good, or no choice is admissible
      joins_forced : {r : Bool} {heads' next' : List ℕ} →
          JoinsPair nodes arguments known heads next (word known (584 + i)) (word known (592 + (d - 1))) r heads' next' →
          Forces nodes arguments known r heads' next'
      joins_forced x =
          record {
            based = λ e. record {
              formed = x.formed e b.pairing.standing.pairs b.pairing.standing.stands;
              trailed = merges_trailed b.trailed x.merges;
              pairs = (word known (584 + i), word known (592 + (d - 1))) ∷ b.pairs;
              pairing = pair_pairing k a_node b_node x e b.pairs b.pairing;
              in_every = pair_in_every;
            };
            none = λ e. record {
              never = λ ds σ c. false≢true (sym e ∙ (pair_answers k a_node b_node x b.pairs b.pairing.standing).1
                  ((outcome_unified (nodes_from nodes arguments) (sections_well_formed nodes arguments k.sections) _
                  (pair_inside k a_node b_node b.pairs b.pairing.standing.inside)).1 (σ, pair_in_every.unifies ds σ c)));
            };
          }

    -- a left term with one partner is joined with it
    pub forced_left : right_labels known ≡ 0 → (i j : ℕ) → i < left_count known → j < right_count known → word known (600 + i) ≡ 2 ^ j →
        {r : Bool} {heads' next' : List ℕ} →
        JoinsPair nodes arguments known heads next (word known (584 + i)) (word known (592 + (j + 1 - 1))) r heads' next' →
        Forces nodes arguments known r heads' next'
    forced_left z i j h g e =
        joins_forced i (j + 1) h (omega arith) (omega (arith, g)) (only_left z i j h e)

    -- a right term that one may take is joined with that
    pub forced_right : left_labels known ≡ 0 → (i j : ℕ) → j < right_count known → OneTaker known j → FirstTaker known j i →
        {r : Bool} {heads' next' : List ℕ} →
        JoinsPair nodes arguments known heads next (word known (584 + i)) (word known (592 + (j + 1 - 1))) r heads' next' →
        Forces nodes arguments known r heads' next'
    forced_right z i j g o f =
        joins_forced i (j + 1) f.within (omega arith) (omega (arith, g)) (only_right z i j g o f)

-- no choice is admissible
pub forced_never : {nodes arguments known heads next : List ℕ} → NoneOfKnown nodes arguments known → Forces nodes arguments known false heads next
forced_never n = record { based = λ e. absurd (false≢true e); none = λ e. n }
