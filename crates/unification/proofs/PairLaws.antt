-- Answer and words depend on the given pairs only as a set, and more pairs have no more unifiers: each pair of one list is a pair of the other.
-- Assumes nothing.
use Prim.Native.Nat.{ℕ}
use mathlib.Core.List.{List}
use mathlib.Core.Logic.{◌↔◌}
use mathlib.Core.Path.{◌≡◌, sym, ◌∙◌}
use Rattle.terms.specs.Substitution.{Substitution}
use Rattle.unification.specs.Node.{Node}
use Rattle.unification.specs.Unifier.{Unifies, Unifiable}
use Rattle.unification.specs.Code.Given.{WellFormed, Inside}
use Rattle.unification.specs.Closure.{Clash, different, Reaches, step, steps, Occurs}
use Rattle.unification.specs.Computed.Unifying.{outcome, unifier, words_of}
use Rattle.unification.proofs.JoinedLaws.{Among, more_joined}
use Rattle.unification.proofs.OutcomeLaws.{ExactlyOne, first, second, third, exactly_one, outcome_clash, outcome_occurs, outcome_unified, unifier_most_general, words_least, words_decided}

-- with more pairs there are no more unifiers
more_pairs : (ns : List Node) (ps qs : List (ℕ × ℕ)) → Among ps qs → (σ : Substitution) → Unifies ns qs σ → Unifies ns ps σ
more_pairs ns ps qs h σ u a b m = u a b (h (a, b) m)

-- pairs that have no unifier have none with more pairs added
pub more_none : (ns : List Node) (ps qs : List (ℕ × ℕ)) → Among ps qs → (Unifiable ns ps → ⊥) → Unifiable ns qs → ⊥
more_none ns ps qs h n u = n (u.0, more_pairs ns ps qs h u.0 u.1)

pub more_clash : (ns : List Node) (ps qs : List (ℕ × ℕ)) → Among ps qs → Clash ns ps → Clash ns qs
more_clash ns ps qs h (different q d e n) = different (more_joined qs h q) d e n

pub more_reaches : {ns : List Node} {ps : List (ℕ × ℕ)} (qs : List (ℕ × ℕ)) → Among ps qs → {i j : ℕ} → Reaches ns ps i j → Reaches ns qs i j
more_reaches qs h (step p e m q) = step (more_joined qs h p) e m (more_joined qs h q)
more_reaches qs h (steps p q) = steps (more_reaches qs h p) (more_reaches qs h q)

module _ (ns : List Node) (w : WellFormed ns) (ps qs : List (ℕ × ℕ)) (h : Inside ns ps) (k : Inside ns qs) where
  -- pairs with the same unifiers have the same words
  pub same_unifiers : ((σ : Substitution) → Unifies ns ps σ ↔ Unifies ns qs σ) → Unifiable ns ps → words_of ns ps ≡ words_of ns qs
  same_unifiers e u =
      let g = unifier_most_general ns w ps h ((outcome_unified ns w ps h).1 u) in
      words_decided ns w ps h (unifier ns ps) g (words_of ns qs)
      (words_least ns w qs k (unifier ns ps)
      (record {
        unifies = (e (unifier ns ps)).0 g.unifies;
        factors = λ τ v. g.factors τ ((e τ).1 v);
      }))

  -- what is answered depends on the pairs only as a set
  pub same_outcome : Among ps qs → Among qs ps → outcome ns ps ≡ outcome ns qs
  same_outcome a b = go (exactly_one ns w ps h)
    where
      go : ExactlyOne (Unifiable ns ps) (Clash ns ps) (Occurs ns ps) → outcome ns ps ≡ outcome ns qs
      go (first u x y) =
          (outcome_unified ns w ps h).1 u ∙ sym ((outcome_unified ns w qs k).1 (u.0, more_pairs ns qs ps b u.0 u.1))
      go (second x c y) = (outcome_clash ns w ps h).1 c ∙ sym ((outcome_clash ns w qs k).1 (more_clash ns ps qs a c))
      go (third x y o) =
          (outcome_occurs ns w ps h).1 o ∙ sym ((outcome_occurs ns w qs k).1
          (record { no_clash = λ c. o.no_clash (more_clash ns qs ps b c); class = o.class; itself = more_reaches qs a o.itself }))

  -- and so do the words
  pub same_words : Among ps qs → Among qs ps → Unifiable ns ps → words_of ns ps ≡ words_of ns qs
  same_words a b =
      same_unifiers (λ σ. (more_pairs ns qs ps b σ, more_pairs ns ps qs a σ))
