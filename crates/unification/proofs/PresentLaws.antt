-- Only the variables present matter to unifiers, so that total functions serve for document 001's finite substitutions.
-- By the values of nodes, which agree where variables present do. Assumes nothing.
use Prim.Native.Nat.{ℕ}
use mathlib.Core.Bool.{Bool, true, false, false≢true}
use mathlib.Core.List.{List}
use mathlib.Core.Logic.{◌↔◌}
use mathlib.Core.Path.{◌≡◌, refl, sym, ap, ◌∙◌}
use lib.ListN.{length}
use Rattle.table.specs.Some.{some_below}
use Rattle.table.proofs.SomeLaws.{some_means, none_some}
use Rattle.terms.specs.Term.{var}
use Rattle.terms.specs.Substitution.{Substitution, sub}
use Rattle.unification.specs.Node.{Node, node_at, Present}
use Rattle.unification.specs.Unifier.{Unifies, MostGeneral}
use Rattle.unification.specs.Code.Given.{WellFormed, Inside}
use Rattle.unification.specs.Computed.Solution.{is_node_of}
use Rattle.unification.proofs.NodeLaws.{value_agree, value_after_lem}
use Rattle.unification.proofs.FirstLaws.{is_variable_lem, of_variable}

-- a variable is present or not
pub present_or_not : (ns : List Node) (x : ℕ) → Dec (Present ns x)
unfolding is_node_of
present_or_not ns x = pick (some_below (length ns) (is_node_of ns x)) refl
  where
    pick : (b : Bool) → some_below (length ns) (is_node_of ns x) ≡ b → Dec (Present ns x)
    pick true e =
        let m = (some_means (is_node_of ns x) (length ns)).0 e in
        yes (m.0, m.1, is_variable_lem x (node_at ns m.0) m.2)
    pick false e =
        no (λ p. false≢true (sym (none_some (is_node_of ns x) (length ns) e p.0 p.1) ∙ of_variable x (node_at ns p.0) p.2))

-- The substitution at the variables present; every other variable stays. So it changes finitely many.
pub restricted : List Node → Substitution → Substitution
restricted ns σ x = elim (present_or_not ns x) [ yes p ↦ σ x | no p ↦ var x ]

-- it agrees on the variables present
pub restricted_present : (ns : List Node) (σ : Substitution) (x : ℕ) → Present ns x → σ x ≡ restricted ns σ x
unfolding restricted
restricted_present ns σ x p = go (present_or_not ns x)
  where
    go : (d : Dec (Present ns x)) → σ x ≡ elim d [ yes p ↦ σ x | no p ↦ var x ]
    go (yes q) = refl
    go (no q) = absurd (q p)

-- and leaves every other variable
pub restricted_absent : (ns : List Node) (σ : Substitution) (x : ℕ) → (Present ns x → ⊥) → restricted ns σ x ≡ var x
unfolding restricted
restricted_absent ns σ x n = go (present_or_not ns x)
  where
    go : (d : Dec (Present ns x)) → elim d [ yes p ↦ σ x | no p ↦ var x ] ≡ var x
    go (yes q) = absurd (n q)
    go (no q) = refl

module _ (ns : List Node) (w : WellFormed ns) (ps : List (ℕ × ℕ)) (h : Inside ns ps) (σ τ : Substitution) (e : (x : ℕ) → Present ns x → σ x ≡ τ x)
  where
    -- only the variables present matter to being a unifier
    pub unifies_agree : Unifies ns ps σ → Unifies ns ps τ
    unifies_agree u a b m =
        sym (value_agree ns w σ τ e a (h a b m).0) ∙ u a b m ∙ value_agree ns w σ τ e b (h a b m).1

    -- and to being a most general one
    pub most_general_agree : MostGeneral ns ps σ → MostGeneral ns ps τ
    most_general_agree g =
        record {
          unifies = unifies_agree g.unifies;
          factors = λ υ u. let f = g.factors υ u in (f.0, λ x p. f.1 x p ∙ ap (sub f.0) (e x p));
        }

-- pairs with a unifier have one that changes only variables present
pub finite_unifier : (ns : List Node) → WellFormed ns → (ps : List (ℕ × ℕ)) → Inside ns ps → (σ : Substitution) → Unifies ns ps σ →
    Unifies ns ps (restricted ns σ)
finite_unifier ns w ps h σ = unifies_agree ns w ps h σ (restricted ns σ) (restricted_present ns σ)

module _ (ns : List Node) (w : WellFormed ns) (ps : List (ℕ × ℕ)) (h : Inside ns ps) (σ : Substitution) where
  -- what comes after a unifier is a unifier
  after_unifies : Unifies ns ps σ → (τ ρ : Substitution) → ((x : ℕ) → Present ns x → τ x ≡ sub ρ (σ x)) → Unifies ns ps τ
  after_unifies u τ ρ e a b m =
      value_after_lem ns w σ τ ρ e a (h a b m).0 ∙ ap (sub ρ) (u a b m) ∙ sym (value_after_lem ns w σ τ ρ e b (h a b m).1)

  -- so the unifiers are just what comes after a most general one
  pub all_unifiers : MostGeneral ns ps σ → (τ : Substitution) → Unifies ns ps τ ↔ ((ρ : Substitution) × ((x : ℕ) → Present ns x → τ x ≡ sub ρ (σ x)))
  all_unifiers g τ = (g.factors τ, λ r. after_unifies g.unifies τ r.0 r.1)
