-- Two substitutions are one, and only the variables that a term holds matter.
-- By induction on the term, with that on its arguments. Assumes nothing.
use Prim.Native.Nat.{ℕ}
use mathlib.Core.Path.{◌≡◌, refl, ap, ap₂}
use Rattle.terms.specs.Term.{Term, var, app, Terms, nil, cons}
use Rattle.terms.specs.Substitution.{Substitution, sub, subs}

-- a variable that stays is one whose term is itself
mutual
  unfolding sub

  pub sub_var : (t : Term) → sub var t ≡ t
  sub_var (var x) = refl
  sub_var (app f ts) = ap (app f) (subs_var ts)

  subs_var : (ts : Terms) → subs var ts ≡ ts
  subs_var nil = refl
  subs_var (cons t ts) = ap₂ cons (sub_var t) (subs_var ts)

-- one substitution after another is one substitution
mutual
  unfolding sub

  pub sub_sub : (ρ σ : Substitution) (t : Term) → sub ρ (sub σ t) ≡ sub (λ x. sub ρ (σ x)) t
  sub_sub ρ σ (var x) = refl
  sub_sub ρ σ (app f ts) = ap (app f) (subs_subs ρ σ ts)

  subs_subs : (ρ σ : Substitution) (ts : Terms) → subs ρ (subs σ ts) ≡ subs (λ x. sub ρ (σ x)) ts
  subs_subs ρ σ nil = refl
  subs_subs ρ σ (cons t ts) = ap₂ cons (sub_sub ρ σ t) (subs_subs ρ σ ts)

-- The term holds the variable x.
mutual
  pub data Holds (x : ℕ) : Term → Type 0 where
    here : Holds x (var x)
    inside : {f : ℕ} {ts : Terms} → HoldsIn x ts → Holds x (app f ts)

  pub data HoldsIn (x : ℕ) : Terms → Type 0 where
    first : {t : Term} {ts : Terms} → Holds x t → HoldsIn x (cons t ts)
    later : {t : Term} {ts : Terms} → HoldsIn x ts → HoldsIn x (cons t ts)

-- only the variables that a term holds matter
mutual
  unfolding sub

  pub agree : (σ τ : Substitution) (t : Term) → ((x : ℕ) → Holds x t → σ x ≡ τ x) → sub σ t ≡ sub τ t
  agree σ τ (var x) h = h x here
  agree σ τ (app f ts) h = ap (app f) (agree_all σ τ ts (λ x p. h x (inside p)))

  agree_all : (σ τ : Substitution) (ts : Terms) → ((x : ℕ) → HoldsIn x ts → σ x ≡ τ x) → subs σ ts ≡ subs τ ts
  agree_all σ τ nil h = refl
  agree_all σ τ (cons t ts) h = ap₂ cons (agree σ τ t (λ x p. h x (first p))) (agree_all σ τ ts (λ x p. h x (later p)))
