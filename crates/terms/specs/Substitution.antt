-- Substitutions, as in document 001, and what they make of terms.
use Rattle.std.specs.Prelude.{ℕ}
use Rattle.terms.specs.Term.{Term, var, app, Terms, nil, cons}

-- A substitution gives a term for every variable. Only those that a term holds matter to it (`agree`).
abbrev pub Substitution : Type 0
Substitution = ℕ → Term

-- "with every variable in them replaced by its term, all at once"
unfoldable mutual
  pub sub : Substitution → Term → Term
  sub σ (var x) = σ x
  sub σ (app f ts) = app f (subs σ ts)

  pub subs : Substitution → Terms → Terms
  subs σ nil = nil
  subs σ (cons t ts) = cons (sub σ t) (subs σ ts)
