-- The size of a term: how many variables and applications it is made of. Assumes nothing.
use Prim.Native.Nat.{ℕ, suc, ◌+◌}
use Rattle.terms.specs.Term.{Term, var, app, Terms, nil, cons}

unfoldable mutual
  pub size : Term → ℕ
  size (var x) = 1
  size (app f ts) = suc (sizes ts)

  pub sizes : Terms → ℕ
  sizes nil = 0
  sizes (cons t ts) = size t + sizes ts
