-- Terms, under no limit: any variable, any name, any number of arguments.
use Rattle.std.specs.Prelude.{ℕ, Bool, true, false}
use Rattle.std.proofs.Math.Decide.{ℕ_discrete}

mutual
  pub data Term : Type 0 where
    -- a variable, by its number
    var : ℕ → Term
    -- an application of a name to arguments. "Name and count together are its symbol"
    app : ℕ → Terms → Term
    deriving Discrete as term-discrete

  pub data Terms : Type 0 where
    nil : Terms
    cons : Term → Terms → Terms

-- "Term equality is plain": the test of it. What decides is derived from the type, and its own type says that it is right.
unfoldable pub equal : Term → Term → Bool
equal t u = elim (term-discrete ℕ_discrete t u) [ yes e ↦ true | no e ↦ false ]
