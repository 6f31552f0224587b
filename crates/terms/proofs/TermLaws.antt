-- The test `equal` is true exactly of equal terms: it is what the derived decision answers.
-- By cases on that. Assumes nothing.
use mathlib.Core.Bool.{true, false}
use mathlib.Core.Path.{◌≡◌, refl}
use native.Mathlib.Decide.{ℕ_discrete}
use Rattle.terms.specs.Term.{Term, term-discrete, equal}

-- the test holds: the terms are equal
pub equal_true : (t u : Term) → equal t u ≡ true → t ≡ u
unfolding equal
equal_true t u h = go (term-discrete ℕ_discrete t u) h
  where
    go : (d : Dec (t ≡ u)) → elim d [ yes e ↦ true | no e ↦ false ] ≡ true → t ≡ u
    go (yes e) q = e
    go (no e) q = cc

-- a term is equal to itself
pub equal_refl : (t : Term) → equal t t ≡ true
unfolding equal
equal_refl t = go (term-discrete ℕ_discrete t t)
  where
    go : (d : Dec (t ≡ t)) → elim d [ yes e ↦ true | no e ↦ false ] ≡ true
    go (yes e) = refl
    go (no e) = absurd (e refl)
