-- Rows that lose pairs one after the other: what each turn keeps is kept by all, and where one leaves no choice, there was none before.
-- Assumes nothing.
use Prim.Native.Nat.{ℕ, ◌+◌}
use mathlib.Core.List.{List}
use mathlib.Core.Path.{◌≡◌, ap, ◌∙◌}
use native.Mathlib.Omega.{arith}
use Rattle.std.specs.declared.option.Option.{Option}
use Rattle.std.specs.declared.option.Option.TheVariants.{None, Some}
use Rattle.branches.specs.Code.Known.{KnownOf, KeepsKnown}
use Rattle.branches.proofs.KnownLaws.{keeps_twice}
use Rattle.forcing.specs.Code.Forced.{Settles}
use Rattle.forcing.proofs.ForcedLaws.{never_kept}

-- one row was tried after others
module _ {nodes arguments known₀ known known' heads' next' : List ℕ} {r : Option ℕ} (s : KeepsKnown known₀ known)
    (x : Settles nodes arguments known known' heads' next' r) where
  -- if no row had fewer pairs and this has not, nothing changed
  pub rows_same : {fewer n : ℕ} → (fewer ≡ 0 → known ≡ known₀) → r ≡ Some n → fewer + n ≡ 0 → known' ≡ known₀
  rows_same {fewer} {n} f e z =
      let o : n ≡ 0 = omega (arith, z) in
      x.same (e ∙ ap Some o) ∙ f (omega (arith, z))

  -- there is no choice
  pub rows_none : KnownOf nodes arguments known₀ → r ≡ None → Settles nodes arguments known₀ known' heads' next' None
  rows_none k e =
      record {
        keeps = keeps_twice s x.keeps;
        based = λ n z. absurd (cc);
        same = λ z. absurd (cc);
        none = λ z. never_kept k s (x.none e);
      }
