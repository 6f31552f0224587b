-- Two lists of one length, paired: the pairs tell both lists.
-- By induction on the lists. Assumes nothing.
use Prim.Native.Nat.{ℕ, suc}
use mathlib.Core.List.{List, [], ◌∷◌, map, zip, zip_with}
use mathlib.Core.Path.{◌≡◌, refl, sym, ap, ◌∙◌}
use native.Mathlib.Omega.{arith}
use lib.ListN.{length}

-- the first terms of pairs, and the second ones
firsts : (T S : List ℕ) → length T ≡ length S → map (λ (p : ℕ × ℕ). p.0) (zip T S) ≡ T
unfolding zip zip_with
firsts [] S e = refl
firsts (a ∷ T) [] e = absurd (omega (arith, e))
firsts (a ∷ T) (b ∷ S) e = ap (a ∷◌) (firsts T S (omega (arith, e)))

seconds : (T S : List ℕ) → length T ≡ length S → map (λ (p : ℕ × ℕ). p.1) (zip T S) ≡ S
unfolding zip zip_with
seconds [] [] e = refl
seconds [] (b ∷ S) e = absurd (omega (arith, e))
seconds (a ∷ T) [] e = absurd (omega (arith, e))
seconds (a ∷ T) (b ∷ S) e = ap (b ∷◌) (seconds T S (omega (arith, e)))

-- there are as many pairs
pub zip_long : (T S : List ℕ) → length T ≡ length S → length (zip T S) ≡ length T
unfolding zip zip_with
zip_long [] S e = refl
zip_long (a ∷ T) [] e = absurd (omega (arith, e))
zip_long (a ∷ T) (b ∷ S) e = ap suc (zip_long T S (omega (arith, e)))

-- a pairing tells what is paired
pub pairing_tells : (T S T' S' : List ℕ) → length T ≡ length S → length T' ≡ length S' → zip T S ≡ zip T' S' → (T ≡ T') × (S ≡ S')
pairing_tells T S T' S' e f q =
    (sym (firsts T S e) ∙ ap (map (λ (p : ℕ × ℕ). p.0)) q ∙ firsts T' S' f, sym (seconds T S e) ∙ ap (map (λ (p : ℕ × ℕ). p.1)) q ∙ seconds T' S' f)
