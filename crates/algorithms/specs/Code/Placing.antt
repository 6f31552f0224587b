-- The parts of a choice, as Algorithm 1 goes over them: what is chosen, what is left, and where it is put.
use Rattle.std.specs.Prelude.{ℕ, suc, ◌+◌, ◌<◌, ◌↔◌, ◌≡◌, length}
use mathlib.Core.List.{List, [], ◌∷◌, Memᴰ}
use Rattle.table.specs.Layout.{word}
use Rattle.unification.specs.Node.{tabulate}
use Rattle.unification.specs.Words.{Rising}
use Rattle.multiset_unification.specs.Choice.{with_digit}

-- No element stands twice.
abbrev pub Distinct : {A : Type 0} → List A → Type 0
Distinct xs = Rising (λ x y. x ≡ y → ⊥) xs

-- Both lists have the same elements.
abbrev pub SameMembers : List ℕ → List ℕ → Type 0
SameMembers xs ys = (x : ℕ) → Memᴰ x xs ↔ Memᴰ x ys

-- A list, the elements that are chosen from it, and those that are left, in its order.
pub data Split : List ℕ → List ℕ → List ℕ → Type 0 where
  none : Split [] [] []
  chosen : {a : ℕ} {F T R : List ℕ} → Split F T R → Split (a ∷ F) (a ∷ T) R
  left : {a : ℕ} {F T R : List ℕ} → Split F T R → Split (a ∷ F) T (a ∷ R)

-- Something is chosen in the first way, and not in the second.
abbrev pub Apart : List ℕ × List ℕ → List ℕ × List ℕ → Type 0
Apart x y = (a : ℕ) × Memᴰ a x.0 × (Memᴰ a y.0 → ⊥)

-- For each element the number, from 0, of one of k parts.
pub data Placing (k : ℕ) : List ℕ → List ℕ → Type 0 where
  none : Placing k [] []
  put : {a q : ℕ} {ts qs : List ℕ} → q < k → Placing k ts qs → Placing k (a ∷ ts) (q ∷ qs)

-- The parts.
unfoldable pub parts : ℕ → List ℕ → List ℕ → List (List ℕ)
parts k ts qs = tabulate k (λ q. with_digit q ts qs)

-- Left terms F with their digits, and then the digits fs: T are paired, with S of the right terms rs, and R are put in the right labels qs.
pub data Lefts (rs : List ℕ) (l : ℕ) (fs : List ℕ) : List ℕ → List ℕ → List ℕ → List ℕ → List ℕ → List ℕ → Type 0 where
  none : Lefts rs l fs [] fs [] [] [] []
  pair : {a s : ℕ} {F ds T S R qs : List ℕ} → s < length rs → Lefts rs l fs F ds T S R qs → Lefts rs l fs (a ∷ F) (suc s ∷ ds) (a ∷ T) (word rs s ∷ S) R qs
  put : {a q : ℕ} {F ds T S R qs : List ℕ} → q < l → Lefts rs l fs F ds T S R qs → Lefts rs l fs (a ∷ F) ((length rs + suc q) ∷ ds) T S (a ∷ R) (q ∷ qs)

-- Right terms G with their digits: S are paired, and R are put in the left labels ps.
pub data Rights (k : ℕ) : List ℕ → List ℕ → List ℕ → List ℕ → List ℕ → Type 0 where
  none : Rights k [] [] [] [] []
  pair : {b : ℕ} {G fs S R ps : List ℕ} → Rights k G fs S R ps → Rights k (b ∷ G) (0 ∷ fs) (b ∷ S) R ps
  put : {b p : ℕ} {G fs S R ps : List ℕ} → p < k → Rights k G fs S R ps → Rights k (b ∷ G) (suc p ∷ fs) S (b ∷ R) (p ∷ ps)
