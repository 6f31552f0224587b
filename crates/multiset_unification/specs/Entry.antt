-- Entries, and the complete listing of a problem.
use Rattle.std.specs.Prelude.{ℕ, ◌+◌, ◌↔◌, ◌≡◌, length, take, drop}
use mathlib.Core.List.{List, [], ◌∷◌, ◌++◌, flat_map, Memᴰ}
use Rattle.unification.specs.Unifier.{Unifiable}
use Rattle.unification.specs.Words.{Rising}
use Rattle.unification.specs.Computed.Unifying.{words_of}
use Rattle.multiset_unification.specs.Problem.{Half, Problem}
use Rattle.multiset_unification.specs.Choice.{IsChoice, pairs, Before}

-- The digits are a choice of the half's terms and labels.
abbrev pub HalfChoice : Half → List ℕ → Type 0
HalfChoice h ds = IsChoice (length h.left) (length h.right) (length h.left_labels) (length h.right_labels) ds

-- The pairs of a choice of the half's terms.
abbrev pub half_pairs : Half → List ℕ → List (ℕ × ℕ)
half_pairs h ds = pairs h.left h.right ds

-- A half has n + m digits, several have theirs one after the other.
abbrev pub half_digits : Half → ℕ
half_digits h = length h.left + length h.right

unfoldable pub digit_count : List Half → ℕ
digit_count [] = 0
digit_count (h ∷ hs) = half_digits h + digit_count hs

-- Each half with its digits.
unfoldable pub shares : List Half → List ℕ → List (Half × List ℕ)
shares [] ds = []
shares (h ∷ hs) ds = (h, take (half_digits h) ds) ∷ shares hs (drop (half_digits h) ds)

abbrev pub Share : Problem → List ℕ → Half → List ℕ → Type 0
Share p ds h es = Memᴰ (h, es) (shares p.halves ds)

-- The digits are a choice of the problem: of each half.
pub record Choice (p : Problem) (ds : List ℕ) : Type 0 where
  pub long : length ds ≡ digit_count p.halves
  pub each : (h : Half) (es : List ℕ) → Share p ds h es → HalfChoice h es

-- Its pairs are those of each half.
unfoldable pub pairs_of : Problem → List ℕ → List (ℕ × ℕ)
pairs_of p ds = flat_map (λ s. half_pairs s.0 s.1) (shares p.halves ds)

-- "A choice is admissible if all its pairs have a common unifier."
abbrev pub Admissible : Problem → List ℕ → Type 0
Admissible p ds = Choice p ds × Unifiable p.nodes (pairs_of p ds)

-- "An entry is the n + m digits and then the binding words for all the pairs together."
unfoldable pub entry_of : Problem → List ℕ → List ℕ
entry_of p ds = ds ++ words_of p.nodes (pairs_of p ds)

-- The digits of an entry, and its binding words.
abbrev pub digits_of : Problem → List ℕ → List ℕ
digits_of p e = take (digit_count p.halves) e

abbrev pub bindings_of : Problem → List ℕ → List ℕ
bindings_of p e = drop (digit_count p.halves) e

-- "The entries of all admissible choices": "Entries stand in rising order of their digits, compared from the first."
pub record IsAdmissibleListing (p : Problem) (es : List (List ℕ)) : Type 0 where
  pub rising : Rising (λ e f. Before (digits_of p e) (digits_of p f)) es
  pub entries : (e : List ℕ) → Memᴰ e es ↔ ((ds : List ℕ) × Admissible p ds × (e ≡ entry_of p ds))

-- "The entries of all admissible choices, in this order, are the complete listing."
abbrev pub IsCompleteListing : Problem → List (List ℕ) → Type 0
IsCompleteListing p es = IsAdmissibleListing p es
