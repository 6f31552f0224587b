-- The listings of a problem.
use Rattle.std.specs.Prelude.{ℕ, length}
use mathlib.Core.List.{List, [], ◌∷◌, ◌++◌, map, flat_map}
use Rattle.unification.specs.Outcome.{Outcome, unified, clash, occurs}
use Rattle.unification.specs.Computed.Unifying.{outcome}
use Rattle.multiset_unification.specs.Problem.{Half, Problem}
use Rattle.multiset_unification.specs.Entry.{pairs_of, entry_of}
use Rattle.multiset_unification.specs.Computed.Choices.{choices}

-- Only what is unified is kept.
unfoldable pub kept : {A : Type 0} → Outcome → A → List A
kept unified e = e ∷ []
kept clash e = []
kept occurs e = []

-- The choices of a half (`half_choices_lem`, `half_rise`).
unfoldable pub half_choices : Half → List (List ℕ)
half_choices h = choices (length h.left) (length h.right) (length h.left_labels) (length h.right_labels)

-- Each of the first strings, followed by each of the second.
unfoldable pub cross : List (List ℕ) → List (List ℕ) → List (List ℕ)
cross dss ess = flat_map (λ ds. map (ds ++◌) ess) dss

-- The choices of all halves.
unfoldable pub halves_choices : List Half → List (List ℕ)
halves_choices [] = [] ∷ []
halves_choices (h ∷ hs) = cross (half_choices h) (halves_choices hs)

-- The choices of a problem (`is_choice`, `choices_in_order`, `choices_alone`).
abbrev pub choices_of : Problem → List (List ℕ)
choices_of p = halves_choices p.halves

-- The entries of those whose pairs have a unifier (`admissible_listing_lem`, `admissible_one`).
unfoldable pub admissible_listing : Problem → List (List ℕ)
admissible_listing p = flat_map (λ ds. kept (outcome p.nodes (pairs_of p ds)) (entry_of p ds)) (choices_of p)

-- The complete listing (`listing_complete`, `listing_one`).
unfoldable pub complete_listing : Problem → List (List ℕ)
complete_listing p = admissible_listing p
