-- Document 01's problem has one half: what is said of all halves at once is what document 01 says of its two sides.
-- The half's share of the digits is all of them. Assumes nothing.
use Prim.Native.Nat.{ℕ}
use mathlib.Core.List.Memᴰ
use mathlib.Core.List.{List, [], ◌∷◌, ◌++◌, map, flat_map, append-nil}
use mathlib.Core.Logic.{◌↔◌}
use mathlib.Core.Path.{◌≡◌, refl, sym, ap, ◌∙◌}
use native.Mathlib.Omega.{arith}
use lib.ListN.{length}
use Rattle.unification.specs.Node.{Node}
use Rattle.unification.specs.Unifier.{Unifiable}
use Rattle.unification.specs.Computed.Unifying.{outcome, words_of}
use Rattle.unification.proofs.FlatLaws.{flat_same, flat_one}
use Rattle.multiset_unification.specs.Problem.{Half, Problem}
use Rattle.multiset_unification.specs.Entry.{HalfChoice, half_pairs, half_digits, digit_count, shares, Choice, pairs_of, Admissible, entry_of}
use Rattle.multiset_unification.specs.Assignment.{Assignment, Balanced, EqualSides}
use Rattle.multiset_unification.specs.Computed.Listing.{kept, half_choices, cross, halves_choices, admissible_listing}
use Rattle.multiset_unification.specs.Code.Posed.{HalfPosed, Posed}
use Rattle.multiset_unification.proofs.HalfLaws.{half_choices_lem}
use Rattle.multiset_unification.proofs.HalvesLaws.{EachShare, shares_first, each_none, each_then, choice_none, choice_then}

-- A problem of one half.
abbrev pub one_half : List Node → Half → Problem
one_half ns h = record { nodes = ns; halves = h ∷ [] }

module _ (h : Half) where
  -- a problem of one half is well posed if the half is
  pub one_posed : (ns : List Node) → Posed (one_half ns h) → HalfPosed (length ns) h
  one_posed ns g = g.each h (Memᴰ.head refl)

  -- all digits are the half's
  one_shares : (ds : List ℕ) → length ds ≡ half_digits h → shares (h ∷ []) ds ≡ (h, ds) ∷ []
  unfolding shares
  one_shares ds e = ap (shares (h ∷ [])) (sym (append-nil ds)) ∙ shares_first h [] ds [] e

  -- it has n + m of them
  pub one_digits : digit_count (h ∷ []) ≡ half_digits h
  unfolding digit_count
  one_digits = omega arith

  -- what holds of each half with its digits holds of this one
  pub one_share : (P : Half → List ℕ → Type 0) (ds : List ℕ) → length ds ≡ half_digits h → EachShare P (h ∷ []) ds ↔ P h ds
  one_share P ds e = (
    (λ p. p h ds (rw (one_shares ds e) (Memᴰ.head refl))),
    (λ p. rw (append-nil ds) at (each_then P h [] ds [] e p (each_none P))),
  )

  -- the choices are those of the half
  pub one_choice : (ns : List Node) (ds : List ℕ) → Choice (one_half ns h) ds ↔ HalfChoice h ds
  one_choice ns ds = (
    (λ c. (one_share HalfChoice ds (c.long ∙ one_digits)).0 c.each),
    (λ c. rw (append-nil ds) at (choice_then ns h [] ds [] c (choice_none ns))),
  )

  -- and so are the pairs
  pub one_pairs : (ns : List Node) (ds : List ℕ) → HalfChoice h ds → pairs_of (one_half ns h) ds ≡ half_pairs h ds
  unfolding pairs_of flat_map
  one_pairs ns ds c = rw (one_shares ds c.long) (append-nil (half_pairs h ds))

  one_choices : halves_choices (h ∷ []) ≡ half_choices h
  unfolding halves_choices cross
  one_choices = flat_one (λ ds. ds ++ []) (half_choices h) ∙ same (half_choices h)
    where
      same : (dss : List (List ℕ)) → map (λ ds. ds ++ []) dss ≡ dss
      same [] = refl
      same (ds ∷ dss) = rw (append-nil ds, same dss) refl

  -- document 01's listing is that of the half's choices and pairs
  pub one_listing : (ns : List Node) →
      admissible_listing (one_half ns h) ≡ flat_map (λ ds. kept (outcome ns (half_pairs h ds)) (ds ++ words_of ns (half_pairs h ds))) (half_choices h)
  unfolding admissible_listing entry_of
  one_listing ns =
      rw one_choices
      (flat_same _ _ (half_choices h) (λ ds m. ap (λ (ps : List (ℕ × ℕ)). kept (outcome ns ps) (ds ++ words_of ns ps))
      (one_pairs ns ds ((half_choices_lem h ds).0 m))))

  -- "A choice is admissible if all its pairs have a common unifier.": those of the half
  pub one_admissible : (ns : List Node) (ds : List ℕ) → Admissible (one_half ns h) ds ↔ (HalfChoice h ds × Unifiable ns (half_pairs h ds))
  one_admissible ns ds = (
    (λ a. let c = (one_choice ns ds).0 a.0 in (c, rw (one_pairs ns ds c) at a.1)),
    (λ a. ((one_choice ns ds).1 a.0, rw (one_pairs ns ds a.0) a.1)),
  )

  -- "Two sides are then equal": those of the half
  pub one_equal : (ns : List Node) (A : Assignment) → EqualSides (one_half ns h) A ↔ Balanced ns h A
  one_equal ns A = ((λ e. e h (Memᴰ.head refl)), (λ b k m. rw (Memᴰ.eq_of_singleton m) b))
