-- A problem's choices, their pairs, and its sides under an assignment: what is said of all halves (`HalvesLaws`), of its own. Laws after these
-- name no half's terms or labels. Assumes nothing.
use Prim.Native.Nat.{ℕ}
use mathlib.Core.List.{List, Memᴰ}
use mathlib.Core.Logic.{◌↔◌}
use mathlib.Core.Path.{◌≡◌}
use lib.ListN.{length}
use Rattle.terms.specs.Term.{Term}
use Rattle.unification.specs.Unifier.{value}
use Rattle.unification.specs.Code.Given.{Inside}
use Rattle.unification.specs.Words.{Rising}
use Rattle.unification.proofs.RisingLaws.{rising_same}
use Rattle.multiset_unification.specs.Problem.{Half, Problem}
use Rattle.multiset_unification.specs.Choice.{Before}
use Rattle.multiset_unification.specs.Entry.{Choice, pairs_of, Share}
use Rattle.multiset_unification.specs.Assignment.{Assignment, EqualSides}
use Rattle.multiset_unification.specs.Instance.{HalfFilled}
use Rattle.multiset_unification.specs.Computed.Listing.{choices_of}
use Rattle.multiset_unification.specs.Code.Posed.{HalfPosed, Posed}
use Rattle.multiset_unification.proofs.ChoiceLaws.{before_one_way}
use Rattle.multiset_unification.proofs.HalfLaws.{EqualPairs, SameBelow, half_inside, filled_balanced}
use Rattle.multiset_unification.proofs.HalvesLaws.{share_half, share_of, halves_choices_lem, halves_rise, pairs_each, equal_pairs, Fills, halves_filled}

-- the choices of a problem that are listed are its choices
pub is_choice : (p : Problem) (ds : List ℕ) → Memᴰ ds (choices_of p) ↔ Choice p ds
is_choice p = halves_choices_lem p.nodes p.halves

-- in strictly rising order
pub choices_in_order : (p : Problem) → Rising Before (choices_of p)
choices_in_order p = halves_rise p.halves

-- and no other rising list holds exactly the choices
pub choices_alone : (p : Problem) (dss : List (List ℕ)) → Rising Before dss → ((ds : List ℕ) → Memᴰ ds dss ↔ Choice p ds) → dss ≡ choices_of p
choices_alone p dss r h =
    rising_same Before before_one_way dss (choices_of p) r (choices_in_order p)
    (λ ds. ((λ m. (is_choice p ds).1 ((h ds).0 m)), (λ m. (h ds).1 ((is_choice p ds).0 m))))

module _ (p : Problem) (g : Posed p) where
  -- what is needed of each half
  pub share_posed : (ds : List ℕ) (h : Half) (es : List ℕ) → Share p ds h es → HalfPosed (length p.nodes) h
  share_posed ds h es m = g.each h (share_half p.halves ds h es m)

  -- the pairs of a choice are of nodes
  pub pairs_inside : (ds : List ℕ) → Choice p ds → Inside p.nodes (pairs_of p ds)
  pairs_inside ds c a b m =
      let s = (pairs_each p ds a b).0 m in
      let h = s.0.0 in
      let es = s.0.1 in
      half_inside h (share_posed ds h es s.1) es (c.each h es s.1) a b s.2

  -- labels that are filled in each half, by a choice whose pairs are equal, make the sides equal
  pub filled_sides : (A : Assignment) (v : ℕ → Term) → SameBelow (length p.nodes) (value p.nodes A.variables) v → (ds : List ℕ) →
      Choice p ds → EqualPairs v (pairs_of p ds) → ((h : Half) (es : List ℕ) → Share p ds h es → HalfFilled h es v A.labels) → EqualSides p A
  filled_sides A v e ds c q f h m =
      let s = share_of p.halves ds h m in
      filled_balanced h (g.each h m) p.nodes A v e s.0 (c.each h s.0 s.1) ((equal_pairs p v ds).0 q h s.0 s.1) (f h s.0 s.1)

  -- equal sides are filled by such a choice
  pub sides_filled : (A : Assignment) → EqualSides p A → Fills p (value p.nodes A.variables) A.labels
  sides_filled = halves_filled p.nodes p.halves g.each
