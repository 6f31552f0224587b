-- Tags stand for terms, each for one: there are as many, no tag stands twice, and what digits pair and put somewhere as tags stands for
-- what they pair and put there as terms.
-- The tags of a side, as nodes, are its terms; pairing and putting go through such a map. Assumes nothing.
use Prim.Native.Nat.{ℕ, suc, ◌+◌, ◌-◌, ◌<◌}
use mathlib.Core.Bool.{Bool, true, false, cond}
use mathlib.Core.List.{List, [], ◌∷◌, map}
use mathlib.Core.Path.{◌≡◌, refl, ap, ◌∙◌}
use native.Mathlib.Omega.{arith}
use borrow.Author.Tests.{leb-true}
use lib.Dec.{eqb, leb}
use lib.ListN.{length, drop, length-map, get_or-append}
use lib.Seq.{get_or-append-add}
use Rattle.table.specs.Layout.{word}
use Rattle.unification.proofs.ListLaws.{map_at}
use Rattle.multiset_unification.specs.Choice.{pairs, with_digit, in_left, in_right}
use Rattle.multiset_unification.specs.Entry.{HalfChoice, half_pairs}
use Rattle.algorithms.specs.Sides.{Sides, left_tags, right_tags, node_of, node_pairs}
use Rattle.algorithms.specs.Code.Placing.{Distinct}
use Rattle.algorithms.proofs.NumberLaws.{numbers_long, numbers_distinct, numbers_stand}

-- what stands for the terms with a digit has it
with_map : (f : ℕ → ℕ) (d : ℕ) (ts ds : List ℕ) → map f (with_digit d ts ds) ≡ with_digit d (map f ts) ds
unfolding with_digit
with_map f d [] ds = refl
with_map f d (a ∷ ts) [] = refl
with_map f d (a ∷ ts) (e ∷ ds) = pick (eqb e d) (with_map f d ts ds)
  where
    pick : (b : Bool) → map f (with_digit d ts ds) ≡ with_digit d (map f ts) ds →
        map f (cond b (a ∷ with_digit d ts ds) (with_digit d ts ds)) ≡ cond b (f a ∷ with_digit d (map f ts) ds) (with_digit d (map f ts) ds)
    pick true r = ap (f a ∷◌) r
    pick false r = r

-- what stands for two terms of a pair is a pair, where left digits are above 0
pairs_map : (f : ℕ → ℕ) (ls rs ds : List ℕ) → ((i : ℕ) → i < length ls → 0 < word ds i) →
    map (λ p. (f p.0, f p.1)) (pairs ls rs ds) ≡ pairs (map f ls) (map f rs) ds
unfolding pairs
pairs_map f [] rs ds h = refl
pairs_map f (a ∷ ls) rs [] h = refl
pairs_map f (a ∷ ls) rs (d ∷ ds) h = rw (length-map rs f) (pick (leb d (length rs)) refl (pairs_map f ls rs ds (λ i q. h (suc i) (omega arith))))
  where
    both : ℕ × ℕ → ℕ × ℕ
    both p = (f p.0, f p.1)

    pick : (b : Bool) → leb d (length rs) ≡ b → map both (pairs ls rs ds) ≡ pairs (map f ls) (map f rs) ds →
        map both (cond b ((a, word rs (d - 1)) ∷ pairs ls rs ds) (pairs ls rs ds))
        ≡ cond b ((f a, word (map f rs) (d - 1)) ∷ pairs (map f ls) (map f rs) ds) (pairs (map f ls) (map f rs) ds)
    pick true e r =
        let z : 0 < d = h 0 (omega arith) in
        let k = leb-true d (length rs) e in
        let w : word (map f rs) (d - 1) ≡ f (word rs (d - 1)) = map_at f rs (d - 1) (omega (arith, z, k)) in
        rw (w, r)
    pick false e r = r

-- there is a tag for each term
pub left_tags_long : (t : Sides) → length (left_tags t) ≡ length t.half.left
unfolding left_tags
left_tags_long t = numbers_long _ _

pub right_tags_long : (t : Sides) → length (right_tags t) ≡ length t.half.right
unfolding right_tags
right_tags_long t = numbers_long _ _

-- and no tag for two
pub left_tags_distinct : (t : Sides) → Distinct (left_tags t)
unfolding left_tags
left_tags_distinct t = numbers_distinct _ _

pub right_tags_distinct : (t : Sides) → Distinct (right_tags t)
unfolding right_tags
right_tags_distinct t = numbers_distinct _ _

-- the tags of a side stand for its terms
left_nodes : (t : Sides) → map (node_of t) (left_tags t) ≡ t.half.left
unfolding left_tags
left_nodes t =
    numbers_stand (node_of t) 0 (length t.half.left) t.half.left refl
    (λ i h. let z : 0 + i ≡ i = omega arith in ap (node_of t) z ∙ get_or-append t.half.left t.half.right 0 i h)

right_nodes : (t : Sides) → map (node_of t) (right_tags t) ≡ t.half.right
unfolding right_tags
right_nodes t =
    numbers_stand (node_of t) (length t.half.left) (length t.half.right) t.half.right refl
    (λ j h. get_or-append-add t.half.left t.half.right j 0)

-- the pairs of tags stand for the pairs of a choice
pub pairs_stand : (t : Sides) (ds : List ℕ) → HalfChoice t.half ds → node_pairs t (pairs (left_tags t) (right_tags t) ds) ≡ half_pairs t.half ds
unfolding node_pairs
pairs_stand t ds c =
    pairs_map (node_of t) (left_tags t) (right_tags t) ds (λ i h. (c.left_digits i (rw (← left_tags_long t) h)).0) ∙
    rw (left_nodes t, right_nodes t) refl

-- the tags in each label stand for the terms that the choice puts there
pub lefts_stand : (t : Sides) (ds : List ℕ) (p : ℕ) →
    map (node_of t) (in_left (left_tags t) (right_tags t) ds p) ≡ in_left t.half.left t.half.right ds p
unfolding in_left
lefts_stand t ds p =
    with_map (node_of t) (suc p) (right_tags t) (drop (length (left_tags t)) ds) ∙ rw (right_nodes t, left_tags_long t) refl

pub rights_stand : (t : Sides) (ds : List ℕ) (q : ℕ) →
    map (node_of t) (in_right (left_tags t) (right_tags t) ds q) ≡ in_right t.half.left t.half.right ds q
unfolding in_right
rights_stand t ds q =
    with_map (node_of t) (length (right_tags t) + suc q) (left_tags t) ds ∙ rw (left_nodes t, right_tags_long t) refl
