-- What Algorithm 1's unifier of an entry maps a label to: the terms that the digits put there, under the unifier of the pairs, and a
-- variable for its rest, or none where the other side has no label.
-- The labels are all different, so that each is mapped as is said at its place. Assumes nothing.
use Prim.Native.Nat.{ℕ, zero, suc, ◌<◌}
use mathlib.Core.Bool.{Bool, true, false, false≢true}
use mathlib.Core.List.{List, [], ◌∷◌, ◌++◌, map, zip_with, append-nil, map-map, Memᴰ}
use mathlib.Core.Logic.{◌⊎◌, inl, inr}
use mathlib.Core.Path.{◌≡◌, refl, sym, ap, ◌∙◌}
use native.Mathlib.Omega.{arith}
use borrow.Author.Tests.{eq-eqb, ne_eqb}
use lib.Dec.{eqb}
use lib.ListN.{length, get_or}
use Rattle.table.specs.Layout.{word}
use Rattle.multiset_unification.specs.Code.Posed.{Different, Posed}
use Rattle.terms.specs.Term.{Term}
use Rattle.terms.specs.Substitution.{Substitution, sub}
use Rattle.unification.specs.Node.{tabulate, term_of}
use Rattle.unification.specs.Unifier.{value}
use Rattle.unification.specs.Computed.Unifying.{unifier}
use Rattle.unification.proofs.ListLaws.{tabulate_length, tabulate_at, length_none, member_place}
use Rattle.multiset_unification.specs.Choice.{pairs, in_left, in_right}
use Rattle.multiset_unification.specs.Entry.{digits_of}
use Rattle.multiset_unification.proofs.OneHalfLaws.{one_posed}
use Rattle.multiset_unification.proofs.LabelLaws.{left_different, right_different, sides_different}
use Rattle.algorithms.specs.Mmset.{MultisetVariable, given, fresh, Mmset, apply, compose}
use Rattle.algorithms.specs.Algorithms.{Contexts, context}
use Rattle.algorithms.specs.Sides.{Sides, problem, left_tags, right_tags, node_of, node_pairs, gone_over_as, choice_result, entry_result}
use Rattle.algorithms.specs.Unifier.{standing, image, on_contexts, unifier_of}
use Rattle.algorithms.proofs.TagLaws.{lefts_stand, rights_stand}
use Rattle.algorithms.proofs.DistributeLaws.{context_terms}
use Rattle.algorithms.proofs.MmsetLaws.{itself_stays, itself_alone}

-- The variables that stand for what else a label holds, in Algorithm 1's unifier of an entry.
abbrev pub rests_in : Sides → List ℕ → ℕ → List MultisetVariable
rests_in t e M = ((unifier_of t (entry_result t e)).on_variables (given M)).variables

-- What stands for the rest of the label M: nothing if the terms are all that it holds, otherwise M or a variable of its own.
pub data Rests (M : ℕ) : Bool → List MultisetVariable → Type 0 where
  none : Rests M true []
  kept : Rests M false (given M ∷ [])
  new : Rests M false (fresh M ∷ [])

context_rests : (b : Bool) (M : ℕ) (ts : List ℕ) → Rests M b (context b M ts).1.variables
unfolding context
context_rests true M ts = none
context_rests false M [] = kept
context_rests false M (a ∷ ts) = new

context_label : (b : Bool) (M : ℕ) (ts : List ℕ) → (context b M ts).0 ≡ M
unfolding context
context_label true M ts = refl
context_label false M [] = refl
context_label false M (a ∷ ts) = refl

-- a label is mapped as is said at its place
image_at : (t : Sides) (b : Bool) (ks : List ℕ) (ps : List (List ℕ)) (cs : Contexts) → length ks ≡ length ps → Different ks → (p : ℕ) →
    p < length ks → image t (zip_with (context b) ks ps ++ cs) (word ks p) ≡ standing t (context b (word ks p) (get_or ps p [])).1
unfolding image zip_with
image_at t b [] ps cs l d p h = absurd (omega arith)
image_at t b (k ∷ ks) [] cs l d p h = absurd (omega arith)
image_at t b (k ∷ ks) (P ∷ ps) cs l d zero h = rw (eq-eqb k (context b k P).0 (sym (context_label b k P))) refl
image_at t b (k ∷ ks) (P ∷ ps) cs l d (suc p) h =
    rw (ne_eqb (word ks p) (context b k P).0 (λ e. d 0 (suc p) (omega arith) h (sym (e ∙ context_label b k P))))
    (image_at t b ks ps cs (omega arith) (λ i j x y. d (suc i) (suc j) (omega arith) (omega arith)) p (omega arith))

-- another one by what comes after
image_after : (t : Sides) (b : Bool) (ks : List ℕ) (ps : List (List ℕ)) (cs : Contexts) (x : ℕ) → ((p : ℕ) → p < length ks → x ≡ word ks p → ⊥) →
    image t (zip_with (context b) ks ps ++ cs) x ≡ image t cs x
unfolding image zip_with
image_after t b [] ps cs x h = refl
image_after t b (k ∷ ks) [] cs x h = refl
image_after t b (k ∷ ks) (P ∷ ps) cs x h =
    rw (ne_eqb x (context b k P).0 (λ e. h 0 (omega arith) (e ∙ context_label b k P)))
    (image_after t b ks ps cs x (λ p l. h (suc p) (omega arith)))

module _ (t : Sides) (e : List ℕ) where
  -- The term unifier of Algorithm 1's unifier of an entry.
  abbrev pub unifier_in : Substitution
  unifier_in = unifier t.nodes (node_pairs t (pairs (left_tags t) (right_tags t) (digits_of (problem t) e)))

  -- What that maps a label to.
  abbrev pub mapped : ℕ → Mmset Term
  mapped M = (unifier_of t (entry_result t e)).on_variables (given M)

  -- the terms are under the unifier
  mapped_terms : (M : ℕ) (S : Mmset ℕ) → image t (entry_result t e).contexts M ≡ standing t S →
      (mapped M).terms ≡ map (value t.nodes unifier_in) (map (node_of t) S.terms)
  unfolding unifier_of compose apply on_contexts standing entry_result choice_result gone_over_as
  mapped_terms M S h =
      rw (h, itself_alone S.variables)
      (append-nil _ ∙ map-map (sub unifier_in) (λ a. term_of t.nodes (node_of t a)) S.terms ∙
      sym (map-map (value t.nodes unifier_in) (node_of t) S.terms))

  -- and the variables stay
  mapped_variables : (M : ℕ) (S : Mmset ℕ) → image t (entry_result t e).contexts M ≡ standing t S → (mapped M).variables ≡ S.variables
  unfolding unifier_of compose apply on_contexts standing
  mapped_variables M S h = rw h (itself_stays S.variables)

  -- Each label of a side is mapped to the terms of its part and what stands for its rest.
  pub record Maps (exact : Bool) (ks : List ℕ) (part : ℕ → List ℕ) : Type 0 where
    pub terms : (p : ℕ) → p < length ks → (mapped (word ks p)).terms ≡ map (value t.nodes unifier_in) (part p)
    pub rests : (p : ℕ) → p < length ks → Rests (word ks p) exact (rests_in t e (word ks p))

  -- so it is where each is said to hold tags that stand for its part
  maps : (exact : Bool) (ks : List ℕ) (tags part : ℕ → List ℕ) →
      ((p : ℕ) → p < length ks → image t (entry_result t e).contexts (word ks p) ≡ standing t (context exact (word ks p) (tags p)).1) →
      ((p : ℕ) → map (node_of t) (tags p) ≡ part p) → Maps exact ks part
  maps exact ks tags part h s =
      record {
        terms =
            λ p l. mapped_terms (word ks p) (context exact (word ks p) (tags p)).1 (h p l)
            ∙ ap (λ (us : List ℕ). map (value t.nodes unifier_in) (map (node_of t) us)) (context_terms exact (word ks p) (tags p))
            ∙ ap (map (value t.nodes unifier_in)) (s p);
        rests = λ p l. rw (mapped_variables (word ks p) (context exact (word ks p) (tags p)).1 (h p l)) (context_rests exact (word ks p) (tags p));
      }

  module _ (ok : Posed (problem t)) where
    -- What is said of each label: the tags that the digits put there.
    abbrev left_tags_at : ℕ → List ℕ
    left_tags_at = in_left (left_tags t) (right_tags t) (digits_of (problem t) e)

    abbrev right_tags_at : ℕ → List ℕ
    right_tags_at = in_right (left_tags t) (right_tags t) (digits_of (problem t) e)

    left_image : (p : ℕ) → p < length t.half.left_labels →
        image t (entry_result t e).contexts (word t.half.left_labels p)
        ≡ standing t (context (eqb (length t.half.right_labels) 0) (word t.half.left_labels p) (left_tags_at p)).1
    unfolding entry_result choice_result gone_over_as
    left_image p h =
        let ks = t.half.left_labels in
        let qs = t.half.right_labels in
        let b = eqb (length qs) 0 in
        image_at t b ks (tabulate (length ks) left_tags_at) _ (sym (tabulate_length (length ks) left_tags_at))
        (left_different ks qs (one_posed t.half t.nodes ok).once) p h
        ∙ ap (λ (us : List ℕ). standing t (context b (word ks p) us).1) (tabulate_at (length ks) left_tags_at [] p h)

    right_image : (q : ℕ) → q < length t.half.right_labels →
        image t (entry_result t e).contexts (word t.half.right_labels q)
        ≡ standing t (context (eqb (length t.half.left_labels) 0) (word t.half.right_labels q) (right_tags_at q)).1
    unfolding entry_result choice_result gone_over_as
    right_image q h =
        let ks = t.half.left_labels in
        let qs = t.half.right_labels in
        let b = eqb (length ks) 0 in
        image_after t (eqb (length qs) 0) ks _ _ (word qs q) (λ p l. sides_different ks qs (one_posed t.half t.nodes ok).once p q l h)
        ∙ ap (λ (cs : Contexts). image t cs (word qs q)) (sym (append-nil (zip_with (context b) qs (tabulate (length qs) right_tags_at))))
        ∙ image_at t b qs (tabulate (length qs) right_tags_at) [] (sym (tabulate_length (length qs) right_tags_at))
        (right_different ks qs (one_posed t.half t.nodes ok).once) q h
        ∙ ap (λ (us : List ℕ). standing t (context b (word qs q) us).1) (tabulate_at (length qs) right_tags_at [] q h)

    -- the labels of both sides are mapped to the terms that the digits put there; there is no rest where the other side has no label
    pub left_maps :
        Maps (eqb (length t.half.right_labels) 0) t.half.left_labels (in_left t.half.left t.half.right (digits_of (problem t) e))
    left_maps = maps _ t.half.left_labels left_tags_at _ left_image (lefts_stand t (digits_of (problem t) e))

    pub right_maps :
        Maps (eqb (length t.half.left_labels) 0) t.half.right_labels (in_right t.half.left t.half.right (digits_of (problem t) e))
    right_maps = maps _ t.half.right_labels right_tags_at _ right_image (rights_stand t (digits_of (problem t) e))

rests_none : {M : ℕ} {b : Bool} {vs : List MultisetVariable} → b ≡ true → Rests M b vs → vs ≡ []
rests_none e none = refl
rests_none e kept = absurd (false≢true e)
rests_none e new = absurd (false≢true e)

rests_one : {M : ℕ} {b : Bool} {vs : List MultisetVariable} → b ≡ false → Rests M b vs → (vs ≡ given M ∷ []) ⊎ (vs ≡ fresh M ∷ [])
rests_one e none = absurd (false≢true (sym e))
rests_one e kept = inl refl
rests_one e new = inr refl

-- where the other side has no label, a label has no rest
pub exact_left : (t : Sides) (e : List ℕ) → Posed (problem t) → t.half.right_labels ≡ [] → (M : ℕ) → Memᴰ M t.half.left_labels →
    rests_in t e M ≡ []
exact_left t e ok z M m =
    let s = member_place t.half.left_labels M m in
    rw s.2 (rests_none (eq-eqb (length t.half.right_labels) 0 (ap length z)) ((left_maps t e ok).rests s.0 s.1))

pub exact_right : (t : Sides) (e : List ℕ) → Posed (problem t) → t.half.left_labels ≡ [] → (M : ℕ) → Memᴰ M t.half.right_labels →
    rests_in t e M ≡ []
exact_right t e ok z M m =
    let s = member_place t.half.right_labels M m in
    rw s.2 (rests_none (eq-eqb (length t.half.left_labels) 0 (ap length z)) ((right_maps t e ok).rests s.0 s.1))

-- otherwise it has one, for which a variable of its own stands
pub rest_left : (t : Sides) (e : List ℕ) → Posed (problem t) → (t.half.right_labels ≡ [] → ⊥) → (M : ℕ) → Memᴰ M t.half.left_labels →
    (rests_in t e M ≡ given M ∷ []) ⊎ (rests_in t e M ≡ fresh M ∷ [])
rest_left t e ok z M m =
    let s = member_place t.half.left_labels M m in
    rw s.2
    (rests_one (ne_eqb (length t.half.right_labels) 0 (λ q. z (length_none t.half.right_labels q))) ((left_maps t e ok).rests s.0 s.1))

pub rest_right : (t : Sides) (e : List ℕ) → Posed (problem t) → (t.half.left_labels ≡ [] → ⊥) → (M : ℕ) → Memᴰ M t.half.right_labels →
    (rests_in t e M ≡ given M ∷ []) ⊎ (rests_in t e M ≡ fresh M ∷ [])
rest_right t e ok z M m =
    let s = member_place t.half.right_labels M m in
    rw s.2
    (rests_one (ne_eqb (length t.half.left_labels) 0 (λ q. z (length_none t.half.left_labels q))) ((right_maps t e ok).rests s.0 s.1))

-- The label whose rest a variable stands for.
unfoldable pub label_in : MultisetVariable → ℕ
label_in (given M) = M
label_in (fresh M) = M
