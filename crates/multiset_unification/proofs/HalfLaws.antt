-- All that is needed of one half: its choices and their pairs, what its labels hold, and its sides under an assignment.
-- What is said of lists of terms and labels (`ChoiceLaws`, `BalanceLaws`, `CoverLaws`, `FilledLaws`, `LabelLaws`), of the half's own. Assumes
-- nothing.
use Prim.Native.Nat.{ℕ, suc, ◌+◌, ◌<◌}
use mathlib.Core.List.Memᴰ
use mathlib.Core.List.{List, [], ◌++◌, map, flatten, flat_map, append-nil, Memᴰ}
use mathlib.Core.Logic.{◌↔◌}
use mathlib.Core.Path.{◌≡◌, refl, sym, ap, ◌∙◌}
use native.Mathlib.Omega.{arith}
use lib.ListN.{length, drop}
use Rattle.table.specs.Layout.{word}
use Rattle.terms.specs.Term.{Term}
use Rattle.terms.specs.Multiset.{occurrences, Same}
use Rattle.terms.proofs.MultisetLaws.{occurrences_append, same_member, same_sym}
use Rattle.unification.specs.Node.{Node, tabulate}
use Rattle.unification.specs.Unifier.{value}
use Rattle.unification.specs.Words.{Rising}
use Rattle.unification.proofs.ListLaws.{placed}
use Rattle.multiset_unification.specs.Problem.{Half, half_labels}
use Rattle.multiset_unification.specs.Choice.{in_left, in_right, Before}
use Rattle.multiset_unification.specs.Entry.{HalfChoice, half_pairs}
use Rattle.multiset_unification.specs.Assignment.{Assignment, side, Balanced}
use Rattle.multiset_unification.specs.Instance.{HalfFilled}
use Rattle.multiset_unification.specs.Computed.Listing.{half_choices}
use Rattle.multiset_unification.specs.Code.Posed.{HalfPosed}
use Rattle.multiset_unification.proofs.ChoiceLaws.{choices_are, choices_rise}
use Rattle.multiset_unification.proofs.PlaceLaws.{pairs_mean, with_digit_means}
use Rattle.multiset_unification.proofs.CountLaws.{total_same, total_none, places_count, words_count, in_labels}
use Rattle.multiset_unification.proofs.PutLaws.{map_same}
use Rattle.multiset_unification.proofs.BalanceLaws.{filled_equal}
use Rattle.multiset_unification.proofs.FilledLaws.{filled, filled_same}
use Rattle.multiset_unification.proofs.LabelLaws.{held_by, held_left, held_right}
use Rattle.multiset_unification.proofs.CoverLaws.{equal_filled}

-- the choices of a half that are listed are its choices
pub half_choices_lem : (h : Half) (ds : List ℕ) → Memᴰ ds (half_choices h) ↔ HalfChoice h ds
unfolding half_choices
half_choices_lem h = choices_are (length h.left) (length h.right) (length h.left_labels) (length h.right_labels)

-- in strictly rising order
pub half_rise : (h : Half) → Rising Before (half_choices h)
unfolding half_choices
half_rise h = choices_rise (length h.left) (length h.right) (length h.left_labels) (length h.right_labels)

-- The two nodes of each pair have one value.
abbrev pub EqualPairs : (ℕ → Term) → List (ℕ × ℕ) → Type 0
EqualPairs v ps = (a b : ℕ) → Memᴰ (a, b) ps → v a ≡ v b

-- Two ways to give nodes values agree on the first n.
abbrev pub SameBelow : ℕ → (ℕ → Term) → (ℕ → Term) → Type 0
SameBelow n v w = (a : ℕ) → a < n → v a ≡ w a

-- Two ways to fill labels agree on those of a half.
abbrev pub SameLabels : Half → (ℕ → List Term) → (ℕ → List Term) → Type 0
SameLabels h f g = (l : ℕ) → Memᴰ l (half_labels h) → Same (f l) (g l)

module _ (h : Half) (f g : ℕ → List Term) (s : SameLabels h f g) where
  same_left : (i : ℕ) → i < length h.left_labels → Same (f (word h.left_labels i)) (g (word h.left_labels i))
  same_left i l = s (word h.left_labels i) (Memᴰ.append_left h.right_labels (placed h.left_labels i l))

  same_right : (i : ℕ) → i < length h.right_labels → Same (f (word h.right_labels i)) (g (word h.right_labels i))
  same_right i l = s (word h.right_labels i) (Memᴰ.append_right h.left_labels (placed h.right_labels i l))

  -- labels that are filled are filled by others that agree on those of the half
  pub filled_labels : (ds : List ℕ) (v : ℕ → Term) → HalfFilled h ds v f → HalfFilled h ds v g
  filled_labels ds v k =
      record {
        left_rest = k.left_rest;
        right_rest = k.right_rest;
        in_left_lem = λ i l u. sym (same_left i l u) ∙ k.in_left_lem i l u;
        in_right_lem = λ i l u. sym (same_right i l u) ∙ k.in_right_lem i l u;
        balance = k.balance;
        no_right = k.no_right;
        no_left = k.no_left;
      }

-- Values of terms and the labels, put together, are equal on both sides: counted by their places.
abbrev Counted : Half → (ℕ → Term) → (ℕ → List Term) → Type 0
Counted h v labels =
    (u : Term) →
    occurrences u (map v h.left) + in_labels labels u h.left_labels ≡ occurrences u (map v h.right) + in_labels labels u h.right_labels

-- how often a term occurs in a side
side_count : (ns : List Node) (A : Assignment) (u : Term) (terms labels : List ℕ) →
    occurrences u (side ns A terms labels) ≡ occurrences u (map (value ns A.variables) terms) + in_labels A.labels u labels
unfolding side
side_count ns A u terms labels =
    let a = occurrences_append u (map (value ns A.variables) terms) (flat_map A.labels labels) in
    let b = words_count u A.labels labels in
    omega (arith, a, b)

balanced_counted : (ns : List Node) (h : Half) (A : Assignment) → Balanced ns h A ↔ Counted h (value ns A.variables) A.labels
balanced_counted ns h A = (
  (λ b u. sym (side_count ns A u h.left h.left_labels) ∙ b u ∙ side_count ns A u h.right h.right_labels),
  (λ c u. side_count ns A u h.left h.left_labels ∙ c u ∙ sym (side_count ns A u h.right h.right_labels)),
)

module _ {n : ℕ} (h : Half) (g : HalfPosed n h) where
  -- the pairs of a choice are of nodes
  pub half_inside : (ds : List ℕ) → HalfChoice h ds → (a b : ℕ) → Memᴰ (a, b) (half_pairs h ds) → (a < n) × (b < n)
  half_inside ds c a b m =
      let s = (pairs_mean h.left h.right ds (λ i q. (c.left_digits i q).0) a b).0 m in
      (rw s.5 (g.left_node s.0 s.2), rw s.6 (g.right_node_lem s.1 s.3))

  -- labels that are filled under values are filled under others that agree on the nodes
  pub filled_values : (v w : ℕ → Term) → SameBelow n v w → (ds : List ℕ) (labels : ℕ → List Term) → HalfFilled h ds v labels →
      HalfFilled h ds w labels
  filled_values v w e ds labels =
      filled_same h.left h.left_labels h.right h.right_labels ds v w labels
      (λ i b. e (word h.left i) (g.left_node i b)) (λ j b. e (word h.right j) (g.right_node_lem j b))

  terms_same : (v w : ℕ → Term) → SameBelow n v w → (u : Term) →
      (occurrences u (map v h.left) ≡ occurrences u (map w h.left)) × (occurrences u (map v h.right) ≡ occurrences u (map w h.right))
  terms_same v w e u = (
    ap (occurrences u) (map_same v w h.left (λ i b. e (word h.left i) (g.left_node i b))),
    ap (occurrences u) (map_same v w h.right (λ j b. e (word h.right j) (g.right_node_lem j b))),
  )

  module _ (ns : List Node) where
    -- labels that are filled by a choice whose pairs are equal make the sides equal
    pub filled_balanced : (A : Assignment) (v : ℕ → Term) → SameBelow n (value ns A.variables) v → (ds : List ℕ) → HalfChoice h ds →
        EqualPairs v (half_pairs h ds) → HalfFilled h ds v A.labels → Balanced ns h A
    filled_balanced A v e ds c p f =
        (balanced_counted ns h A).1
        (λ u. (let s = terms_same (value ns A.variables) v e u in let b =
        filled_equal h.left h.left_labels h.right h.right_labels v A.labels ds c p f u in omega (arith, s.0, s.1, b)))

    -- equal sides are filled by a choice whose pairs are equal
    pub balanced_filled : (A : Assignment) → Balanced ns h A →
        (ds : List ℕ) × HalfChoice h ds × EqualPairs (value ns A.variables) (half_pairs h ds) ×
        HalfFilled h ds (value ns A.variables) A.labels
    balanced_filled A e =
        equal_filled h.left h.left_labels h.right h.right_labels (value ns A.variables) A.labels
        ((balanced_counted ns h A).0 e)

    -- only the values of nodes and the labels of the half matter
    pub balanced_agree : (A B : Assignment) → SameBelow n (value ns A.variables) (value ns B.variables) →
        SameLabels h A.labels B.labels → Balanced ns h A → Balanced ns h B
    balanced_agree A B e s b =
        (balanced_counted ns h B).1
        (λ u. (
        let x = (balanced_counted ns h A).0 b u in
        let y = terms_same (value ns A.variables) (value ns B.variables) e u in
        let l = total_same (length h.left_labels) (λ i. occurrences u (A.labels (word h.left_labels i)))
        (λ i. occurrences u (B.labels (word h.left_labels i))) (λ i q. same_left h A.labels B.labels s i q u) in
        let r = total_same (length h.right_labels) (λ i. occurrences u (A.labels (word h.right_labels i)))
        (λ i. occurrences u (B.labels (word h.right_labels i))) (λ i q. same_right h A.labels B.labels s i q u) in
        omega (arith, x, y.0, y.1, l, r)))

-- rests that are all empty are nothing together
no_rests : (k : ℕ) (u : Term) → occurrences u (flatten (tabulate k (λ p. []))) ≡ 0
unfolding occurrences
no_rests k u = places_count u k (λ p. []) ∙ total_none k (λ p. 0) (λ p h. refl)

module _ (v : ℕ → Term) (h : Half) (ds : List ℕ) where
  put_left : ℕ → List Term
  put_left i = map v (in_left h.left h.right ds i)

  put_right : ℕ → List Term
  put_right i = map v (in_right h.left h.right ds i)

  -- What the digits put in each label.
  pub half_put : ℕ → List Term
  half_put = held_by h.left_labels h.right_labels put_left put_right

  -- labels that hold this, and no rests, are filled
  pub put_filled : {n : ℕ} → HalfPosed n h → HalfFilled h ds v half_put
  unfolding half_put put_left put_right
  put_filled g =
      filled h.left h.left_labels h.right h.right_labels ds v half_put (λ i. []) (λ i. [])
      (λ i l u. ap (occurrences u) (held_left h.left_labels h.right_labels put_left put_right g.once i l ∙ sym (append-nil _)))
      (λ i l u. ap (occurrences u) (held_right h.left_labels h.right_labels put_left put_right g.once i l ∙ sym (append-nil _)))
      (λ u. no_rests (length h.left_labels) u ∙ sym (no_rests (length h.right_labels) u))

module _ (h : Half) (ds : List ℕ) (v : ℕ → Term) (labels : ℕ → List Term) (f : HalfFilled h ds v labels) where
  -- "m + q puts it in right label q": a left term with this digit is in this label
  pub in_its_right : (i q : ℕ) → i < length h.left → q < length h.right_labels → word ds i ≡ length h.right + suc q →
      Memᴰ (v (word h.left i)) (labels (word h.right_labels q))
  unfolding in_right
  in_its_right i q b l e =
      same_member (map v (in_right h.left h.right ds q) ++ f.right_rest q) (labels (word h.right_labels q))
      (same_sym _ _ (f.in_right_lem q l)) (v (word h.left i))
      (Memᴰ.append_left (f.right_rest q) (Memᴰ.map v
      ((with_digit_means (length h.right + suc q) (omega arith) h.left ds (word h.left i)).1 (i, b, e, refl))))

  -- "p for left label p": so is a right term
  pub in_its_left : (j p : ℕ) → j < length h.right → p < length h.left_labels → word (drop (length h.left) ds) j ≡ suc p →
      Memᴰ (v (word h.right j)) (labels (word h.left_labels p))
  unfolding in_left
  in_its_left j p b l e =
      same_member (map v (in_left h.left h.right ds p) ++ f.left_rest p) (labels (word h.left_labels p)) (same_sym _ _ (f.in_left_lem p l))
      (v (word h.right j))
      (Memᴰ.append_left (f.left_rest p) (Memᴰ.map v
      ((with_digit_means (suc p) (omega arith) h.right (drop (length h.left) ds) (word h.right j)).1 (j, b, e, refl))))
