-- What it means that a condition does not hold, and back: each is a test of some of what acceptance means. Assumes nothing.
use Prim.Native.Nat.{ℕ, zero, suc, ◌+◌, ◌-◌, ◌*◌, ◌%◌, ◌<◌, ◌≤◌}
use mathlib.Core.Bool.{false, not, ◌||◌}
use mathlib.Core.Logic.{◌↔◌}
use mathlib.Core.Path.{◌≡◌, ap, subst}
use mathlib.Core.List.{List}
use native.Mathlib.Omega.{arith}
use borrow.Author.Tests.{eq-eqb, ne_eqb, le-ltb, lt-leb, ltb-false, leb-false, eqb-true, eqb-false, not-false}
use lib.Dec.{eqb, ltb}
use lib.ListN.{length}
use Rattle.table.specs.Limits.{Section, max_label}
use Rattle.table.specs.Some.{some_below}
use Rattle.table.specs.Layout.{word, offset, size, first_of, count_of, node_count, counts_before, argument_of}
use Rattle.table.specs.Code.Reading.{RunsInside}
use Rattle.table.specs.Conditions.{end_before, offset_is_wrong, broken_pair, words_are_wrong, section_at, size_is_wrong, over_limit, node_is_wrong, wrong_node, argument_is_wrong, run_is_wrong, wrong_argument, term_is_wrong, wrong_term, labels_are_equal, label_is_wrong, wrong_label}
use Rattle.table.specs.Code.Accepted.{RightNode, variable, constant, application, NodeIsRight, NodesRight, SidesRight}
use Rattle.table.proofs.BoolLaws.{or_false_left, or_false_right, or_both_false}
use Rattle.table.proofs.SomeLaws.{some_none, none_some}
use Rattle.table.proofs.NodeLaws.{right_node_means, right_node_holds}

-- Refusal 2.
module _ (ss : List Section) (t : List ℕ) where
  pub offsets_kept : broken_pair ss t ≡ false → (k : ℕ) → k < length ss → offset t k ≡ end_before ss t k
  unfolding broken_pair offset_is_wrong
  offsets_kept e k h =
      eqb-true _ _
      (not-false _ (none_some (offset_is_wrong ss t) (length ss) (or_false_left _ (not (eqb (end_before ss t (length ss)) (length t))) e) k h))

  pub end_kept : broken_pair ss t ≡ false → end_before ss t (length ss) ≡ length t
  unfolding broken_pair
  end_kept e = eqb-true _ _ (not-false _ (or_false_right (some_below (length ss) (offset_is_wrong ss t)) _ e))

  pub pairs_right : ((k : ℕ) → k < length ss → offset t k ≡ end_before ss t k) → end_before ss t (length ss) ≡ length t → broken_pair ss t ≡ false
  unfolding broken_pair offset_is_wrong
  pairs_right f e =
      or_both_false _ _ (some_none (offset_is_wrong ss t) (length ss) (λ k h. ap not (eq-eqb _ _ (f k h)))) (ap not (eq-eqb _ _ e))

-- Refusal 3, of one section and of all.
pub words_mean : (s : Section) (n : ℕ) → words_are_wrong s n ≡ false ↔ ((n % s.item ≡ 0) × (n ≤ s.item * s.most))
unfolding words_are_wrong
words_mean s n = (
  (λ e. (eqb-true _ _ (not-false _ (or_false_left _ (ltb (s.item * s.most) n) e)), ltb-false _ _ (or_false_right (not (eqb (n % s.item) 0)) _ e))),
  (λ r. or_both_false _ _ (ap not (eq-eqb _ _ r.0)) (le-ltb _ _ r.1)),
)

-- where an item is one word, only the limit counts
pub single_words : (most n : ℕ) → words_are_wrong (record { item = 1; most = most }) n ≡ ltb most n
unfolding words_are_wrong
single_words most n =
    let z : n % 1 ≡ 0 = omega arith in
    let o : 1 * most ≡ most = omega arith in
    rw (z, o)

pub sizes_kept : (ss : List Section) (t : List ℕ) → over_limit ss t ≡ false → (k : ℕ) → k < length ss →
    (size t k % (section_at ss k).item ≡ 0) × (size t k ≤ (section_at ss k).item * (section_at ss k).most)
unfolding over_limit size_is_wrong
sizes_kept ss t e k h = (words_mean (section_at ss k) (size t k)).0 (none_some (size_is_wrong ss t) (length ss) e k h)

pub sizes_right : (ss : List Section) (t : List ℕ) →
    ((k : ℕ) → k < length ss → (size t k % (section_at ss k).item ≡ 0) × (size t k ≤ (section_at ss k).item * (section_at ss k).most)) →
    over_limit ss t ≡ false
unfolding over_limit size_is_wrong
sizes_right ss t f = some_none (size_is_wrong ss t) (length ss) (λ k h. (words_mean (section_at ss k) (size t k)).1 (f k h))

-- Refusal 4.
module _ (ns args : List ℕ) where
  pub nodes_kept : wrong_node ns args ≡ false → (i : ℕ) → i < node_count ns → NodeIsRight ns i
  unfolding wrong_node node_is_wrong
  nodes_kept e i h =
      right_node_means _ _ _ _ _
      (not-false _ (none_some (node_is_wrong ns) (node_count ns) (or_false_left _ (not (eqb (counts_before ns (node_count ns)) (length args))) e) i
      h))

  pub counts_kept : wrong_node ns args ≡ false → counts_before ns (node_count ns) ≡ length args
  unfolding wrong_node
  counts_kept e = eqb-true _ _ (not-false _ (or_false_right (some_below (node_count ns) (node_is_wrong ns)) _ e))

  pub nodes_right : ((i : ℕ) → i < node_count ns → NodeIsRight ns i) → counts_before ns (node_count ns) ≡ length args → wrong_node ns args ≡ false
  unfolding wrong_node node_is_wrong
  nodes_right f e =
      or_both_false _ _
      (some_none (node_is_wrong ns) (node_count ns) (λ i h. ap not (right_node_holds _ _ _ _ _ (f i h))))
      (ap not (eq-eqb _ _ e))

-- The sum of the earlier counts never falls, so each node's arguments are a run inside the section.
counts_rise : (ns : List ℕ) (i d : ℕ) → counts_before ns i ≤ counts_before ns (i + d)
unfolding counts_before
counts_rise ns i zero =
    let s : i + 0 ≡ i = omega arith in
    rw s (let z : counts_before ns i ≤ counts_before ns i = omega arith in z)
counts_rise ns i (suc d) =
    let s : i + suc d ≡ suc (i + d) = omega arith in
    rw s (let z : counts_before ns i ≤ counts_before ns (i + d) + count_of ns (i + d) = omega (arith, counts_rise ns i d) in z)

run_inside : {k m f c e : ℕ} → RightNode k m f c e → (n : ℕ) → e + c ≤ n → f + c ≤ n
run_inside (variable q a b d) n h = omega arith
run_inside (constant q a b d) n h = omega arith
run_inside (application q a b d g) n h = omega arith

pub runs_inside : (ns args : List ℕ) → ((i : ℕ) → i < node_count ns → NodeIsRight ns i) → counts_before ns (node_count ns) ≡ length args →
    RunsInside ns args
unfolding counts_before
runs_inside ns args f e = record { run = go }
  where
    go : (i : ℕ) → i < node_count ns → first_of ns i + count_of ns i ≤ length args
    go i h =
        let s : suc i + (node_count ns - suc i) ≡ node_count ns = omega arith in
        let r : counts_before ns i + count_of ns i ≤ counts_before ns (node_count ns) =
        subst (λ (k : ℕ). counts_before ns i + count_of ns i ≤ counts_before ns k) s (counts_rise ns (suc i) (node_count ns - suc i)) in
        run_inside (f i h) (length args) (omega arith)

-- so they are where refusal 4 is not given
pub runs_kept : (ns args : List ℕ) → wrong_node ns args ≡ false → RunsInside ns args
runs_kept ns args e = runs_inside ns args (nodes_kept ns args e) (counts_kept ns args e)

-- Refusal 5.
module _ (ns args : List ℕ) where
  arguments_kept : wrong_argument ns args ≡ false → (i j : ℕ) → i < node_count ns → j < count_of ns i → argument_of ns args i j < i
  unfolding wrong_argument run_is_wrong argument_is_wrong
  arguments_kept e i j h g =
      leb-false _ _ (none_some (argument_is_wrong ns args i) (count_of ns i) (none_some (run_is_wrong ns args) (node_count ns) e i h) j g)

  arguments_right : ((i j : ℕ) → i < node_count ns → j < count_of ns i → argument_of ns args i j < i) → wrong_argument ns args ≡ false
  unfolding wrong_argument run_is_wrong argument_is_wrong
  arguments_right f =
      some_none (run_is_wrong ns args) (node_count ns)
      (λ i h. some_none (argument_is_wrong ns args i) (count_of ns i) (λ j g. lt-leb _ _ (f i j h g)))

  -- neither refusal 4 nor 5 is given exactly if nodes and arguments are right
  pub right_nodes_mean : ((wrong_node ns args ≡ false) × (wrong_argument ns args ≡ false)) ↔ NodesRight ns args
  right_nodes_mean = (
    (λ r. record { each_node = nodes_kept ns args r.0; counts = counts_kept ns args r.0; each_argument = arguments_kept r.1 }),
    (λ n. (nodes_right ns args n.each_node n.counts, arguments_right n.each_argument)),
  )

-- Refusal 6.
terms_kept : (n : ℕ) (ts : List ℕ) → wrong_term n ts ≡ false → (i : ℕ) → i < length ts → word ts i < n
unfolding wrong_term term_is_wrong
terms_kept n ts e i h = leb-false _ _ (none_some (term_is_wrong n ts) (length ts) e i h)

terms_right : (n : ℕ) (ts : List ℕ) → ((i : ℕ) → i < length ts → word ts i < n) → wrong_term n ts ≡ false
unfolding wrong_term term_is_wrong
terms_right n ts f = some_none (term_is_wrong n ts) (length ts) (λ i h. lt-leb _ _ (f i h))

-- Refusal 7, at one label and at all.
record LabelIsRight (ls : List ℕ) (i : ℕ) : Type 0 where
  range : (0 < word ls i) × (word ls i ≤ max_label)
  new : (j : ℕ) → j < i → word ls j ≡ word ls i → ⊥

label_kept : (ls : List ℕ) (i : ℕ) → label_is_wrong ls i ≡ false → LabelIsRight ls i
unfolding label_is_wrong labels_are_equal
label_kept ls i e =
    let a = eqb (word ls i) 0 in
    let b = a || ltb max_label (word ls i) in
    let l = or_false_left b _ e in
    let z : word ls i ≡ 0 → ⊥ = eqb-false _ _ (or_false_left a _ l) in
    record {
      range = (omega arith, ltb-false _ _ (or_false_right a _ l));
      new = λ j h. eqb-false _ _ (none_some (labels_are_equal ls i) i (or_false_right b _ e) j h);
    }

label_right : (ls : List ℕ) (i : ℕ) → LabelIsRight ls i → label_is_wrong ls i ≡ false
unfolding label_is_wrong labels_are_equal
label_right ls i r =
    let z : eqb (word ls i) 0 ≡ false = ne_eqb _ _ (λ (q : word ls i ≡ 0). omega arith) in
    rw (z, le-ltb _ _ r.range.1) (some_none (labels_are_equal ls i) i (λ j h. ne_eqb _ _ (r.new j h)))

module _ (ls : List ℕ) where
  labels_kept : wrong_label ls ≡ false → (i : ℕ) → i < length ls → LabelIsRight ls i
  unfolding wrong_label
  labels_kept e i h = label_kept ls i (none_some (label_is_wrong ls) (length ls) e i h)

  labels_right : ((i : ℕ) → i < length ls → LabelIsRight ls i) → wrong_label ls ≡ false
  unfolding wrong_label
  labels_right f = some_none (label_is_wrong ls) (length ls) (λ i h. label_right ls i (f i h))

-- neither refusal 6 nor 7 is given exactly if the terms of both sides and the labels are right
pub right_sides_mean : (n : ℕ) (left right labels : List ℕ) →
    (((wrong_term n left || wrong_term n right) ≡ false) × (wrong_label labels ≡ false)) ↔ SidesRight n left right labels
right_sides_mean n left right labels = (
  (λ r.
      record {
        each_left_term = terms_kept n left (or_false_left _ (wrong_term n right) r.0);
        each_right_term = terms_kept n right (or_false_right (wrong_term n left) _ r.0);
        each_label = λ i h. (labels_kept labels r.1 i h).range;
        once = λ i j g h. (labels_kept labels r.1 j h).new i g;
      }),
  (λ s. (
    or_both_false _ _ (terms_right n left s.each_left_term) (terms_right n right s.each_right_term),
    labels_right labels (λ i h. record { range = s.each_label i h; new = λ j l. s.once j i l h }),
  )),
)
