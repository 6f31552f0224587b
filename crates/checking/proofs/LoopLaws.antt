-- The steps of the loops that try the conditions, over plain lists and numbers. Assumes nothing.
use Prim.Native.Nat.{ℕ, ◌+◌, ◌-◌, ◌*◌, ◌<◌, ◌≤◌}
use mathlib.Core.Bool.{Bool, true, false, not, ◌||◌}
use mathlib.Core.Path.{◌≡◌, refl, sym, ap, ◌∙◌}
use mathlib.Core.List.{List}
use native.Mathlib.Numerals.{add-one}
use native.Mathlib.Omega.{arith}
use borrow.Author.Tests.{eq-eqb, ne_eqb}
use lib.Dec.{eqb, leb, ltb}
use lib.ListN.{length, take, drop, length-drop}
use Rattle.std.specs.List.{list_any}
use Rattle.std.proofs.lemmas.List.{get_or-take, get_or-drop, length-take-le}
use Rattle.table.specs.Limits.{Section, max_count, max_label}
use Rattle.table.specs.Some.{some_below}
use Rattle.table.specs.Layout.{word, offset, size, kind_of, name_of, first_of, count_of, node_count, counts_before}
use Rattle.table.specs.Conditions.{end_before, offset_is_wrong, broken_pair, words_are_wrong, section_at, size_is_wrong, right_node, node_is_wrong, wrong_node, argument_is_wrong, run_is_wrong, labels_are_equal, label_is_wrong}
use Rattle.table.proofs.SomeLaws.{some_here, some_next, some_end, some_any}
use Rattle.table.proofs.NodeLaws.{right_node_means, right_count_lem}

-- Refusal 2, before section k: no offset so far is wrong, and the sections end here, in any table of so many pairs.
pub record PairsRight (t : List ℕ) (pairs k end : ℕ) : Type 0 where
  pub ends : (ss : List Section) → length ss ≡ pairs → end ≡ end_before ss t k
  pub right : (ss : List Section) → length ss ≡ pairs → some_below k (offset_is_wrong ss t) ≡ false

pub pairs_begin : (t : List ℕ) (pairs : ℕ) → PairsRight t pairs 0 (2 * pairs)
unfolding some_below end_before
pairs_begin t pairs = record { ends = λ ss e. ap (λ (n : ℕ). 2 * n) (sym e); right = λ ss e. refl }

module _ (t : List ℕ) (pairs k at end : ℕ) (here : at ≡ offset t k) (so_far : PairsRight t pairs k end) where
  pub pair_wrong : k < pairs → (at ≡ end → ⊥) → (ss : List Section) → length ss ≡ pairs → true ≡ broken_pair ss t
  unfolding broken_pair offset_is_wrong
  pair_wrong h d ss l =
      let e : eqb (offset t k) (end_before ss t k) ≡ false = ne_eqb _ _ (λ q. d (here ∙ q ∙ sym (so_far.ends ss l))) in
      rw (some_here (offset_is_wrong ss t) k (length ss) (omega arith) (rw e))

  pub pair_right : at ≡ end → (n : ℕ) → n ≡ size t k → PairsRight t pairs (k + 1) (at + n)
  unfolding offset_is_wrong end_before
  pair_right q n e =
      record {
        ends = λ ss l. rw (add-one, here, e);
        right = λ ss l.
            let f : eqb (offset t k) (end_before ss t k) ≡ true = eq-eqb _ _ (sym here ∙ q ∙ so_far.ends ss l) in
            some_next (offset_is_wrong ss t) k (so_far.right ss l) (rw f);
      }

pub pairs_end : (t : List ℕ) (pairs k end : ℕ) → PairsRight t pairs k end → k ≤ pairs → pairs ≤ k → (ss : List Section) → length ss ≡ pairs →
    not (eqb end (length t)) ≡ broken_pair ss t
unfolding broken_pair
pairs_end t pairs k end r a b ss l =
    let s : k ≡ length ss = omega arith in
    let d : end ≡ end_before ss t (length ss) = r.ends ss l ∙ ap (end_before ss t) s in
    rw (some_end (offset_is_wrong ss t) k (length ss) (omega arith) (omega arith) (r.right ss l), d)

-- Refusal 3, at section k.
pub size_tested : (ss : List Section) (t : List ℕ) (k : ℕ) {words : ℕ} {r : Bool} → words ≡ size t k → r ≡ words_are_wrong (section_at ss k) words →
    r ≡ size_is_wrong ss t k
unfolding size_is_wrong
size_tested ss t k e f = f ∙ ap (words_are_wrong (section_at ss k)) e

-- Refusal 4, at node i: its words, the sum of the earlier counts, and whether it is right.
pub record NodeTested (ns : List ℕ) (i count earlier : ℕ) (r : Bool) : Type 0 where
  pub kind : ℕ
  pub name : ℕ
  pub first : ℕ
  pub the_kind : kind ≡ kind_of ns i
  pub the_name : name ≡ name_of ns i
  pub the_first : first ≡ first_of ns i
  pub the_count : count ≡ count_of ns i
  pub the_sum : earlier ≡ counts_before ns i
  pub tested : r ≡ right_node kind name first count earlier

module _ {ns : List ℕ} {i count earlier : ℕ} {r : Bool} (s : NodeTested ns i count earlier r) where
  whether : node_is_wrong ns i ≡ not r
  unfolding node_is_wrong
  whether = rw (← s.the_kind, ← s.the_name, ← s.the_first, ← s.the_count, ← s.the_sum, ← s.tested)

  pub node_wrong : i < node_count ns → r ≡ false → (args : List ℕ) → true ≡ wrong_node ns args
  unfolding wrong_node
  node_wrong h q args = sym (rw (some_here (node_is_wrong ns) i (node_count ns) h (whether ∙ ap not q)))

  pub node_right : r ≡ true → some_below i (node_is_wrong ns) ≡ false → some_below (i + 1) (node_is_wrong ns) ≡ false
  node_right q b = some_next (node_is_wrong ns) i b (whether ∙ ap not q)

  pub count_small : r ≡ true → count ≤ max_count
  count_small q = right_count_lem (right_node_means s.kind s.name s.first count earlier (sym s.tested ∙ q))

  pub earlier_next : earlier + count ≡ counts_before ns (i + 1)
  unfolding counts_before
  earlier_next = rw (add-one, s.the_sum, s.the_count)

pub nodes_end : (ns args : List ℕ) (i earlier : ℕ) → earlier ≡ counts_before ns i → i ≤ node_count ns → node_count ns ≤ i →
    some_below i (node_is_wrong ns) ≡ false → not (eqb earlier (length args)) ≡ wrong_node ns args
unfolding wrong_node
nodes_end ns args i earlier e a b f =
    let s : earlier ≡ counts_before ns (node_count ns) = e ∙ ap (counts_before ns) (let q : i ≡ node_count ns = omega arith in q) in
    rw (some_end (node_is_wrong ns) i (node_count ns) a b f, s)

-- Refusal 5, at node i: the run of its arguments, as it lies in the section.
module _ (ns args : List ℕ) (i : ℕ) (h : first_of ns i + count_of ns i ≤ length args) where
  abbrev pub run_of : List ℕ
  run_of = take ((first_of ns i + count_of ns i) - first_of ns i) (drop (first_of ns i) args)

  pub run_long : length run_of ≡ count_of ns i
  run_long =
      let d = length-drop (first_of ns i) args in
      length-take-le ((first_of ns i + count_of ns i) - first_of ns i) (drop (first_of ns i) args) (omega (arith, d, h)) ∙ omega arith

  pub run_at : (j : ℕ) → j < length run_of → leb i (word run_of j) ≡ argument_is_wrong ns args i j
  unfolding argument_is_wrong
  run_at j l =
      let n = run_long in
      let run = (first_of ns i + count_of ns i) - first_of ns i in
      let in_run = get_or-take run (drop (first_of ns i) args) j 0 (omega (arith, l, n)) in
      ap (leb i) (in_run ∙ get_or-drop (first_of ns i) args j 0)

  -- from a test of its elements
  pub run_tested : list_any (leb i) run_of ≡ run_is_wrong ns args i
  unfolding run_is_wrong
  run_tested = some_any (leb i) (argument_is_wrong ns args i) run_of run_at ∙ ap (λ (k : ℕ). some_below k (argument_is_wrong ns args i)) run_long

-- Refusal 7, at label i, with whether it is repeated.
module _ (ls : List ℕ) (i x : ℕ) (e : x ≡ word ls i) (r : Bool) (tested : r ≡ some_below i (labels_are_equal ls i)) where
  pub label_tested : (eqb x 0 || ltb max_label x || r) ≡ label_is_wrong ls i
  unfolding label_is_wrong
  label_tested = rw (← e, tested)
