-- What is known stays right where all but the sets is as before.
-- Each part is read from places that are kept. Assumes nothing.
use Prim.Native.Nat.{ℕ, ◌+◌, ◌^◌, ◌≤◌, ◌<◌}
use mathlib.Core.List.{List}
use mathlib.Core.Logic.{◌⊎◌, inl, inr}
use mathlib.Core.Path.{◌≡◌, refl, sym, ap, ◌∙◌}
use native.Mathlib.Omega.{arith}
use lib.ListN.{length, take, drop, length-take, length-drop}
use lib.Seq.{length-take-le, get_or-take, get_or-drop, ext_get_or}
use Rattle.table.specs.Layout.{word, count_of, node_count, argument_of}
use Rattle.unification.specs.Computed.Classes.{class_of}
use Rattle.nodes.specs.Code.Open.{IsClosed, Counts, OpenListed}
use Rattle.nodes.specs.Code.Order.{Met, leaf, before, Listed}
use Rattle.nodes.specs.Code.Formed.{Formed}
use Rattle.nodes.proofs.OpenLaws.{looked_at}
use Rattle.branches.specs.Code.Known.{left_count, right_count, left_in, right_in, rows_in, opens_in, list_in, KnownOf, KeepsKnown}

-- a part of a list stays where its places do
pub part_kept : (a n : ℕ) (xs ys : List ℕ) → length ys ≡ length xs → ((k : ℕ) → a ≤ k → k < a + n → word ys k ≡ word xs k) →
    take n (drop a ys) ≡ take n (drop a xs)
part_kept a n xs ys l f =
    let p = length-take n (drop a ys) in
    let q = length-take n (drop a xs) in
    let u = length-drop a ys in
    let v = length-drop a xs in
    ext_get_or 0 (take n (drop a ys)) (take n (drop a xs)) (omega (arith, p, q, u, v, l))
    (λ i h.
    get_or-take n (drop a ys) i 0 (omega (arith, h, p)) ∙ get_or-drop a ys i 0 ∙ f (a + i) (omega arith) (omega (arith, h, p))
    ∙ sym (get_or-drop a xs i 0) ∙ sym (get_or-take n (drop a xs) i 0 (omega (arith, h, p))))

-- counts that are the same at nodes
module _ {nodes counts counts' : List ℕ} (kept : (i : ℕ) → i < node_count nodes → word counts' i ≡ word counts i) where
  -- a closed application stays one
  still_closed : (i : ℕ) → IsClosed nodes counts i → IsClosed nodes counts' i
  still_closed i m = record { node = m.node; applied = m.applied; none = kept i m.node ∙ m.none }

  -- and was one before
  was_closed : (i : ℕ) → IsClosed nodes counts' i → IsClosed nodes counts i
  was_closed i m = record { node = m.node; applied = m.applied; none = sym (kept i m.node) ∙ m.none }

  -- so they are right as well
  pub counts_kept : {arguments : List ℕ} → node_count nodes ≤ length counts' → Counts nodes arguments counts (node_count nodes) →
      Counts nodes arguments counts' (node_count nodes)
  counts_kept l c =
      record {
        enough = l;
        some = λ i h. pick i h (c.some i h);
        below = λ i h m j q. still_closed _ (c.below i h (was_closed i m) j q);
        above = λ i h f. kept i h ∙ c.above i h (λ j q. was_closed _ (f j q));
      }
    where
      pick : (i : ℕ) → i < node_count nodes → (word counts i ≡ 0) ⊎ (word counts i ≡ count_of nodes i) →
          (word counts' i ≡ 0) ⊎ (word counts' i ≡ count_of nodes i)
      pick i h (inl e) = inl (kept i h ∙ e)
      pick i h (inr e) = inr (kept i h ∙ e)

  -- and the open applications are the same
  pub opens_same_listed : {opens : List ℕ} → OpenListed nodes counts opens → OpenListed nodes counts' opens
  opens_same_listed o = record { node = o.node; applied = o.applied; whole = λ i h l. o.whole i h (omega (arith, l, kept i h)) }

-- the sides and the other lists are read from what is known
module _ {nodes arguments known : List ℕ} (k : KnownOf nodes arguments known) where
  -- there are as many left terms
  pub left_long : length (left_in known) ≡ left_count known
  unfolding left_in
  left_long =
      let d = length-drop 584 known in
      length-take-le (left_count known) (drop 584 known) (omega (arith, d, k.size, k.left_few))

  -- right terms
  pub right_long : length (right_in known) ≡ right_count known
  unfolding right_in
  right_long =
      let d = length-drop 592 known in
      length-take-le (right_count known) (drop 592 known) (omega (arith, d, k.size, k.right_few))

  -- and sets
  pub rows_long : length (rows_in known) ≡ left_count known
  unfolding rows_in
  rows_long =
      let d = length-drop 600 known in
      length-take-le (left_count known) (drop 600 known) (omega (arith, d, k.size, k.left_few))

-- a left term, where it stands among the bytes
pub left_word : (known : List ℕ) (i : ℕ) → i < left_count known → word (left_in known) i ≡ word known (584 + i)
unfolding left_in
left_word known i h = get_or-take (left_count known) (drop 584 known) i 0 h ∙ get_or-drop 584 known i 0

-- a right term
pub right_word : (known : List ℕ) (j : ℕ) → j < right_count known → word (right_in known) j ≡ word known (592 + j)
unfolding right_in
right_word known j h = get_or-take (right_count known) (drop 592 known) j 0 h ∙ get_or-drop 592 known j 0

-- a set
pub row_word : (known : List ℕ) (i : ℕ) → i < left_count known → word (rows_in known) i ≡ word known (600 + i)
unfolding rows_in
row_word known i h = get_or-take (left_count known) (drop 600 known) i 0 h ∙ get_or-drop 600 known i 0

-- all but the sets is kept
module _ {nodes arguments known known' : List ℕ} (k : KnownOf nodes arguments known) (s : KeepsKnown known known') where
  -- the left terms stay
  pub left_kept : left_in known' ≡ left_in known
  unfolding left_in
  left_kept =
      ap (λ (n : ℕ). take n (drop 584 known')) (s.same 578 (omega arith))
      ∙ part_kept 584 (left_count known) known known' s.size (λ p q r. s.same p (omega (arith, r, k.left_few)))

  -- the right ones too
  pub right_kept : right_in known' ≡ right_in known
  unfolding right_in
  right_kept =
      ap (λ (n : ℕ). take n (drop 592 known')) (s.same 579 (omega arith))
      ∙ part_kept 592 (right_count known) known known' s.size (λ p q r. s.same p (omega (arith, r, k.right_few)))

  -- so do the open applications
  opens_kept : opens_in known' ≡ opens_in known
  unfolding opens_in
  opens_kept =
      ap (λ (n : ℕ). take n (drop 256 known')) (s.same 576 (omega arith))
      ∙ part_kept 256 (word known 576) known known' s.size (λ p q r. s.same p (omega (arith, r, k.opens_few)))

  -- and the least nodes of the variables
  list_kept : list_in known' ≡ list_in known
  unfolding list_in
  list_kept =
      ap (λ (n : ℕ). take n (drop 512 known')) (s.same 577 (omega arith))
      ∙ part_kept 512 (word known 577) known known' s.size (λ p q r. s.same p (omega (arith, r, k.list_few)))

  -- the counts of the nodes stay
  node_kept : (i : ℕ) → i < node_count nodes → word known' i ≡ word known i
  node_kept i h = s.same i (omega (arith, h, k.sections.limit))

  -- and all that is known stays right
  pub known_kept : KnownOf nodes arguments known'
  known_kept =
      let n = s.same 578 (omega arith) in
      let m = s.same 579 (omega arith) in
      let v = s.same 577 (omega arith) in
      let o = s.same 576 (omega arith) in
      let u = s.same 580 (omega arith) in
      let r = s.same 581 (omega arith) in
      let w = s.same 582 (omega arith) in
      let e = s.same 583 (omega arith) in
      record {
        sections = k.sections;
        size = s.size ∙ k.size;
        counts = counts_kept node_kept (omega (arith, k.counts.enough, s.size)) k.counts;
        opens_few = omega (arith, o, k.opens_few);
        opens = rw opens_kept (opens_same_listed node_kept k.opens);
        list_few = omega (arith, v, k.list_few);
        list = list_kept ∙ k.list;
        left_few = omega (arith, n, k.left_few);
        right_few = omega (arith, m, k.right_few);
        left_nodes = λ j h. rw (s.same (584 + j) (omega (arith, h, n, k.left_few))) (k.left_nodes j (omega (arith, h, n)));
        right_nodes = λ j h. rw (s.same (592 + j) (omega (arith, h, m, k.right_few))) (k.right_nodes j (omega (arith, h, m)));
        left_labels_lem = omega (arith, u, k.left_labels_lem);
        right_labels_lem = omega (arith, r, k.right_labels_lem);
        width = omega (arith, w, n, m, v, k.width);
        every = ap (λ (x : ℕ). x + 1) e ∙ k.every ∙ ap (λ (x : ℕ). 2 ^ x) (sym m);
      }

  -- a class whose arguments are not looked at stays one
  met_kept : {order : List ℕ} {p g : ℕ} → g < node_count nodes → Met (word known) order p g → Met (word known') order p g
  met_kept {order} {p} {g} h (leaf e) = leaf (node_kept g h ∙ e)
  met_kept {order} {p} {g} h (before q l e) = before q l e

  -- and classes stay as they are kept
  pub formed_kept : {heads : List ℕ} → Formed nodes arguments known heads → Formed nodes arguments known' heads
  formed_kept {heads} f =
      record {
        partition = f.partition;
        constants = f.constants;
        closed = record {
          closed = λ i m. still_closed node_kept _ (f.closed.closed i (was_closed node_kept i m));
          least = λ i m. f.closed.least i (was_closed node_kept i m);
          valued = λ i m. f.closed.valued i (was_closed node_kept i m);
          shared = λ i j m n. f.closed.shared i j (was_closed node_kept i m) (was_closed node_kept j n);
        };
        order = f.order;
        ordered = record {
          listed = record {
            node = l.node;
            compound = λ p h. rw (node_kept (word f.order p) (l.node p h)) (l.compound p h);
            once = l.once;
            first = λ p h j q. first p h j (rw (node_kept (word f.order p) (l.node p h)) at q);
          };
          whole = λ i h. met_kept (f.partition.below i h) (f.ordered.whole i h);
        };
      }
    where
      l : Listed nodes arguments (word known) heads f.order
      l = f.ordered.listed

      first : (p : ℕ) → p < length f.order → (j : ℕ) → j < word known (word f.order p) →
          Met (word known') f.order p (class_of heads (argument_of nodes arguments (word f.order p) j))
      first p h j q =
          let g = l.node p h in
          let c = looked_at k.counts (word f.order p) j g q in
          met_kept (f.partition.below _ (below_node (k.sections.smaller (word f.order p) j g c) g)) (l.first p h j q)
        where
          below_node : {a b : ℕ} → a < b → b < node_count nodes → a < node_count nodes
          below_node x y = omega (arith, x, y)

-- what is kept twice is kept
pub keeps_twice : {known₀ known₁ known₂ : List ℕ} → KeepsKnown known₀ known₁ → KeepsKnown known₁ known₂ → KeepsKnown known₀ known₂
keeps_twice a b = record { size = b.size ∙ a.size; same = λ k h. b.same k h ∙ a.same k h }
