-- Names of heads that the code gives are names that stand for values: from the words of the sections to the nodes. Assumes nothing.
use Prim.Native.Nat.{ℕ, ◌<◌}
use mathlib.Core.List.{List}
use mathlib.Core.Path.{◌≡◌, refl, sym, ap, ◌∙◌}
use native.Mathlib.Omega.{arith}
use lib.ListN.{length}
use Rattle.table.specs.Layout.{word, kind_of, name_of, count_of, node_count, argument_of}
use Rattle.unification.specs.Node.{variable, application, node_at, nodes_from}
use Rattle.unification.specs.Closure.{OneSymbol}
use Rattle.unification.specs.Computed.Classes.{class_of}
use Rattle.unification.specs.Code.Sections.{Sections}
use Rattle.unification.specs.Code.Heads.{Partition}
use Rattle.unification.specs.Code.Solved.{IsClosure}
use Rattle.unification.specs.Code.Valued.{SameNames, Valued}
use Rattle.unification.proofs.SectionLaws.{run, is_node, application_from, from_variable, from_application, run_long, pair_place, counted}
use Rattle.nodes.specs.Code.Named.{value_name, Alike, Applied, Named, Readable}

-- a node has a head, and the head a place among the names
pub name_inside : (nodes arguments heads names : List ℕ) → Readable nodes arguments heads names → (i : ℕ) → i < node_count nodes →
    (i < length heads) × (class_of heads i < length names)
name_inside nodes arguments heads names s i h =
    let e = s.partition.size in
    let n = s.long in
    let b = s.partition.below i h in
    (omega (arith, e), omega (arith, b, n))

module _ (nodes arguments heads names : List ℕ) (s : Sections nodes arguments) (p : Partition (node_count nodes) heads)
    (m : Named nodes arguments heads names) where
  inside : (i : ℕ) → i < length (nodes_from nodes arguments) → class_of heads i < node_count nodes
  inside i h = p.below i (counted nodes arguments i h)

  -- the name of a variable that is a head is the head
  pub variable_name : (i x : ℕ) → i < length (nodes_from nodes arguments) → node_at (nodes_from nodes arguments) (class_of heads i) ≡ variable x →
      (kind_of nodes (class_of heads i) ≡ 0) × (value_name heads names i ≡ class_of heads i)
  variable_name i x h d =
      let k = (from_variable nodes arguments (class_of heads i) (inside i h) x d).0 in
      (k, m.variable i (counted nodes arguments i h) k)

  -- what is said of the names of arguments is said of them place by place
  alike : (g h f f' : ℕ) (us vs : List ℕ) → g < node_count nodes → h < node_count nodes → node_at (nodes_from nodes arguments) g ≡ application f us →
      node_at (nodes_from nodes arguments) h ≡ application f' vs → OneSymbol f us f' vs → SameNames (value_name heads names) us vs →
      Alike nodes arguments heads names g h
  alike g h f f' us vs a b d e (y, l) n =
      let q = from_application nodes arguments g a f us d in
      let r = from_application nodes arguments h b f' vs e in
      let c : count_of nodes g ≡ count_of nodes h = sym (run_long nodes arguments s g a) ∙ ap length (sym q.2) ∙ l ∙ ap length r.2 ∙
      run_long nodes arguments s h b in
      record {
        name = sym q.1 ∙ y ∙ r.1;
        count = c;
        per_argument =
            λ j i. n (argument_of nodes arguments g j) (argument_of nodes arguments h j)
            (rw (q.2, r.2) ((pair_place nodes arguments s g h a b (argument_of nodes arguments g j) (argument_of nodes arguments h j)).1
            (j, i, rw c at i, refl, refl)));
      }

  -- and the other way round
  same_names : (g h f f' : ℕ) (us vs : List ℕ) → g < node_count nodes → h < node_count nodes →
      node_at (nodes_from nodes arguments) g ≡ application f us → node_at (nodes_from nodes arguments) h ≡ application f' vs →
      Alike nodes arguments heads names g h → OneSymbol f us f' vs × SameNames (value_name heads names) us vs
  same_names g h f f' us vs a b d e t =
      let q = from_application nodes arguments g a f us d in
      let r = from_application nodes arguments h b f' vs e in
      let l : length us ≡ length vs = ap length q.2 ∙ run_long nodes arguments s g a ∙ t.count ∙ sym (run_long nodes arguments s h b) ∙
      ap length (sym r.2) in
      ((q.1 ∙ t.name ∙ sym r.1, l), λ x y k. at x y ((pair_place nodes arguments s g h a b x y).0 (rw (q.2, r.2) at k)))
    where
      at : (x y : ℕ) →
          (j : ℕ) × (j < count_of nodes g) × (j < count_of nodes h) × (x ≡ argument_of nodes arguments g j) × (y ≡ argument_of nodes arguments h j) →
          value_name heads names x ≡ value_name heads names y
      at x y (j, i, i', u, v) = ap (value_name heads names) u ∙ t.per_argument j i ∙ ap (value_name heads names) (sym v)

  -- names of heads stand for values
  pub named_valued : Valued (nodes_from nodes arguments) (class_of heads) (value_name heads names)
  named_valued =
      record {
        one_head = λ i j h k e. ap (word names) e;
        variables = λ i j x y h k d e n.
            let a : class_of heads i ≡ class_of heads j = sym (variable_name i x h d).1 ∙ n ∙ (variable_name j y k e).1 in
            let z : variable x ≡ variable y = sym d ∙ ap (node_at (nodes_from nodes arguments)) a ∙ e in
            cc;
        apart = λ i j x f us h k d e n.
            let a = variable_name i x h d in
            m.application j (counted nodes arguments j k) (from_application nodes arguments (class_of heads j) (inside j k) f us e).0
            (ap (kind_of nodes) (sym n ∙ a.1) ∙ a.0);
        composed = λ i j f g us vs h k d e o n.
            m.composed i j (counted nodes arguments i h) (counted nodes arguments j k) (applied i f us h d) (applied j g vs k e)
            (alike (class_of heads i) (class_of heads j) f g us vs (inside i h) (inside j k) d e o n);
        taken_apart = λ i j f g us vs h k d e n.
            same_names (class_of heads i) (class_of heads j) f g us vs (inside i h) (inside j k) d e
            (m.taken_apart i j (counted nodes arguments i h) (counted nodes arguments j k) (applied i f us h d) (applied j g vs k e) n);
      }
    where
      applied : (i f : ℕ) (us : List ℕ) → i < length (nodes_from nodes arguments) →
          node_at (nodes_from nodes arguments) (class_of heads i) ≡ application f us → kind_of nodes (class_of heads i) ≡ 0 → ⊥
      applied i f us h d = (from_application nodes arguments (class_of heads i) (inside i h) f us d).0

-- an application has a head with its symbol, and arguments with the names of its arguments
pub head_alike : (nodes arguments heads names : List ℕ) → Sections nodes arguments → Partition (node_count nodes) heads → (ps : List (ℕ × ℕ)) →
    IsClosure (nodes_from nodes arguments) ps (class_of heads) → (i : ℕ) → i < node_count nodes → (kind_of nodes i ≡ 0 → ⊥) →
    Applied nodes heads i × Alike nodes arguments heads names i (class_of heads i)
head_alike nodes arguments heads names s p ps c i h n =
    let x = c.applications i (name_of nodes i) (run nodes arguments i) (is_node nodes arguments i h) (application_from nodes arguments i h n) in
    let b = p.below i h in
    let q = from_application nodes arguments (class_of heads i) b (name_of nodes i) x.arguments x.applied in
    let l : count_of nodes i ≡ count_of nodes (class_of heads i) = sym (run_long nodes arguments s i h) ∙ x.as_long ∙ ap length q.2 ∙
    run_long nodes arguments s (class_of heads i) b in (
      q.0,
      record {
        name = q.1;
        count = l;
        per_argument =
            λ j k. ap (word names) (x.one_head (argument_of nodes arguments i j) (argument_of nodes arguments (class_of heads i) j)
            (rw q.2 ((pair_place nodes arguments s i (class_of heads i) h b (argument_of nodes arguments i j)
            (argument_of nodes arguments (class_of heads i) j)).1 (j, k, rw l at k, refl, refl))));
      },
    )
