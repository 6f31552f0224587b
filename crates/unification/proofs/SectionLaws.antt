-- What the nodes of two sections are: each is read from its four words, and the arguments of an application are its run in the
-- arguments section, which lies inside it. Assumes nothing.
use Prim.Native.Nat.{ℕ, ◌<◌}
use mathlib.Core.List.{List, Memᴰ, zip}
use mathlib.Core.Logic.{◌↔◌}
use mathlib.Core.Path.{◌≡◌, sym, ap, ◌∙◌}
use mathlib.Core.Bool.{true, false, false≢true}
use native.Mathlib.Decide.{ℕ_discrete}
use native.Mathlib.Omega.{arith}
use borrow.Author.Tests.{eq-eqb, ne_eqb}
use lib.ListN.{length, get_or, take, drop, length-drop}
use lib.Seq.{length-take-le, get_or-take, get_or-drop, ext_get_or}
use Rattle.table.specs.Layout.{kind_of, name_of, first_of, count_of, node_count, argument_of}
use Rattle.table.proofs.BoolLaws.{both_equal}
use Rattle.unification.specs.Node.{variable, application, read_node, node_at, nodes_from}
use Rattle.unification.specs.Closure.{OneSymbol}
use Rattle.unification.specs.Code.Given.{WellFormed}
use Rattle.unification.specs.Code.Sections.{Sections, symbol_test}
use Rattle.unification.proofs.ListLaws.{tabulate_length, tabulate_at, zip_at, taken, placed}

-- The arguments that the words of node i name.
abbrev pub run : List ℕ → List ℕ → ℕ → List ℕ
run nodes arguments i = take (count_of nodes i) (drop (first_of nodes i) arguments)

-- the test for one symbol tells that name and count are the same
pub symbol_test_lem : (nodes : List ℕ) (g h : ℕ) → symbol_test nodes g h ≡ true ↔
    ((name_of nodes g ≡ name_of nodes h) × (count_of nodes g ≡ count_of nodes h))
symbol_test_lem nodes g h = both_equal (name_of nodes g) (name_of nodes h) (count_of nodes g) (count_of nodes h)

-- there are as many nodes as the nodes section holds
pub nodes_long : (nodes arguments : List ℕ) → length (nodes_from nodes arguments) ≡ node_count nodes
unfolding nodes_from
nodes_long nodes arguments = tabulate_length (node_count nodes) (read_node nodes arguments)

-- so a node of the two sections is counted in the nodes section
pub counted : (nodes arguments : List ℕ) (i : ℕ) → i < length (nodes_from nodes arguments) → i < node_count nodes
counted nodes arguments i h = rw (nodes_long nodes arguments) at h

-- and the other way round
pub is_node : (nodes arguments : List ℕ) (i : ℕ) → i < node_count nodes → i < length (nodes_from nodes arguments)
is_node nodes arguments i h = rw (nodes_long nodes arguments) h

module _ (nodes arguments : List ℕ) (i : ℕ) (h : i < node_count nodes) where
  node_read : node_at (nodes_from nodes arguments) i ≡ read_node nodes arguments i
  unfolding nodes_from
  node_read = tabulate_at (node_count nodes) (read_node nodes arguments) (variable 0) i h

  -- a node of kind 0 is a variable
  pub variable_from : kind_of nodes i ≡ 0 → node_at (nodes_from nodes arguments) i ≡ variable (name_of nodes i)
  unfolding read_node
  variable_from e = node_read ∙ rw (eq-eqb (kind_of nodes i) 0 e)

  -- any other is an application
  pub application_from : (kind_of nodes i ≡ 0 → ⊥) → node_at (nodes_from nodes arguments) i ≡ application (name_of nodes i) (run nodes arguments i)
  unfolding read_node
  application_from n = node_read ∙ rw (ne_eqb (kind_of nodes i) 0 n)

  -- and the other way round
  pub from_variable : (x : ℕ) → node_at (nodes_from nodes arguments) i ≡ variable x → (kind_of nodes i ≡ 0) × (x ≡ name_of nodes i)
  from_variable x e = go (ℕ_discrete (kind_of nodes i) 0)
    where
      go : Dec (kind_of nodes i ≡ 0) → (kind_of nodes i ≡ 0) × (x ≡ name_of nodes i)
      go (yes k) = let q : variable (name_of nodes i) ≡ variable x = sym (variable_from k) ∙ e in (k, cc)
      go (no k) =
          let q : application (name_of nodes i) (run nodes arguments i) ≡ variable x = sym (application_from k) ∙ e in
          let z : ◌≡◌ {A = ℕ} 0 1 = cc in
          absurd (omega arith)

  -- so it is of an application
  pub from_application : (f : ℕ) (us : List ℕ) → node_at (nodes_from nodes arguments) i ≡ application f us →
      (kind_of nodes i ≡ 0 → ⊥) × (f ≡ name_of nodes i) × (us ≡ run nodes arguments i)
  from_application f us e = go (ℕ_discrete (kind_of nodes i) 0)
    where
      go : Dec (kind_of nodes i ≡ 0) → (kind_of nodes i ≡ 0 → ⊥) × (f ≡ name_of nodes i) × (us ≡ run nodes arguments i)
      go (yes k) =
          let q : variable (name_of nodes i) ≡ application f us = sym (variable_from k) ∙ e in
          let z : ◌≡◌ {A = ℕ} 0 1 = cc in
          absurd (omega arith)
      go (no k) =
          let q : application (name_of nodes i) (run nodes arguments i) ≡ application f us = sym (application_from k) ∙ e in
          (k, cc, cc)

module _ (nodes arguments : List ℕ) (s : Sections nodes arguments) where
  -- the arguments are as many as the count
  pub run_long : (i : ℕ) → i < node_count nodes → length (run nodes arguments i) ≡ count_of nodes i
  run_long i h =
      let b = s.run i h in
      let d = length-drop (first_of nodes i) arguments in
      length-take-le (count_of nodes i) (drop (first_of nodes i) arguments) (omega (arith, b, d))

  -- and are the node's
  run_at : (i j : ℕ) → j < count_of nodes i → get_or (run nodes arguments i) j 0 ≡ argument_of nodes arguments i j
  run_at i j q = get_or-take (count_of nodes i) (drop (first_of nodes i) arguments) j 0 q ∙ get_or-drop (first_of nodes i) arguments j 0

  -- applications for which the test fails have different symbols
  pub symbols_differ : (g h : ℕ) → g < node_count nodes → h < node_count nodes → symbol_test nodes g h ≡ false →
      OneSymbol (name_of nodes g) (run nodes arguments g) (name_of nodes h) (run nodes arguments h) → ⊥
  symbols_differ g h p q e (n, m) =
      false≢true (sym e ∙ (symbol_test_lem nodes g h).1 (n, sym (run_long g p) ∙ m ∙ run_long h q))

  -- an argument of node i stands at some place
  pub argument_place : (i : ℕ) → i < node_count nodes → (f : ℕ) (us : List ℕ) → node_at (nodes_from nodes arguments) i ≡ application f us →
      (a : ℕ) → Memᴰ a us → (j : ℕ) × (j < count_of nodes i) × (a ≡ argument_of nodes arguments i j)
  argument_place i h f us e a m =
      let r = taken (count_of nodes i) (drop (first_of nodes i) arguments) a (rw (from_application nodes arguments i h f us e).2 at m) in
      (r.0, r.1, r.2 ∙ get_or-drop (first_of nodes i) arguments r.0 0)

  -- what stands at a place of its arguments is one
  pub place_argument : (i j : ℕ) → i < node_count nodes → j < count_of nodes i → Memᴰ (argument_of nodes arguments i j) (run nodes arguments i)
  place_argument i j h q = rw (← run_at i j q) (placed (run nodes arguments i) j (rw (run_long i h) q))

  -- a node with arguments is an application
  pub counted_application : (i j : ℕ) → i < node_count nodes → j < count_of nodes i → kind_of nodes i ≡ 0 → ⊥
  counted_application i j h q k = let e = s.variable_count_lem i h k in omega (arith, q, e)

  -- the pairs of arguments at one place are the pairs of the two lists
  pub pair_place : (i k : ℕ) → i < node_count nodes → k < node_count nodes → (a b : ℕ) →
      Memᴰ (a, b) (zip (run nodes arguments i) (run nodes arguments k)) ↔
      ((j : ℕ) × (j < count_of nodes i) × (j < count_of nodes k) × (a ≡ argument_of nodes arguments i j) × (b ≡ argument_of nodes arguments k j))
  pair_place i k h l a b =
      let z = zip_at (run nodes arguments i) (run nodes arguments k) a b in
      let x = run_long i h in
      let y = run_long k l in (
        (λ m.
            let r = z.0 m in
            let p : r.0 < count_of nodes i = rw x at r.1 in
            let q : r.0 < count_of nodes k = rw y at r.2 in
            (r.0, p, q, r.3 ∙ run_at i r.0 p, r.4 ∙ run_at k r.0 q)),
        (λ r. z.1 (r.0, rw x r.1, rw y r.2, r.3 ∙ sym (run_at i r.0 r.1), r.4 ∙ sym (run_at k r.0 r.2))),
      )

  -- a node is a variable exactly if its kind is 0, and by its name
  pub section_variable : (i : ℕ) → i < node_count nodes → (x : ℕ) →
      node_at (nodes_from nodes arguments) i ≡ variable x ↔ ((kind_of nodes i ≡ 0) × (x ≡ name_of nodes i))
  section_variable i h x =
      (from_variable nodes arguments i h x, λ r. variable_from nodes arguments i h r.0 ∙ ap variable (sym r.1))

  -- and otherwise an application of its name, to as many arguments as its count, which are the node's
  pub section_application : (i : ℕ) → i < node_count nodes → (f : ℕ) (us : List ℕ) →
      node_at (nodes_from nodes arguments) i ≡ application f us ↔
      ((kind_of nodes i ≡ 1) × (f ≡ name_of nodes i) × (length us ≡ count_of nodes i) ×
      ((j : ℕ) → j < count_of nodes i → get_or us j 0 ≡ argument_of nodes arguments i j))
  section_application i h f us = (there, back_to)
    where
      there : node_at (nodes_from nodes arguments) i ≡ application f us →
          (kind_of nodes i ≡ 1) × (f ≡ name_of nodes i) × (length us ≡ count_of nodes i) ×
          ((j : ℕ) → j < count_of nodes i → get_or us j 0 ≡ argument_of nodes arguments i j)
      there e =
          let r = from_application nodes arguments i h f us e in
          let k = s.kind i h in
          let n : kind_of nodes i ≡ 0 → ⊥ = r.0 in
          (omega (arith, k, n), r.1, ap length r.2 ∙ run_long i h, λ j q. ap (λ (l : List ℕ). get_or l j 0) r.2 ∙ run_at i j q)

      back_to :
          (kind_of nodes i ≡ 1) × (f ≡ name_of nodes i) × (length us ≡ count_of nodes i) ×
          ((j : ℕ) → j < count_of nodes i → get_or us j 0 ≡ argument_of nodes arguments i j) →
          node_at (nodes_from nodes arguments) i ≡ application f us
      back_to (k, n, l, q) =
          let d : us ≡ run nodes arguments i = ext_get_or 0 us (run nodes arguments i) (l ∙ sym (run_long i h))
          (λ j b. q j (rw l at b) ∙ sym (run_at i j (rw l at b))) in
          application_from nodes arguments i h (λ z. omega (arith, k, z))
          ∙ ap (λ (x : ℕ). application x (run nodes arguments i)) (sym n)
          ∙ ap (application f) (sym d)

  -- each argument is smaller than its node
  pub sections_well_formed : WellFormed (nodes_from nodes arguments)
  sections_well_formed =
      record {
        smaller = λ i f us h e a m.
            let g : i < node_count nodes = rw (nodes_long nodes arguments) at h in
            let r = argument_place i g f us e a m in
            rw r.2 (s.smaller i r.0 g r.1);
      }
