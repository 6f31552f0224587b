-- What the nodes of an accepted table are: those of its two sections. Assumes nothing.
use Prim.Native.Nat.{ℕ, ◌*◌, ◌<◌, ◌≤◌}
use mathlib.Core.List.{List}
use mathlib.Core.Logic.{◌↔◌}
use mathlib.Core.Path.{◌≡◌, refl}
use native.Mathlib.Omega.{arith}
use lib.ListN.{length, get_or}
use Rattle.table.specs.Limits.{node_words, max_nodes, max_variable}
use Rattle.table.specs.Layout.{word, nodes_of, arguments_of, left_terms_of, right_terms_of, kind_of, name_of, count_of, node_count, argument_of}
use Rattle.table.specs.Code.Sections.{nodes}
use Rattle.table.specs.Code.Accepted.{RightNode, NodesRight, Accepted}
use Rattle.table.proofs.NodeLaws.{right_count_lem}
use Rattle.table.proofs.AcceptedLaws.{arguments_inside}
use Rattle.unification.specs.Node.{variable, application, nodes_in, node_at, Present, nodes_from}
use Rattle.unification.specs.Code.Given.{WellFormed}
use Rattle.unification.specs.Code.Sections.{Sections}
use Rattle.unification.proofs.SectionLaws as section

-- a table's nodes are those of its two sections
pub nodes_of_sections : (t : List ℕ) → nodes_in t ≡ nodes_from (nodes_of t) (arguments_of t)
unfolding nodes_in
nodes_of_sections t = refl

-- they are as many as its nodes section holds
nodes_long : (t : List ℕ) → length (nodes_in t) ≡ node_count (nodes_of t)
nodes_long t = rw (nodes_of_sections t) (section.nodes_long (nodes_of t) (arguments_of t))

module _ {kind name first count earlier : ℕ} where
  known_kind : RightNode kind name first count earlier → kind ≤ 1
  known_kind (RightNode.variable e a b c) = omega arith
  known_kind (RightNode.constant e a b c) = omega arith
  known_kind (RightNode.application e a b c d) = omega arith

  variable_words : RightNode kind name first count earlier → kind ≡ 0 → (name ≤ max_variable) × (count ≡ 0)
  variable_words (RightNode.variable e a b c) z = (a, c)
  variable_words (RightNode.constant e a b c) z = absurd (omega arith)
  variable_words (RightNode.application e a b c d) z = absurd (omega arith)

-- nodes and arguments that are right, within the limit, are what the code needs
pub right_sections : (ns args : List ℕ) → length ns ≤ node_words * max_nodes → NodesRight ns args → Sections ns args
right_sections ns args l r =
    record {
      limit = l;
      kind = λ i h. known_kind (r.each_node i h);
      variable_name = λ i h z. (variable_words (r.each_node i h) z).0;
      variable_count_lem = λ i h z. (variable_words (r.each_node i h) z).1;
      count = λ i h. right_count_lem (r.each_node i h);
      run = (arguments_inside ns args r).run;
      smaller = r.each_argument;
    }

-- and so are the two sections of an accepted table
pub sections_of : (t : List ℕ) → Accepted t → Sections (nodes_of t) (arguments_of t)
sections_of t g = right_sections _ _ (g.laid_out.within_limits nodes (omega arith)) g.right_nodes

module _ (t : List ℕ) (i : ℕ) (h : i < length (nodes_in t)) (g : Accepted t) where
  inside : i < node_count (nodes_of t)
  inside = rw (nodes_long t) at h

  -- "Kind 0 is a variable": of its name
  pub variable_read : (x : ℕ) → node_at (nodes_in t) i ≡ variable x ↔ ((kind_of (nodes_of t) i ≡ 0) × (x ≡ name_of (nodes_of t) i))
  variable_read x =
      rw (nodes_of_sections t) (section.section_variable (nodes_of t) (arguments_of t) (sections_of t g) i inside x)

  -- "Kind 1 is an application": of its name, to as many arguments as its count, which are the node's
  pub application_read : (f : ℕ) (us : List ℕ) → node_at (nodes_in t) i ≡ application f us ↔
      ((kind_of (nodes_of t) i ≡ 1) × (f ≡ name_of (nodes_of t) i) × (length us ≡ count_of (nodes_of t) i) ×
      ((j : ℕ) → j < count_of (nodes_of t) i → get_or us j 0 ≡ argument_of (nodes_of t) (arguments_of t) i j))
  application_read f us =
      rw (nodes_of_sections t) (section.section_application (nodes_of t) (arguments_of t) (sections_of t g) i inside f us)

-- "Its name is 0 to 63": that of each variable present
pub variable_most : (t : List ℕ) → Accepted t → (x : ℕ) → Present (nodes_in t) x → x ≤ max_variable
variable_most t g x (i, h, e) =
    let r = (variable_read t i h g x).0 e in
    let n = (sections_of t g).variable_name i (inside t i h g) r.0 in
    omega (arith, r.1, n)

-- in an accepted table each argument is smaller than its node
pub well_formed : (t : List ℕ) → Accepted t → WellFormed (nodes_in t)
well_formed t g =
    rw (nodes_of_sections t) (section.sections_well_formed (nodes_of t) (arguments_of t) (sections_of t g))

-- the terms of an accepted table are nodes
pub left_node : (t : List ℕ) → Accepted t → (i : ℕ) → i < length (left_terms_of t) → word (left_terms_of t) i < length (nodes_in t)
left_node t a i h = rw (nodes_long t) (a.right_sides.each_left_term i h)

-- on both sides
pub right_node_lem : (t : List ℕ) → Accepted t → (j : ℕ) → j < length (right_terms_of t) → word (right_terms_of t) j < length (nodes_in t)
right_node_lem t a j h = rw (nodes_long t) (a.right_sides.each_right_term j h)
