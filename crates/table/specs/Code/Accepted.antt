-- All that acceptance means, in document 01's words. It is tied both ways to the refusal, so nobody has to believe it.
-- Functions that are called after the check can ask for it.
use Rattle.std.specs.Prelude.{ℕ, ◌*◌, ◌%◌, ◌≤◌, ◌<◌, ◌≡◌, List, length}
use Rattle.table.specs.Limits.{Section, sections, header_words, max_variable, max_name, max_count, max_label}
use Rattle.table.specs.Layout.{word, offset, section, nodes_of, arguments_of, left_terms_of, right_terms_of, labels_of, kind_of, name_of, first_of, count_of, node_count, counts_before, argument_of}
use Rattle.table.specs.Conditions.{end_before, section_at}

-- What the words of a node may be, after nodes whose counts add up to `earlier`.
pub data RightNode (kind name first count earlier : ℕ) : Type 0 where
  -- "Kind 0 is a variable. Its name is 0 to 63; first and count are 0."
  variable : kind ≡ 0 → name ≤ max_variable → first ≡ 0 → count ≡ 0 → RightNode kind name first count earlier
  -- "Kind 1 is an application. Its name is 0 to 65535 [..] Count 0 is a constant, and first is then 0."
  constant : kind ≡ 1 → name ≤ max_name → first ≡ 0 → count ≡ 0 → RightNode kind name first count earlier
  -- "its count 0 to 8"; "first is the sum of the earlier counts"
  application : kind ≡ 1 → name ≤ max_name → first ≡ earlier → 0 < count → count ≤ max_count → RightNode kind name first count earlier

-- Node i of a nodes section.
abbrev pub NodeIsRight : List ℕ → ℕ → Type 0
NodeIsRight ns i = RightNode (kind_of ns i) (name_of ns i) (first_of ns i) (count_of ns i) (counts_before ns i)

-- A table with these sections that meets none of refusals 1 to 3 (`laid_out_means`).
pub record LaidOut (ss : List Section) (t : List ℕ) : Type 0 where
  -- "Words 0 to 11 are six pairs of offset and length"
  pub header : header_words ss ≤ length t
  -- "The first offset is 12. Each next offset is the end of the section before it."
  pub starts : (k : ℕ) → k < length ss → offset t k ≡ end_before ss t k
  -- "The last section ends at the end of the slice."
  pub ends : end_before ss t (length ss) ≡ length t
  -- "A node is four words": a section has whole items
  pub whole : (k : ℕ) → k < length ss → length (section t k) % (section_at ss k).item ≡ 0
  -- "At most 256 nodes, 512 arguments, 8 terms a side, 4 labels a side."
  pub within_limits : (k : ℕ) → k < length ss → length (section t k) ≤ (section_at ss k).item * (section_at ss k).most

-- Nodes and arguments that meet neither refusal 4 nor 5 (`right_nodes_mean`).
pub record NodesRight (ns args : List ℕ) : Type 0 where
  -- kind, name, first and count of each node
  pub each_node : (i : ℕ) → i < node_count ns → NodeIsRight ns i
  -- "the sum of all counts is the length of the arguments section"
  pub counts : counts_before ns (node_count ns) ≡ length args
  -- "An argument is a node number smaller than that of the node it belongs to."
  pub each_argument : (i j : ℕ) → i < node_count ns → j < count_of ns i → argument_of ns args i j < i

-- The terms of two sides, with n nodes and the labels of the whole table, that meet neither refusal 6 nor 7 (`right_sides_mean`).
pub record SidesRight (n : ℕ) (left right labels : List ℕ) : Type 0 where
  -- "A term is a node number"
  pub each_left_term : (i : ℕ) → i < length left → word left i < n
  pub each_right_term : (i : ℕ) → i < length right → word right i < n
  -- "A label is 1 to 65535 and stands once in the whole table."
  pub each_label : (i : ℕ) → i < length labels → (0 < word labels i) × (word labels i ≤ max_label)
  pub once : (i j : ℕ) → i < j → j < length labels → word labels i ≡ word labels j → ⊥

-- A table that meets no refusal (`accepted`).
pub record Accepted (t : List ℕ) : Type 0 where
  pub laid_out : LaidOut sections t
  pub right_nodes : NodesRight (nodes_of t) (arguments_of t)
  pub right_sides : SidesRight (node_count (nodes_of t)) (left_terms_of t) (right_terms_of t) (labels_of t)
