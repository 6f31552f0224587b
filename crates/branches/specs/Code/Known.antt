-- What is known before the walk, in bytes that it does not change: how many arguments of each node are looked at, the open applications,
-- the least nodes of the variables, the two sides, and for each left term the right terms that it may be paired with.
use Rattle.std.specs.Prelude.{ℕ, ◌+◌, ◌-◌, ◌^◌, ◌≤◌, ◌<◌, List, ◌++◌, ◌≡◌, length, take, drop, set}
use Rattle.table.specs.Limits.{max_terms, max_labels}
use Rattle.table.specs.Layout.{word, node_count}
use Rattle.unification.specs.Node.{nodes_from}
use Rattle.unification.specs.Computed.Variables.{variables_of}
use Rattle.unification.specs.Code.Sections.{Sections}
use Rattle.nodes.specs.Code.Open.{Counts, OpenListed}
use Rattle.values.specs.Code.Present.{least_nodes}

-- How many bytes there are.
abbrev pub known_bytes : ℕ
known_bytes = 608

-- How many left terms, right terms, left labels and right labels there are.
abbrev pub left_count : List ℕ → ℕ
left_count known = word known 578

abbrev pub right_count : List ℕ → ℕ
right_count known = word known 579

abbrev pub left_labels : List ℕ → ℕ
left_labels known = word known 580

abbrev pub right_labels : List ℕ → ℕ
right_labels known = word known 581

-- The words of an entry.
abbrev pub width_in : List ℕ → ℕ
width_in known = word known 582

-- The set of all right terms.
abbrev pub every_in : List ℕ → ℕ
every_in known = word known 583

-- The terms of the two sides.
unfoldable pub left_in : List ℕ → List ℕ
left_in known = take (left_count known) (drop 584 known)

unfoldable pub right_in : List ℕ → List ℕ
right_in known = take (right_count known) (drop 592 known)

-- For each left term the set of right terms that it may be paired with.
unfoldable pub rows_in : List ℕ → List ℕ
rows_in known = take (left_count known) (drop 600 known)

-- The open applications.
unfoldable pub opens_in : List ℕ → List ℕ
opens_in known = take (word known 576) (drop 256 known)

-- The least nodes of the variables.
unfoldable pub list_in : List ℕ → List ℕ
list_in known = take (word known 577) (drop 512 known)

-- All this is right, but for the sets.
pub record KnownOf (nodes arguments known : List ℕ) : Type 0 where
  pub sections : Sections nodes arguments
  pub size : length known ≡ known_bytes
  pub counts : Counts nodes arguments known (node_count nodes)
  pub opens_few : word known 576 ≤ 256
  pub opens : OpenListed nodes known (opens_in known)
  pub list_few : word known 577 ≤ 64
  pub list : list_in known ≡ least_nodes (nodes_from nodes arguments)
  pub left_few : left_count known ≤ max_terms
  pub right_few : right_count known ≤ max_terms
  pub left_nodes : (j : ℕ) → j < left_count known → word known (584 + j) < node_count nodes
  pub right_nodes : (j : ℕ) → j < right_count known → word known (592 + j) < node_count nodes
  pub left_labels_lem : left_labels known ≤ max_labels
  pub right_labels_lem : right_labels known ≤ max_labels
  pub width : width_in known ≡ left_count known + right_count known + word known 577
  pub every : every_in known + 1 ≡ 2 ^ right_count known

-- What is known of the sections of an accepted table and of its numbers of labels.
pub record Listable (nodes arguments left right : List ℕ) (k l : ℕ) : Type 0 where
  pub sections : Sections nodes arguments
  pub left_few : length left ≤ max_terms
  pub right_few : length right ≤ max_terms
  pub left_nodes : (j : ℕ) → j < length left → word left j < node_count nodes
  pub right_nodes : (j : ℕ) → j < length right → word right j < node_count nodes
  pub left_labels_lem : k ≤ max_labels
  pub right_labels_lem : l ≤ max_labels

-- These sides, with k and l labels, are what is known.
pub record SidesKnown (nodes arguments left right : List ℕ) (k l : ℕ) (known : List ℕ) : Type 0 where
  pub knows : KnownOf nodes arguments known
  pub left_is : left_in known ≡ left
  pub right_is : right_in known ≡ right
  pub left_labelled : left_labels known ≡ k
  pub right_labelled : right_labels known ≡ l
  pub width_is : width_in known ≡ length left + length right + length (variables_of (nodes_from nodes arguments))

-- All but the sets is as before.
pub record KeepsKnown (known known' : List ℕ) : Type 0 where
  pub size : length known' ≡ length known
  pub same : (k : ℕ) → k < 600 → word known' k ≡ word known k

-- All words of a list are bytes.
pub record AllBytes (words : List ℕ) : Type 0 where
  pub small : (j : ℕ) → j < length words → word words j < 256

-- How many terms, labels and variables there are, put at their places.
unfoldable pub counted : ℕ → ℕ → ℕ → ℕ → ℕ → List ℕ → List ℕ
counted n m k l v known =
    set (set (set (set (set (set (set known 577 v) 578 n) 579 m) 580 k) 581 l) 582 (n + m + v)) 583 (2 ^ m - 1)

-- Words in the place of as many from p on.
abbrev pub put_at : ℕ → List ℕ → List ℕ → List ℕ
put_at p words known = take p known ++ words ++ drop (p + length words) known

-- The two sides with k and l labels, and how many variables there are, are put into what is known.
pub record PutSides (left right : List ℕ) (k l v : ℕ) (known known' : List ℕ) : Type 0 where
  pub is : known' ≡ put_at 592 right (put_at 584 left (counted (length left) (length right) k l v known))
