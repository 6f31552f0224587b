-- The numbers that document 01 fixes for a table.
use Rattle.std.specs.Prelude.{ℕ, ◌*◌, List, [], ◌∷◌, length}

-- "A node is four words"
abbrev pub node_words : ℕ
node_words = 4

-- "At most 256 nodes, 512 arguments, 8 terms a side, 4 labels a side."
abbrev pub max_nodes : ℕ
max_nodes = 256

abbrev pub max_arguments : ℕ
max_arguments = 512

abbrev pub max_terms : ℕ
max_terms = 8

abbrev pub max_labels : ℕ
max_labels = 4

-- A section of a table: how many words an item has, and how many items there are at most.
pub record Section : Type 0 where
  pub item : ℕ
  pub most : ℕ

-- "nodes, arguments, left terms, left labels, right terms, right labels"; an argument, a term and a label are a word each.
abbrev pub sections : List Section
sections =
    record { item = node_words; most = max_nodes } ∷ record { item = 1; most = max_arguments } ∷
    record { item = 1; most = max_terms } ∷ record { item = 1; most = max_labels } ∷
    record { item = 1; most = max_terms } ∷ record { item = 1; most = max_labels } ∷ []

-- "Words 0 to 11 are six pairs of offset and length": a pair for each section.
abbrev pub header_words : List Section → ℕ
header_words ss = 2 * length ss

-- "Kind 0 is a variable. Its name is 0 to 63"
abbrev pub max_variable : ℕ
max_variable = 63

-- "Kind 1 is an application. Its name is 0 to 65535 and its count 0 to 8."
abbrev pub max_name : ℕ
max_name = 65535

abbrev pub max_count : ℕ
max_count = 8

-- "A label is 1 to 65535"
abbrev pub max_label : ℕ
max_label = 65535
