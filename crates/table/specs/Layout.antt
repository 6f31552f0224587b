-- How a list of words is read as document 01's problem table.
-- Where a table is refused, what is read past an end is 0 and of no account.
use Rattle.std.specs.Prelude.{ℕ, zero, suc, ◌+◌, ◌*◌, ◌/◌, List, ◌++◌, length, get_or, take, drop}
use Rattle.table.specs.Limits.{node_words}

-- The word at a place.
abbrev pub word : List ℕ → ℕ → ℕ
word t i = get_or t i 0

-- "Words 0 to 11 are six pairs of offset and length, both in words"
abbrev pub offset : List ℕ → ℕ → ℕ
offset t k = word t (2 * k)

abbrev pub size : List ℕ → ℕ → ℕ
size t k = word t (2 * k + 1)

-- The words of section k.
abbrev pub section : List ℕ → ℕ → List ℕ
section t k = take (size t k) (drop (offset t k) t)

-- "sorted by offset: nodes, arguments, left terms, left labels, right terms, right labels"
abbrev pub nodes_of : List ℕ → List ℕ
nodes_of t = section t 0

abbrev pub arguments_of : List ℕ → List ℕ
arguments_of t = section t 1

abbrev pub left_terms_of : List ℕ → List ℕ
left_terms_of t = section t 2

abbrev pub left_labels_of : List ℕ → List ℕ
left_labels_of t = section t 3

abbrev pub right_terms_of : List ℕ → List ℕ
right_terms_of t = section t 4

abbrev pub right_labels_of : List ℕ → List ℕ
right_labels_of t = section t 5

-- The labels of the whole table: the left ones, then the right ones.
abbrev pub labels_of : List ℕ → List ℕ
labels_of t = left_labels_of t ++ right_labels_of t

-- "A node is four words: kind, name, first, count. Nodes are numbered from 0." Node i of a nodes section.
abbrev pub kind_of : List ℕ → ℕ → ℕ
kind_of ns i = word ns (node_words * i)

abbrev pub name_of : List ℕ → ℕ → ℕ
name_of ns i = word ns (node_words * i + 1)

abbrev pub first_of : List ℕ → ℕ → ℕ
first_of ns i = word ns (node_words * i + 2)

abbrev pub count_of : List ℕ → ℕ → ℕ
count_of ns i = word ns (node_words * i + 3)

-- How many nodes a nodes section holds.
abbrev pub node_count : List ℕ → ℕ
node_count ns = length ns / node_words

-- "the sum of the earlier counts": of the nodes before node i
unfoldable pub counts_before : List ℕ → ℕ → ℕ
counts_before ns zero = 0
counts_before ns (suc i) = counts_before ns i + count_of ns i

-- Argument j of node i: its arguments start at its first.
abbrev pub argument_of : List ℕ → List ℕ → ℕ → ℕ → ℕ
argument_of ns args i j = word args (first_of ns i + j)
