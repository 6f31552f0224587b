-- The numbers of the sections of document 01's table, by name; and the first sections of any table.
use Rattle.std.specs.Prelude.{ℕ, zero, suc, ◌+◌, ◌*◌, List, ◌++◌, take}
use Rattle.table.specs.Limits.{Section, header_words}
use Rattle.table.specs.Layout.{section}
use Rattle.table.specs.Conditions.{section_at}

abbrev pub nodes : ℕ
nodes = 0

abbrev pub arguments : ℕ
arguments = 1

abbrev pub left_terms : ℕ
left_terms = 2

abbrev pub left_labels : ℕ
left_labels = 3

abbrev pub right_terms : ℕ
right_terms = 4

abbrev pub right_labels : ℕ
right_labels = 5

-- The header and the first k sections, one after the other.
unfoldable pub sections_to : List Section → List ℕ → ℕ → List ℕ
sections_to ss t zero = take (header_words ss) t
sections_to ss t (suc k) = sections_to ss t k ++ section t k

-- The most words that the first k sections may have together.
unfoldable pub limits_to : List Section → ℕ → ℕ
limits_to ss zero = 0
limits_to ss (suc k) = limits_to ss k + (section_at ss k).item * (section_at ss k).most
