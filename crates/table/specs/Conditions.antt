-- The conditions of document 01's refusals 1 to 7, each a test: 1 to 3 of a table with some sections, 4 and 5 of nodes and
-- arguments, 6 of terms, 7 of labels.
use Rattle.std.specs.Prelude.{ℕ, zero, suc, ◌+◌, ◌*◌, ◌%◌, Bool, false, not, cond, ◌&&◌, ◌||◌, List, eqb, leb, ltb, length, get_or}
use Rattle.table.specs.Limits.{Section, header_words, max_variable, max_name, max_count, max_label}
use Rattle.table.specs.Some.{some_below}
use Rattle.table.specs.Layout.{word, offset, size, kind_of, name_of, first_of, count_of, node_count, counts_before, argument_of}

-- 1: "fewer than 12 words"
unfoldable pub too_few_words : List Section → List ℕ → Bool
too_few_words ss t = ltb (length t) (header_words ss)

-- Where section k should start: after the pairs, or at the end of the section before it.
unfoldable pub end_before : List Section → List ℕ → ℕ → ℕ
end_before ss t zero = header_words ss
end_before ss t (suc k) = offset t k + size t k

-- The offset of section k is not as it should be: "The first offset is 12. Each next offset is the end of the section before it."
unfoldable pub offset_is_wrong : List Section → List ℕ → ℕ → Bool
offset_is_wrong ss t k = not (eqb (offset t k) (end_before ss t k))

-- 2: "a pair breaks the rule of offsets or ends". "The last section ends at the end of the slice."
unfoldable pub broken_pair : List Section → List ℕ → Bool
broken_pair ss t =
    some_below (length ss) (offset_is_wrong ss t) || not (eqb (end_before ss t (length ss)) (length t))

-- n words are not whole items of a section, or are over its limit.
unfoldable pub words_are_wrong : Section → ℕ → Bool
words_are_wrong s n = not (eqb (n % s.item) 0) || ltb (s.item * s.most) n

-- Section k; after the last one there is none.
abbrev pub section_at : List Section → ℕ → Section
section_at ss k = get_or ss k (record { item = 1; most = 0 })

-- Section k does not have whole items, or is over its limit.
unfoldable pub size_is_wrong : List Section → List ℕ → ℕ → Bool
size_is_wrong ss t k = words_are_wrong (section_at ss k) (size t k)

-- 3: "the nodes section is not a multiple of 4 words, or a section is over its limit". Items of one word are always whole.
unfoldable pub over_limit : List Section → List ℕ → Bool
over_limit ss t = some_below (length ss) (size_is_wrong ss t)

-- "Kind 0 is a variable. Its name is 0 to 63; first and count are 0."
unfoldable pub right_variable : ℕ → ℕ → ℕ → Bool
right_variable name first count = leb name max_variable && eqb first 0 && eqb count 0

-- "Count 0 is a constant, and first is then 0." Otherwise "first is the sum of the earlier counts".
unfoldable pub start_of : ℕ → ℕ → ℕ
start_of count earlier = cond (eqb count 0) 0 earlier

-- "Kind 1 is an application. Its name is 0 to 65535 and its count 0 to 8."
unfoldable pub right_application : ℕ → ℕ → ℕ → ℕ → Bool
right_application name first count earlier =
    leb name max_name && leb count max_count && eqb first (start_of count earlier)

-- A node with these words, after nodes whose counts add up to `earlier`, has a right kind, name, first and count.
unfoldable pub right_node : ℕ → ℕ → ℕ → ℕ → ℕ → Bool
right_node kind name first count earlier =
    cond (eqb kind 0) (right_variable name first count)
    (cond (eqb kind 1) (right_application name first count earlier) false)

-- Node i of a nodes section has a wrong kind, name, first or count.
unfoldable pub node_is_wrong : List ℕ → ℕ → Bool
node_is_wrong ns i = not (right_node (kind_of ns i) (name_of ns i) (first_of ns i) (count_of ns i) (counts_before ns i))

-- 4: "a node has a wrong kind, name, first or count, or the counts do not add up to the arguments section"
unfoldable pub wrong_node : List ℕ → List ℕ → Bool
wrong_node ns args =
    some_below (node_count ns) (node_is_wrong ns) || not (eqb (counts_before ns (node_count ns)) (length args))

-- Argument j of node i is not smaller than i.
unfoldable pub argument_is_wrong : List ℕ → List ℕ → ℕ → ℕ → Bool
argument_is_wrong ns args i j = leb i (argument_of ns args i j)

-- Some argument of node i is wrong.
unfoldable pub run_is_wrong : List ℕ → List ℕ → ℕ → Bool
run_is_wrong ns args i = some_below (count_of ns i) (argument_is_wrong ns args i)

-- 5: "an argument is not smaller than its node"
unfoldable pub wrong_argument : List ℕ → List ℕ → Bool
wrong_argument ns args = some_below (node_count ns) (run_is_wrong ns args)

-- Term i is none of n nodes.
unfoldable pub term_is_wrong : ℕ → List ℕ → ℕ → Bool
term_is_wrong n ts i = leb n (word ts i)

-- 6: "a term is not a node number", of the terms of a side, where there are n nodes
unfoldable pub wrong_term : ℕ → List ℕ → Bool
wrong_term n ts = some_below (length ts) (term_is_wrong n ts)

-- Labels i and j are equal.
unfoldable pub labels_are_equal : List ℕ → ℕ → ℕ → Bool
labels_are_equal ls i j = eqb (word ls j) (word ls i)

-- Label i is "0, above 65535, or repeated": equal to an earlier one.
unfoldable pub label_is_wrong : List ℕ → ℕ → Bool
label_is_wrong ls i = eqb (word ls i) 0 || ltb max_label (word ls i) || some_below i (labels_are_equal ls i)

-- 7: "a label is 0, above 65535, or repeated", of the labels of the whole table
unfoldable pub wrong_label : List ℕ → Bool
wrong_label ls = some_below (length ls) (label_is_wrong ls)
