-- What the program `list` prints, for every input.
use Rattle.std.specs.Prelude.{ℕ, cond, List, [], ◌∷◌, ◌++◌, eqb, length}
use Rattle.table.specs.Refusal.{conditions}
use Rattle.multiset_unification.specs.Problem.{problem_of}
use Rattle.multiset_unification.specs.Answer.{Told, entries_left, listed}
use Rattle.multiset_unification.specs.Computed.Listing.{complete_listing}
use Rattle.text.specs.Input.{wrong_bytes, words_of_bytes}
use Rattle.text.specs.Line.{lines, titled}

-- "entries ", "full " and "refused ".
abbrev pub entries_text : List ℕ
entries_text = 101 ∷ 110 ∷ 116 ∷ 114 ∷ 105 ∷ 101 ∷ 115 ∷ 32 ∷ []

abbrev pub full_text : List ℕ
full_text = 102 ∷ 117 ∷ 108 ∷ 108 ∷ 32 ∷ []

abbrev pub refused_text : List ℕ
refused_text = 114 ∷ 101 ∷ 102 ∷ 117 ∷ 115 ∷ 101 ∷ 100 ∷ 32 ∷ []

-- "It prints `entries K`, `full K` or `refused N`": the line for an answer of `listing::list`.
unfoldable pub title : Told → List ℕ
title w =
    cond (eqb w.answer 0) (titled entries_text w.entries)
    (cond (eqb w.answer 10) (titled full_text w.entries) (titled refused_text w.answer))

-- "lends 16,384 words": what is printed for a table.
unfoldable pub printed_table : List ℕ → List ℕ
printed_table t =
    title (listed (conditions t) (complete_listing (problem_of t)) 16384) ++
    lines (entries_left (conditions t) (complete_listing (problem_of t)) 16384)

-- What is printed for the bytes of an input; "11 .. tested before all else".
unfoldable pub printed : List ℕ → List ℕ
printed bytes = cond (wrong_bytes (length bytes)) (titled refused_text 11) (printed_table (words_of_bytes bytes))
