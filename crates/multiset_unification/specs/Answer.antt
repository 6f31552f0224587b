-- What a listing answers, and what it leaves in the lent words: of conditions, by which it may be refused, and entries, which it lists otherwise.
use Rattle.std.specs.Prelude.{ℕ, ◌+◌, ◌-◌, ◌*◌, Bool, cond, eqb, leb, ltb, length, take, drop, Result, Ok, Err}
use mathlib.Core.List.{List, [], ◌∷◌, ◌++◌, flatten}
use Rattle.table.specs.declared.Refusal.{Refusal}
use Rattle.table.specs.Refusal.{first_held}
use Rattle.table.specs.Answer.{number_of}
use Rattle.unification.specs.Node.{tabulate}
use Rattle.unification.specs.Computed.Variables.{variables_of}
use Rattle.multiset_unification.specs.declared.Listing.{Listing}
use Rattle.multiset_unification.specs.declared.Listing.TheVariants.{Finished, Full}
use Rattle.multiset_unification.specs.Problem.{Problem}
use Rattle.multiset_unification.specs.Entry.{digit_count}

-- Document 01's number of an answer, 0 for a finished listing, and the number of entries left.
pub record Told : Type 0 where
  pub answer : ℕ
  pub entries : ℕ

-- What listing an accepted table stands for.
abbrev pub told_listing : Listing → Told
told_listing (Finished k) = record { answer = 0; entries = k }
told_listing (Full k) = record { answer = 10; entries = k }

-- What an answer of `list` stands for.
abbrev pub told : Result Listing Refusal → Told
told (Ok l) = told_listing l
told (Err r) = record { answer = number_of r; entries = 0 }

-- "1 to 7, then 10, full: the entries of the complete listing need more words than were lent."
unfoldable pub list_conditions : List (ℕ × Bool) → List (List ℕ) → ℕ → List (ℕ × Bool)
list_conditions cs es lent = cs ++ (10, ltb lent (length (flatten es))) ∷ []

-- "as many whole first entries as fit"
unfoldable pub fitting : ℕ → List (List ℕ) → List (List ℕ)
fitting lent [] = []
fitting lent (e ∷ es) = cond (leb (length e) lent) (e ∷ fitting (lent - length e) es) []

-- The entries that the call leaves in so many lent words: none where one of the conditions cs holds.
unfoldable pub entries_left : List (ℕ × Bool) → List (List ℕ) → ℕ → List (List ℕ)
entries_left cs es lent = cond (eqb (first_held cs) 0) (fitting lent es) []

-- What the call answers with so many lent words.
unfoldable pub listed : List (ℕ × Bool) → List (List ℕ) → ℕ → Told
listed cs es lent =
    record { answer = first_held (list_conditions cs es lent); entries = length (entries_left cs es lent) }

-- The lent words after the call: the entries, and then what was there.
unfoldable pub lent_after : List (ℕ × Bool) → List (List ℕ) → List ℕ → List ℕ
lent_after cs es lent =
    flatten (entries_left cs es (length lent)) ++ drop (length (flatten (entries_left cs es (length lent)))) lent

-- "With V variables present an entry is n + m + V words."
unfoldable pub entry_words : Problem → ℕ
entry_words p = digit_count p.halves + length (variables_of p.nodes)

-- The first k entries as they lie in words, one after the other.
unfoldable pub entries_in : Problem → ℕ → List ℕ → List (List ℕ)
entries_in p k words = tabulate k (λ i. take (entry_words p) (drop (entry_words p * i) words))
