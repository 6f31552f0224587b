-- What `unify` answers, and what it leaves in the lent words.
use Rattle.std.specs.Prelude.{ℕ, zero, suc, Bool, ◌||◌, List, [], ◌∷◌, ◌++◌, leb, ltb, length, drop, Result, Ok, Err}
use Rattle.table.specs.declared.Refusal.{Refusal}
use Rattle.table.specs.Refusal.{conditions, first_held}
use Rattle.table.specs.Answer.{number_of}
use Rattle.unification.specs.declared.Unification.{Unification}
use Rattle.unification.specs.declared.Unification.TheVariants.{Unified, Clash, Occurs}
use Rattle.unification.specs.Node.{nodes_in}
use Rattle.unification.specs.Computed.Variables.{variables_of}
use Rattle.unification.specs.Outcome.{Outcome, unified, clash, occurs}
use Rattle.unification.specs.Computed.Unifying.{outcome, words_of}

-- "With V variables present"
unfoldable pub variable_count : List ℕ → ℕ
variable_count t = length (variables_of (nodes_in t))

-- "1 to 7, then 8: a given number is not a node. Then 9: the lent binding words are fewer than V, tested before unifying."
unfoldable pub unify_conditions : List ℕ → ℕ → ℕ → ℕ → List (ℕ × Bool)
unify_conditions t a b lent =
    conditions t ++ (8, leb (length (nodes_in t)) a || leb (length (nodes_in t)) b) ∷ (9, ltb lent (variable_count t)) ∷ []

-- "The answer is unified, clash or occurs", or a refusal by its number.
pub data Answer : Type 0 where
  ended : Outcome → Answer
  refused : ℕ → Answer

-- What unifying two nodes comes to.
abbrev pub outcome_of : Unification → Outcome
outcome_of Unified = unified
outcome_of Clash = clash
outcome_of Occurs = occurs

-- What an answer of `unify` stands for.
abbrev pub told : Result Unification Refusal → Answer
told (Ok u) = ended (outcome_of u)
told (Err r) = refused (number_of r)

-- The answer, by the number of the first condition that holds, 0 where none does.
unfoldable pub answer_after : ℕ → Outcome → Answer
answer_after zero o = ended o
answer_after (suc n) o = refused (suc n)

-- What `unify` answers to a table, two numbers and so many lent words.
unfoldable pub unification : List ℕ → ℕ → ℕ → ℕ → Answer
unification t a b lent =
    answer_after (first_held (unify_conditions t a b lent)) (outcome (nodes_in t) ((a, b) ∷ []))

-- "Unified fills the first V lent words and no other; the last two change no lent word."
unfoldable pub words_after : Answer → List ℕ → List ℕ → List ℕ
words_after (ended unified) words lent = words ++ drop (length words) lent
words_after (ended clash) words lent = lent
words_after (ended occurs) words lent = lent
words_after (refused n) words lent = lent

-- The lent words after the call.
unfoldable pub lent_after : List ℕ → ℕ → ℕ → List ℕ → List ℕ
lent_after t a b lent =
    words_after (unification t a b (length lent)) (words_of (nodes_in t) ((a, b) ∷ [])) lent
