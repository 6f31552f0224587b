-- What a call of `unify` with an accepted table answers, by the table's nodes.
use Rattle.std.specs.Prelude.{ℕ, cond, ◌||◌, List, [], ◌∷◌, ◌≡◌, leb, ltb, length, Result}
use Rattle.table.specs.declared.Refusal.{Refusal}
use Rattle.unification.specs.declared.Unification.{Unification}
use Rattle.unification.specs.Node.{Node}
use Rattle.unification.specs.Computed.Variables.{variables_of}
use Rattle.unification.specs.Computed.Unifying.{outcome, words_of}
use Rattle.unification.specs.Answer.{Answer, ended, refused, told, words_after}

-- The answer, where the table is accepted (`accepted_table`).
unfoldable pub called : List Node → ℕ → ℕ → ℕ → Answer
called ns a b lent =
    cond (leb (length ns) a || leb (length ns) b) (refused 8)
    (cond (ltb lent (length (variables_of ns))) (refused 9) (ended (outcome ns ((a, b) ∷ []))))

-- The answer r and the lent words after a call are what they should be.
pub record AnswersByNodes (ns : List Node) (a b : ℕ) (out : List ℕ) (r : Result Unification Refusal) (out' : List ℕ) : Type 0 where
  pub answer : told r ≡ called ns a b (length out)
  pub words : out' ≡ words_after (called ns a b (length out)) (words_of ns ((a, b) ∷ [])) out
