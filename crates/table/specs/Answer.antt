-- Document 01's number of each answer. Every promise about an answer is said through these.
use Rattle.std.specs.Prelude.{ℕ, Result, Ok, Err}
use Rattle.table.specs.declared.Refusal.{Refusal}
use Rattle.table.specs.declared.Refusal.TheVariants.{TooFewWords, BrokenPair, OverLimit, WrongNode, WrongArgument, WrongTerm, WrongLabel, NotANode, TooFewLent}

abbrev pub number_of : Refusal → ℕ
number_of TooFewWords = 1
number_of BrokenPair = 2
number_of OverLimit = 3
number_of WrongNode = 4
number_of WrongArgument = 5
number_of WrongTerm = 6
number_of WrongLabel = 7
number_of NotANode = 8
number_of TooFewLent = 9

-- What checking a table answers: the refusal's number, and 0 for an accepted table, to which document 01 gives none.
abbrev pub told : Result (Unit {0}) Refusal → ℕ
told (Ok u) = 0
told (Err r) = number_of r
