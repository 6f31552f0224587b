-- The numbers by which answers are given to callers in other languages. Checking a table has document 01's, by `told` of crate `table`.
use Rattle.std.specs.Prelude.{ℕ}
use Rattle.unification.specs.Outcome.{unified, clash, occurs}
use Rattle.unification.specs.Answer.{Answer, ended, refused}
use Rattle.multiset_unification.specs.Answer.{Told}
use Rattle.pallihun.specs.declared.PallihunListing.{PallihunListing}

-- Unifying two nodes: 0 for unified, 1000 for a clash, 1001 for occurs, or the number of the refusal.
abbrev pub number_of : Answer → ℕ
number_of (ended unified) = 0
number_of (ended clash) = 1000
number_of (ended occurs) = 1001
number_of (refused n) = n

-- Listing a table: the number of the answer, and that of the entries left.
abbrev pub numbers_of : PallihunListing → Told
numbers_of l = record { answer = l.answer; entries = l.entries }
