-- The words of an entry, by the sections that they are counted in: the variables are those of the nodes.
-- Assumes nothing.
use Prim.Native.Nat.{ℕ, ◌+◌, ◌≤◌}
use mathlib.Core.Bool.{cond}
use mathlib.Core.List.{List}
use mathlib.Core.Path.{◌≡◌, refl}
use native.Mathlib.Omega.{arith}
use borrow.Author.Tests.{eq-eqb, ne_eqb}
use lib.Dec.{eqb}
use lib.ListN.{length}
use Rattle.table.specs.declared.Refusal.{Refusal}
use Rattle.table.specs.Answer.{number_of}
use Rattle.table.specs.Layout.{nodes_of, arguments_of, left_terms_of, right_terms_of}
use Rattle.table.specs.Refusal.{refusal}
use Rattle.table.specs.Code.Sections.{left_terms}
use Rattle.table.specs.Code.Accepted.{Accepted}
use Rattle.table.proofs.AcceptedLaws.{accepted}
use Rattle.table.proofs.AnswerLaws.{number_above}
use Rattle.unification.specs.Node.{nodes_from}
use Rattle.unification.specs.Computed.Variables.{variables_of}
use Rattle.unification.specs.Answer.{variable_count}
use Rattle.unification.proofs.TableLaws.{nodes_of_sections}
use Rattle.unification.proofs.AnswerLaws.{variables_most}
use Rattle.multiset_unification.specs.Problem.{half_at, problem_of}
use Rattle.multiset_unification.specs.Answer.{entry_words}
use Rattle.multiset_unification.proofs.OneHalfLaws.{one_digits}

-- at most 64 variables are present
pub variables_counted : (t nodes arguments : List ℕ) (v : ℕ) → Accepted t → nodes ≡ nodes_of t → arguments ≡ arguments_of t →
    v ≡ length (variables_of (nodes_from nodes arguments)) → v ≤ 64
unfolding variable_count
variables_counted t nodes arguments v a e f l =
    let few : length (variables_of (nodes_from nodes arguments)) ≤ 64 = rw (e, f, ← nodes_of_sections t) (variables_most t ((accepted t).1 a)) in
    omega (arith, l, few)

-- the terms of both sides and the variables present, counted
pub entry_counted : (t nodes arguments left right : List ℕ) (v : ℕ) → nodes ≡ nodes_of t → arguments ≡ arguments_of t → left ≡ left_terms_of t →
    right ≡ right_terms_of t → v ≡ length (variables_of (nodes_from nodes arguments)) → length left + length right + v ≡ entry_words (problem_of t)
unfolding entry_words variable_count
entry_counted t nodes arguments left right v e f g h l =
    rw (one_digits (half_at t left_terms), nodes_of_sections t, ← e, ← f, ← g, ← h, l) refl

module _ (t : List ℕ) (n : ℕ) where
  -- a refused table has no entry
  pub refused_none : (r : Refusal) → number_of r ≡ refusal t → 0 ≡ cond (eqb (refusal t) 0) n 0
  refused_none r e = rw (ne_eqb (refusal t) 0 (λ z. omega (arith, number_above r))) refl

  -- one that is accepted has n words an entry
  pub accepted_all : refusal t ≡ 0 → n ≡ cond (eqb (refusal t) 0) n 0
  accepted_all e = rw (eq-eqb (refusal t) 0 e) refl
