-- Document 01's table as a problem: that of an accepted table has what laws need, and its entries have at most 80 words.
-- Its conditions are refusals 1 to 7. Assumes nothing.
use Prim.Native.Nat.{ℕ, ◌+◌, ◌≤◌}
use mathlib.Core.List.Memᴰ
use mathlib.Core.List.{List}
use mathlib.Core.Logic.{◌↔◌}
use mathlib.Core.Path.{◌≡◌, refl}
use native.Mathlib.Omega.{arith}
use lib.ListN.{length}
use Rattle.std.specs.Prelude.{Result}
use Rattle.table.specs.declared.Refusal.{Refusal}
use Rattle.table.specs.Layout.{left_terms_of, right_terms_of}
use Rattle.table.specs.Refusal.{conditions, first_held, refusal}
use Rattle.table.specs.Code.Sections.{left_terms, right_terms}
use Rattle.table.specs.Code.Accepted.{Accepted}
use Rattle.table.proofs.AcceptedLaws.{accepted}
use Rattle.table.proofs.AnswerLaws.{refusal_numbered}
use Rattle.table.proofs.RefusalLaws.{conditions_numbered}
use Rattle.unification.specs.Node.{nodes_in}
use Rattle.unification.specs.Words.{end, before}
use Rattle.unification.specs.Answer.{variable_count}
use Rattle.unification.proofs.TableLaws.{well_formed, left_node, right_node_lem}
use Rattle.unification.proofs.AnswerLaws.{variables_most}
use Rattle.multiset_unification.specs.declared.Listing.{Listing}
use Rattle.multiset_unification.specs.Problem.{half_at, problem_of}
use Rattle.multiset_unification.specs.Answer.{told, listed, entry_words}
use Rattle.multiset_unification.specs.Code.Posed.{HalfPosed, Posed}
use Rattle.multiset_unification.proofs.OneHalfLaws.{one_digits}
use Rattle.multiset_unification.proofs.AnswerLaws.{Refusals, told_there}

-- the problem of an accepted table has what laws need
pub posed : (t : List ℕ) → Accepted t → Posed (problem_of t)
posed t a =
    record {
      well_formed = well_formed t a;
      each = λ h m. rw (Memᴰ.eq_of_singleton m) half;
      apart = before (λ h m. absurd (Memᴰ.not-nil m)) end;
    }
  where
    half : HalfPosed (length (nodes_in t)) (half_at t left_terms)
    half = record { left_node = left_node t a; right_node_lem = right_node_lem t a; once = a.right_sides.once }

-- none of a table's conditions holds exactly if it is accepted
pub none_held : (t : List ℕ) → first_held (conditions t) ≡ 0 ↔ Accepted t
unfolding refusal
none_held t = accepted t

-- and then the problem has what laws need
pub held_posed : (t : List ℕ) → first_held (conditions t) ≡ 0 → Posed (problem_of t)
held_posed t e = posed t ((none_held t).0 e)

-- they are conditions of refusals
pub table_refusals : (t : List ℕ) → Refusals (conditions t)
unfolding conditions
table_refusals t = record { numbered = conditions_numbered t; not_full = refl }

-- every call with a table has an answer that stands for what it comes to
pub table_told : (t : List ℕ) (es : List (List ℕ)) (lent : ℕ) → (r : Result Listing Refusal) × (told r ≡ listed (conditions t) es lent)
unfolding refusal
table_told t es lent = told_there (conditions t) es lent (table_refusals t) (refusal_numbered t)

-- "With V variables present an entry is n + m + V words": of the table's one half
pub table_words : (t : List ℕ) → entry_words (problem_of t) ≡ length (left_terms_of t) + length (right_terms_of t) + variable_count t
unfolding entry_words variable_count
table_words t = omega (arith, one_digits (half_at t left_terms))

-- at most 80: "8 terms a side", and 64 variables
pub entry_most : (t : List ℕ) → refusal t ≡ 0 → entry_words (problem_of t) ≤ 80
entry_most t r =
    let a = (accepted t).0 r in
    let l = a.laid_out.within_limits left_terms (omega arith) in
    let m = a.laid_out.within_limits right_terms (omega arith) in
    omega (arith, table_words t, l, m, variables_most t r)
