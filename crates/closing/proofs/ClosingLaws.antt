-- What each answer of `list` says of a table's two sides, however many words were lent. A finished listing says it by page 14: no entry, no
-- assignment; an entry, some assignment.
-- A full one leaves entries out, so there is one; and a refusal is not that of an accepted table. Assumes nothing.
use Prim.Native.Nat.{ℕ}
use mathlib.Core.Bool.{Bool, true, false, false≢true}
use mathlib.Core.List.{List}
use mathlib.Core.Path.{◌≡◌, refl}
use native.Mathlib.Omega.{arith}
use borrow.Author.Tests.{eqb-true, eqb-false}
use lib.Dec.{eqb}
use Rattle.table.specs.declared.Refusal.{Refusal}
use Rattle.table.specs.Answer.{number_of}
use Rattle.table.specs.Refusal.{conditions, refusal}
use Rattle.table.proofs.AnswerLaws.{number_above, number_not}
use Rattle.table.proofs.AcceptedLaws.{accepted}
use Rattle.multiset_unification.specs.Problem.{problem_of}
use Rattle.multiset_unification.specs.Assignment.{Assignment, EqualSides}
use Rattle.multiset_unification.specs.Answer.{listed}
use Rattle.multiset_unification.specs.Page14.{Page14}
use Rattle.multiset_unification.specs.Computed.Listing.{complete_listing}
use Rattle.multiset_unification.proofs.AnswerLaws.{refused_exactly}
use Rattle.multiset_unification.proofs.InstanceLaws.{full_somewhere}
use Rattle.multiset_unification.proofs.Page14Laws.{none_equal, some_equal}
use Rattle.multiset_unification.proofs.TableLaws.{posed, held_posed, table_refusals}

-- All that `closes` ensures, where it answers b.
abbrev pub Promised : List ℕ → Bool → Type 0
Promised t b =
    (b ≡ true → (A : Assignment) → EqualSides (problem_of t) A → ⊥) × (b ≡ false → refusal t ≡ 0 → (A : Assignment) × EqualSides (problem_of t) A)

-- a finished listing closes the branch exactly if it has no entry
pub finished_promised : (t words : List ℕ) (k : ℕ) → Page14 (problem_of t) k words → Promised t (eqb k 0)
finished_promised t words k f = (
  (λ z. none_equal (problem_of t) words (rw (eqb-true k 0 z) at f)),
  (λ z r. let d : k ≡ 0 → ⊥ = eqb-false k 0 z in some_equal (problem_of t) (posed t ((accepted t).0 r)) k (omega (arith, d)) words f),
)

module _ (t : List ℕ) (lent : ℕ) where
  -- a full listing does not close it
  pub full_promised : (listed (conditions t) (complete_listing (problem_of t)) lent).answer ≡ 10 → Promised t false
  full_promised e = (
    (λ z. absurd (false≢true z)),
    (λ z r. full_somewhere (problem_of t) (conditions t) (table_refusals t) (held_posed t) lent e),
  )

  -- where the table is refused nothing is promised
  pub refused_promised : (s : Refusal) → (listed (conditions t) (complete_listing (problem_of t)) lent).answer ≡ number_of s → Promised t false
  unfolding refusal
  refused_promised s e =
      let h = number_above s in
      let q = (refused_exactly (conditions t) (complete_listing (problem_of t)) lent (table_refusals t) (number_of s) h (number_not 10 refl s)).0 e in
      ((λ z. absurd (false≢true z)), (λ z r. absurd (omega (arith, q, r, h))))
