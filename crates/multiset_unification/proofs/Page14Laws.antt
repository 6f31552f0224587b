-- What a caller has of a finished listing, from demand 3 and what laws need of the problem alone: nothing else of the call is used here.
-- Equal sides would be an instance of an entry, and there is none; an entry has an instance, which makes the sides equal; and the entries
-- are those of the complete listing. Assumes nothing.
use Prim.Native.Nat.{ℕ, zero, suc, ◌*◌, ◌<◌}
use mathlib.Core.List.Memᴰ
use mathlib.Core.List.{List, Memᴰ}
use mathlib.Core.Path.{◌≡◌, refl, ap, ◌∙◌}
use native.Mathlib.Omega.{arith}
use lib.ListN.{length, take, drop}
use Rattle.terms.specs.Substitution.{Substitution}
use Rattle.unification.specs.Node.{tabulate}
use Rattle.unification.specs.Unifier.{MostGeneral}
use Rattle.unification.specs.Words.{Reads}
use Rattle.unification.specs.Computed.Unifying.{unifier}
use Rattle.multiset_unification.specs.Problem.{Problem}
use Rattle.multiset_unification.specs.Entry.{Choice, pairs_of, digits_of, bindings_of}
use Rattle.multiset_unification.specs.Assignment.{Assignment, EqualSides}
use Rattle.multiset_unification.specs.Answer.{entry_words, entries_in}
use Rattle.multiset_unification.specs.Page14.{Page14}
use Rattle.multiset_unification.specs.Computed.Listing.{admissible_listing}
use Rattle.multiset_unification.specs.Code.Posed.{Posed}
use Rattle.multiset_unification.proofs.EntryLaws.{entry_digits, admissible_listing_lem, entry_long, entry_readable, entry_reading}
use Rattle.multiset_unification.proofs.CompleteLaws.{complete_entry}
use Rattle.multiset_unification.proofs.Page14.{page14_one}
use Rattle.multiset_unification.proofs.InstanceLaws.{entry_instance}

-- "So a finished listing of 0 entries means that no assignment makes the sides equal."
pub none_equal : (p : Problem) (words : List ℕ) → Page14 p 0 words → (A : Assignment) → EqualSides p A → ⊥
unfolding entries_in tabulate
none_equal p words f A s = Memᴰ.not-nil ((f.exactly A).0 s).1

-- entries that lie in words are of admissible choices
lies_listed : (p : Problem) → Posed p → (k : ℕ) (words : List ℕ) → Page14 p k words → (e : List ℕ) → Memᴰ e (entries_in p k words) →
    Memᴰ e (admissible_listing p)
lies_listed p ok k words f e m = complete_entry p e (rw (page14_one p ok k words f) at m)

-- where there are more than 0, there is one
lies_some : (p : Problem) (k : ℕ) → 0 < k → (words : List ℕ) → (e : List ℕ) × Memᴰ e (entries_in p k words)
unfolding entries_in tabulate
lies_some p zero h words = absurd (omega arith)
lies_some p (suc k) h words =
    (_, Memᴰ.append_right (tabulate k (λ i. take (entry_words p) (drop (entry_words p * i) words))) (Memᴰ.head refl))

-- and a finished listing of more than 0 entries means that some assignment does
pub some_equal : (p : Problem) → Posed p → (k : ℕ) → 0 < k → (words : List ℕ) → Page14 p k words → (A : Assignment) × EqualSides p A
some_equal p ok k h words f =
    let s = lies_some p k h words in
    let n = entry_instance p ok s.0 (lies_listed p ok k words f s.0 s.1) in
    (n.0, (f.exactly n.0).1 (s.0, s.1, n.1))

module _ (p : Problem) (ok : Posed p) (k : ℕ) (words : List ℕ) (f : Page14 p k words) (e : List ℕ) (m : Memᴰ e (entries_in p k words)) where
  -- "With V variables present an entry is n + m + V words": so it lies there as a whole
  pub lies_long : length e ≡ entry_words p
  lies_long = entry_long p e ok (lies_listed p ok k words f e m)

  -- the digits of an entry are a choice
  pub lies_choice : Choice p (digits_of p e)
  lies_choice =
      let s = ((admissible_listing_lem p ok).entries e).0 (lies_listed p ok k words f e m) in
      let d : digits_of p e ≡ s.0 = ap (digits_of p) s.2 ∙ entry_digits p s.0 s.1.0 in
      rw d s.1.0

  -- "An entry's unifier is read from its binding words": they can be read
  pub lies_readable : (σ : Substitution) × Reads p.nodes (bindings_of p e) σ
  lies_readable =
      (unifier p.nodes (pairs_of p (digits_of p e)), entry_readable p e ok (lies_listed p ok k words f e m))

  -- and what is read is a most general unifier of its pairs
  pub lies_reading : (σ : Substitution) → Reads p.nodes (bindings_of p e) σ → MostGeneral p.nodes (pairs_of p (digits_of p e)) σ
  lies_reading = entry_reading p e ok (lies_listed p ok k words f e m)
