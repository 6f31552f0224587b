-- Page 14: under an assignment the two sides are equal exactly if it is an instance of an entry of the complete listing.
-- An instance's pairs are equal, so its choice balances (`filled_sides`). Equal sides are accounted for by some choice (`sides_filled`), whose
-- pairs the assignment unifies; so it is admissible, and the assignment comes after its unifier. Assumes nothing.
use Prim.Native.Nat.{ℕ, ◌<◌}
use mathlib.Core.Bool.{Bool}
use mathlib.Core.List.Memᴰ
use mathlib.Core.List.{List, [], Memᴰ}
use mathlib.Core.Logic.{◌↔◌}
use mathlib.Core.Path.{◌≡◌, refl, sym, ap, ◌∙◌}
use lib.ListN.{length}
use Rattle.table.specs.Refusal.{first_held}
use Rattle.terms.specs.Substitution.{Substitution, sub}
use Rattle.unification.specs.Node.{Present}
use Rattle.unification.specs.Unifier.{value, Unifies}
use Rattle.unification.specs.Outcome.{unified}
use Rattle.unification.specs.Computed.Unifying.{outcome, unifier}
use Rattle.unification.proofs.ListLaws.{length_none}
use Rattle.unification.proofs.NodeLaws.{value_after_lem}
use Rattle.unification.proofs.OutcomeLaws.{unifier_most_general, words_readable, reading_most_general}
use Rattle.multiset_unification.specs.Problem.{Problem}
use Rattle.multiset_unification.specs.Entry.{Choice, pairs_of, Admissible, entry_of}
use Rattle.multiset_unification.specs.Assignment.{Assignment, EqualSides}
use Rattle.multiset_unification.specs.Instance.{Instance}
use Rattle.multiset_unification.specs.Answer.{listed, lent_after, entries_in}
use Rattle.multiset_unification.specs.Page14.{Page14}
use Rattle.multiset_unification.specs.Computed.Listing.{admissible_listing, complete_listing}
use Rattle.multiset_unification.specs.Code.Posed.{Posed}
use Rattle.multiset_unification.proofs.HalfLaws.{filled_values}
use Rattle.multiset_unification.proofs.HalvesLaws.{Fills}
use Rattle.multiset_unification.proofs.ProblemLaws.{share_posed, pairs_inside, filled_sides, sides_filled}
use Rattle.multiset_unification.proofs.EntryLaws.{choice_decided, entry_digits, entry_bindings, admissible_listing_lem}
use Rattle.multiset_unification.proofs.CompleteLaws.{complete_admissible, listing_complete, listing_one}
use Rattle.multiset_unification.proofs.AnswerLaws.{Refusals, finished_exactly, finished_all, left_finished}
use Rattle.multiset_unification.proofs.LentLaws.{entries_lie}

module _ (p : Problem) (ok : Posed p) (A : Assignment) where
  -- what comes after a unifier gives nodes the values of the assignment
  after_values : (σ ρ : Substitution) → ((x : ℕ) → Present p.nodes x → A.variables x ≡ sub ρ (σ x)) → (a : ℕ) → a < length p.nodes →
      value p.nodes A.variables a ≡ sub ρ (value p.nodes σ a)
  after_values σ ρ h = value_after_lem p.nodes ok.well_formed σ A.variables ρ h

  -- an instance of an entry makes the sides equal
  instance_equal : (ds : List ℕ) → Admissible p ds → Instance p A (entry_of p ds) → EqualSides p A
  instance_equal ds a n =
      let σ = n.unifier in
      let ρ = n.after in
      let g = reading_most_general p.nodes ok.well_formed (pairs_of p ds) (pairs_inside p ok ds a.0) ((choice_decided p ok ds a.0).1 a.1) σ
      (rw (entry_bindings p ds a.0) at n.read) in
      filled_sides p ok A (λ c. sub ρ (value p.nodes σ c)) (after_values σ ρ n.variables) ds a.0
      (λ b c m. ap (sub ρ) (g.unifies b c m)) (rw (entry_digits p ds a.0) at n.labels)

  -- where the sides are equal the assignment is an instance of an entry
  equal_instance : EqualSides p A → (ds : List ℕ) × Admissible p ds × Instance p A (entry_of p ds)
  equal_instance e = go (sides_filled p ok A e)
    where
      go : Fills p (value p.nodes A.variables) A.labels → (ds : List ℕ) × Admissible p ds × Instance p A (entry_of p ds)
      go f = (ds, a, follow ((unifier_most_general p.nodes ok.well_formed (pairs_of p ds) (pairs_inside p ok ds c) o).factors A.variables s))
        where
          ds : List ℕ
          ds = f.digits

          c : Choice p ds
          c = f.choice

          s : Unifies p.nodes (pairs_of p ds) A.variables
          s = f.equal

          a : Admissible p ds
          a = (c, (A.variables, s))

          o : outcome p.nodes (pairs_of p ds) ≡ unified
          o = (choice_decided p ok ds c).1 (A.variables, s)

          σ : Substitution
          σ = unifier p.nodes (pairs_of p ds)

          follow : (ρ : Substitution) × ((x : ℕ) → Present p.nodes x → A.variables x ≡ sub ρ (σ x)) → Instance p A (entry_of p ds)
          follow (ρ, h) =
              record {
                unifier = σ;
                read = rw (entry_bindings p ds c) (words_readable p.nodes ok.well_formed (pairs_of p ds) (pairs_inside p ok ds c) o);
                after = ρ;
                variables = h;
                labels =
                    rw (entry_digits p ds c)
                    (λ k es m. filled_values k (share_posed p ok ds k es m) (value p.nodes A.variables) (λ b. sub ρ (value p.nodes σ b))
                    (after_values σ ρ h) es A.labels (f.filled k es m));
              }

-- the same of document 01's listing of all admissible choices
pub page14_admissible : (p : Problem) → Posed p → (A : Assignment) →
    EqualSides p A ↔ ((e : List ℕ) × Memᴰ e (admissible_listing p) × Instance p A e)
page14_admissible p ok A =
    let c = admissible_listing_lem p ok in (
      (λ s. let i = equal_instance p ok A s in (entry_of p i.0, (c.entries (entry_of p i.0)).1 (i.0, i.1, refl), i.2)),
      (λ i.
          let m = (c.entries i.0).0 i.1 in
          instance_equal p ok A m.0 m.1 (rw m.2 at i.2)),
    )

-- "any assignment [..] put into both sides, makes them equal exactly when it is an instance of one of these entries"
pub page14 : (p : Problem) → Posed p → (A : Assignment) → EqualSides p A ↔ ((e : List ℕ) × Memᴰ e (complete_listing p) × Instance p A e)
page14 p ok A = rw (complete_admissible p) (page14_admissible p ok A)

-- an empty complete listing means that no assignment makes the sides equal
pub page14_empty : (p : Problem) → Posed p → complete_listing p ≡ [] → (A : Assignment) → EqualSides p A → ⊥
page14_empty p ok e A s = Memᴰ.not-nil (rw e at ((page14 p ok A).0 s).1)

-- Any listing of a problem, by the conditions of its refusals: where none of them holds, the problem has what laws need.
module _ (p : Problem) (cs : List (ℕ × Bool)) (g : Refusals cs) (ok : first_held cs ≡ 0 → Posed p) where
  -- demand 3: "if the listing is answered as finished, the entries that the call wrote are the complete listing, and any assignment [..]"
  pub page14_finished : (lent : List ℕ) → (listed cs (complete_listing p) (length lent)).answer ≡ 0 →
      Page14 p (listed cs (complete_listing p) (length lent)).entries (lent_after cs (complete_listing p) lent)
  page14_finished lent e =
      let es = complete_listing p in
      let q = ok ((finished_exactly cs es (length lent) g).0 e).0 in
      let l : entries_in p (listed cs es (length lent)).entries (lent_after cs es lent) ≡ es = entries_lie p q cs lent ∙
      left_finished cs es (length lent) g e in
      record { complete = rw l (listing_complete p q); exactly = λ A. rw l (page14 p q A) }

  -- "So a finished listing of 0 entries means that no assignment makes the sides equal."
  pub finished_empty : (lent : ℕ) → (listed cs (complete_listing p) lent).answer ≡ 0 → (listed cs (complete_listing p) lent).entries ≡ 0 →
      (A : Assignment) → EqualSides p A → ⊥
  finished_empty lent e z =
      page14_empty p (ok ((finished_exactly cs (complete_listing p) lent g).0 e).0)
      (length_none (complete_listing p) (sym (finished_all cs (complete_listing p) lent g e) ∙ z))

-- what demand 3 says of entries leaves no choice of them
pub page14_one : (p : Problem) → Posed p → (k : ℕ) (words : List ℕ) → Page14 p k words → entries_in p k words ≡ complete_listing p
page14_one p ok k words m = listing_one p ok (entries_in p k words) m.complete
