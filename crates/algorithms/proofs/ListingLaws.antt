-- Document 01's listing of all admissible choices is Algorithm 1's set of results, in document 01's order.
-- Both keep what unify_lists unifies: Algorithm 1 of what it goes over, the listing of the choices, which are the same in another order.
-- Assumes nothing.
use Prim.Native.Nat.{ℕ}
use mathlib.Core.List.Memᴰ
use mathlib.Core.List.{List, [], ◌∷◌, ◌++◌, map, Memᴰ, Permᴰ}
use mathlib.Core.Logic.{◌↔◌}
use mathlib.Core.Path.{◌≡◌, refl, sym, ap, ◌∙◌}
use lib.ListN.{length}
use lib.Seq.{take_at}
use Rattle.multiset_unification.specs.Code.Posed.{Posed}
use Rattle.table.specs.Refusal.{conditions}
use Rattle.terms.specs.Substitution.{sub}
use Rattle.unification.specs.Unifier.{Unifiable, MostGeneral}
use Rattle.unification.specs.Outcome.{Outcome, unified, clash, occurs}
use Rattle.unification.specs.Computed.Unifying.{outcome, unifier}
use Rattle.unification.proofs.OutcomeLaws.{outcome_unified, unifier_most_general}
use Rattle.unification.proofs.FlatLaws.{flat_same, flat_map_lem, map_flat}
use Rattle.multiset_unification.specs.Choice.{IsChoice}
use Rattle.multiset_unification.specs.Entry.{HalfChoice, half_pairs, Admissible}
use Rattle.multiset_unification.specs.Answer.{listed, lent_after, entries_in}
use Rattle.multiset_unification.specs.Computed.Listing.{kept, half_choices, admissible_listing, complete_listing}
use Rattle.multiset_unification.proofs.EntryLaws.{kept_from, in_kept}
use Rattle.multiset_unification.proofs.HalfLaws.{half_choices_lem, half_inside}
use Rattle.multiset_unification.proofs.CompleteLaws.{complete_admissible}
use Rattle.multiset_unification.proofs.TableLaws.{held_posed, table_refusals}
use Rattle.multiset_unification.proofs.OneHalfLaws.{one_posed, one_digits, one_listing, one_admissible}
use Rattle.multiset_unification.proofs.AnswerLaws.{finished_exactly}
use Rattle.multiset_unification.proofs.Page14.{page14_finished, page14_one}
use Rattle.algorithms.specs.Mmset.{compose}
use Rattle.algorithms.specs.Algorithms.{Result}
use Rattle.algorithms.specs.Sides.{sides_of, Sides, problem, left_tags, right_tags, node_pairs, algorithm1, gone_over, gone_over_as, choice_result, entry_result}
use Rattle.algorithms.specs.Unifier.{unifier_of}
use Rattle.algorithms.specs.Code.Placing.{Distinct}
use Rattle.algorithms.proofs.OrderLaws.{permuted_member, permuted_flat}
use Rattle.algorithms.proofs.TagLaws.{left_tags_long, right_tags_long, left_tags_distinct, right_tags_distinct, pairs_stand}
use Rattle.algorithms.proofs.KeptLaws.{keep_results, algorithm_keeps}
use Rattle.algorithms.proofs.ResultLaws.{result_tells}
use Rattle.algorithms.proofs.GoneOverLaws.{choice_over, over_distinct, goes_over}
use Rattle.multiset_unification.specs.Problem.{problem_of}

module _ (t : Sides) where
  -- What unifying the nodes of pairs of tags comes to.
  abbrev unifying : List (ℕ × ℕ) → Outcome
  unifying ps = outcome t.nodes (node_pairs t ps)

  by_tags : (ds : List ℕ) → HalfChoice t.half ds →
      IsChoice (length (left_tags t)) (length (right_tags t)) (length t.half.left_labels) (length t.half.right_labels) ds
  by_tags ds c = rw (left_tags_long t, right_tags_long t) c

  -- what Algorithm 1 goes over are document 01's choices in another order, each one time, with its pairs and with what it puts in each label
  pub goes_over_choices : Permᴰ (gone_over t) (map (choice_result t) (half_choices t.half))
  unfolding gone_over choice_result half_choices
  goes_over_choices =
      rw
      (left_tags_long t, right_tags_long t) at (goes_over (left_tags t) t.half.left_labels (right_tags t) t.half.right_labels (left_tags_distinct t)
      (right_tags_distinct t))

  -- nothing is gone over twice
  pub gone_over_once : Distinct (gone_over t)
  unfolding gone_over
  gone_over_once =
      over_distinct (left_tags t) t.half.left_labels (right_tags t) t.half.right_labels (left_tags_distinct t) (right_tags_distinct t)

  -- and no two choices are gone over as one
  pub choices_told : (ds es : List ℕ) → HalfChoice t.half ds → HalfChoice t.half es → choice_result t ds ≡ choice_result t es → ds ≡ es
  unfolding choice_result
  choices_told ds es c d =
      result_tells (left_tags t) t.half.left_labels (right_tags t) t.half.right_labels (left_tags_distinct t) (right_tags_distinct t) ds es
      (by_tags ds c) (by_tags es d)

  -- Algorithm 1 keeps of what it goes over just what unify_lists unifies
  pub keeps_unified : algorithm1 t ≡ keep_results unifying (gone_over t)
  unfolding algorithm1 gone_over
  keeps_unified = algorithm_keeps unifying (left_tags t) t.half.left_labels (right_tags t) t.half.right_labels

  -- the pairs of a choice, as unify_lists has them
  choice_pairs : (ds : List ℕ) → HalfChoice t.half ds → node_pairs t (choice_result t ds).pairing ≡ half_pairs t.half ds
  unfolding choice_result gone_over_as
  choice_pairs = pairs_stand t

  choice_unifying : (ds : List ℕ) → HalfChoice t.half ds → unifying (choice_result t ds).pairing ≡ outcome t.nodes (half_pairs t.half ds)
  choice_unifying ds c = ap (outcome t.nodes) (choice_pairs ds c)

  choice_gone_over : (ds : List ℕ) → HalfChoice t.half ds → Memᴰ (choice_result t ds) (gone_over t)
  unfolding choice_result gone_over
  choice_gone_over ds c =
      choice_over (left_tags t) t.half.left_labels (right_tags t) t.half.right_labels (left_tags_distinct t) (right_tags_distinct t) ds
      (by_tags ds c)

  -- the outcome decides whether the pairs have a unifier
  pairs_decided : Posed (problem t) → (ds : List ℕ) → HalfChoice t.half ds →
      outcome t.nodes (half_pairs t.half ds) ≡ unified ↔ Unifiable t.nodes (half_pairs t.half ds)
  pairs_decided g ds c =
      outcome_unified t.nodes g.well_formed (half_pairs t.half ds) (half_inside t.half (one_posed t.half t.nodes g) ds c)

  -- a choice is admissible exactly if unify_terms keeps it
  pub admissible_kept : Posed (problem t) → (ds : List ℕ) → HalfChoice t.half ds →
      Admissible (problem t) ds ↔ Memᴰ (choice_result t ds) (algorithm1 t)
  admissible_kept g ds c = (there, back)
    where
      there : Admissible (problem t) ds → Memᴰ (choice_result t ds) (algorithm1 t)
      there a =
          rw keeps_unified
          (in_kept (λ r. unifying r.pairing) (λ r. r) (gone_over t) (choice_result t ds) (choice_gone_over ds c)
          (choice_unifying ds c ∙ (pairs_decided g ds c).1 ((one_admissible t.half t.nodes ds).0 a).1))

      back : Memᴰ (choice_result t ds) (algorithm1 t) → Admissible (problem t) ds
      back m =
          let s = kept_from (λ r. unifying r.pairing) (λ r. r) (gone_over t) (choice_result t ds) (rw keeps_unified at m) in
          let e : unifying (choice_result t ds).pairing ≡ unified = ap (λ (r : Result). unifying r.pairing) s.3 ∙ s.2 in
          (one_admissible t.half t.nodes ds).1 (c, (pairs_decided g ds c).0 (sym (choice_unifying ds c) ∙ e))

  -- what is kept is that of an admissible choice
  kept_admissible : Posed (problem t) → (r : Result) → Memᴰ r (algorithm1 t) →
      (ds : List ℕ) × Admissible (problem t) ds × (r ≡ choice_result t ds)
  kept_admissible g r m =
      let s = kept_from (λ q. unifying q.pairing) (λ q. q) (gone_over t) r (rw keeps_unified at m) in
      let c = Memᴰ.of_map (choice_result t) (half_choices t.half) (permuted_member goes_over_choices s.0 s.1) in
      let e : r ≡ choice_result t c.0 = s.3 ∙ sym c.2 in
      (c.0, (admissible_kept g c.0 ((half_choices_lem t.half c.0).0 c.1)).1 (rw e at m), e)

  -- σ_t is a most general unifier of the pairs
  pub kept_most_general : Posed (problem t) → (r : Result) → Memᴰ r (algorithm1 t) →
      MostGeneral t.nodes (node_pairs t r.pairing) (unifier_of t r).on_terms
  unfolding unifier_of compose sub
  kept_most_general g r m = go (kept_admissible g r m)
    where
      go : (ds : List ℕ) × Admissible (problem t) ds × (r ≡ choice_result t ds) →
          MostGeneral t.nodes (node_pairs t r.pairing) (unifier t.nodes (node_pairs t r.pairing))
      go (ds, a, e) =
          let b = (one_admissible t.half t.nodes ds).0 a in
          rw (ap (λ (q : Result). node_pairs t q.pairing) e ∙ choice_pairs ds b.0)
          (unifier_most_general t.nodes g.well_formed (half_pairs t.half ds) (half_inside t.half (one_posed t.half t.nodes g) ds b.0)
          ((pairs_decided g ds b.0).1 b.1))

  -- what is kept of a choice's entry is what is kept of the choice
  entry_kept : (ds ws : List ℕ) → HalfChoice t.half ds → (o : Outcome) → map (entry_result t) (kept o (ds ++ ws)) ≡ kept o (choice_result t ds)
  unfolding kept entry_result
  entry_kept ds ws c unified = ap (λ (es : List ℕ). choice_result t es ∷ []) (take_at ds ws _ (c.long ∙ sym (one_digits t.half)))
  entry_kept ds ws c clash = refl
  entry_kept ds ws c occurs = refl

  -- its entries, read as results, are what is kept of the choices
  listing_kept : map (entry_result t) (admissible_listing (problem t)) ≡ keep_results unifying (map (choice_result t) (half_choices t.half))
  listing_kept =
      ap (map (entry_result t)) (one_listing t.half t.nodes)
      ∙ map_flat (entry_result t) _ (half_choices t.half)
      ∙ flat_same _ _ (half_choices t.half) (λ ds m. let c = (half_choices_lem t.half ds).0 m in
      entry_kept ds _ c (outcome t.nodes (half_pairs t.half ds)) ∙ ap (λ (o : Outcome). kept o (choice_result t ds)) (sym (choice_unifying ds c)))
      ∙ sym (flat_map_lem (λ r. kept (unifying r.pairing) r) (choice_result t) (half_choices t.half))

  -- the listing is what Algorithm 1 gives, in document 01's order
  pub listing_results : Permᴰ (algorithm1 t) (map (entry_result t) (admissible_listing (problem t)))
  listing_results = rw (keeps_unified, listing_kept) (permuted_flat (λ r. kept (unifying r.pairing) r) goes_over_choices)

-- demand 2: the entries that a finished call leaves are what Algorithm 1 gives, in document 01's order
pub finished_results : (t lent : List ℕ) → (listed (conditions t) (complete_listing (problem_of t)) (length lent)).answer ≡ 0 →
    Permᴰ (algorithm1 (sides_of t))
    (map (entry_result (sides_of t)) (entries_in (problem_of t) (listed (conditions t) (complete_listing (problem_of t)) (length lent)).entries
    (lent_after (conditions t) (complete_listing (problem_of t)) lent)))
finished_results t lent e =
    let f = page14_finished (problem_of t) (conditions t) (table_refusals t) (held_posed t) lent e in
    let g = held_posed t ((finished_exactly (conditions t) (complete_listing (problem_of t)) (length lent) (table_refusals t)).0 e).0 in
    rw (page14_one (problem_of t) g _ _ f, complete_admissible (problem_of t)) (listing_results (sides_of t))
