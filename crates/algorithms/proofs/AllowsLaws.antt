-- The instances of an entry are the assignments that Algorithm 1's unifier of it leaves room for.
-- A rest is what the variable that stands for it in the unifier stands for. Assumes nothing.
use Prim.Native.Nat.{ℕ, ◌<◌}
use mathlib.Core.Bool.{Bool, true}
use mathlib.Core.List.Memᴰ
use mathlib.Core.List.{List, [], ◌++◌, map, flat_map, flatten, append-nil, map-map, Memᴰ}
use mathlib.Core.Logic.{◌↔◌, ◌⊎◌, inl, inr}
use mathlib.Core.Path.{◌≡◌, refl, sym, ap, ◌∙◌}
use borrow.Author.Tests.{eqb-true}
use lib.ListN.{length}
use Rattle.table.specs.Layout.{word}
use Rattle.multiset_unification.specs.Code.Posed.{Posed}
use Rattle.terms.specs.Term.{Term}
use Rattle.terms.specs.Substitution.{Substitution, sub}
use Rattle.terms.specs.Multiset.{occurrences, Same}
use Rattle.unification.specs.Node.{tabulate}
use Rattle.unification.specs.Unifier.{value}
use Rattle.unification.specs.Words.{Reads}
use Rattle.unification.proofs.ListLaws.{length_none, placed, member_place}
use Rattle.unification.proofs.NodeLaws.{value_agree}
use Rattle.unification.proofs.FlatLaws.{flat_flat}
use Rattle.multiset_unification.specs.Entry.{HalfChoice, half_digits, digits_of, bindings_of}
use Rattle.multiset_unification.specs.Assignment.{Assignment}
use Rattle.multiset_unification.specs.Instance.{Filled, HalfFilled, Instance}
use Rattle.multiset_unification.specs.Computed.Listing.{admissible_listing}
use Rattle.multiset_unification.proofs.EntryLaws.{listing_digits, entry_readable, entry_one_reading}
use Rattle.multiset_unification.proofs.FilledLaws.{filled, filled_same}
use Rattle.multiset_unification.proofs.CountLaws.{places_count, total_same, words_count}
use Rattle.multiset_unification.proofs.OneHalfLaws.{one_posed, one_share, one_choice, one_pairs}
use Rattle.multiset_unification.proofs.LabelLaws.{held_by, held_left, held_right}
use Rattle.algorithms.specs.Mmset.{MultisetVariable, given, MmsetSubstitution, compose}
use Rattle.algorithms.specs.Sides.{Sides, problem, gone_over_as, choice_result, entry_result}
use Rattle.algorithms.specs.Unifier.{unifier_of, rests_of, Allows}
use Rattle.algorithms.proofs.TagLaws.{pairs_stand}
use Rattle.algorithms.proofs.MappedLaws.{rests_in, Rests, none, kept, new, unifier_in, mapped, Maps, left_maps, right_maps, label_in}

-- what stands for the rest of a label comes to that rest
rest_stands : {M : ℕ} {b : Bool} {vs : List MultisetVariable} (rest : List Term) (ρ : ℕ → List Term) → (b ≡ true → rest ≡ []) → ρ M ≡ rest →
    Rests M b vs → flat_map (λ N. ρ (label_in N)) vs ≡ rest
unfolding flat_map label_in
rest_stands rest ρ z e none = sym (z refl)
rest_stands rest ρ z e kept = append-nil _ ∙ e
rest_stands rest ρ z e new = append-nil _ ∙ e

-- what the variables of labels stand for, label by label
pub rests_flat : (σ : MmsetSubstitution) (ρ : MultisetVariable → List Term) (Ms : List ℕ) →
    flat_map ρ (rests_of σ Ms) ≡ flat_map (λ M. flat_map ρ (σ.on_variables (given M)).variables) Ms
unfolding rests_of
rests_flat σ ρ Ms = flat_flat ρ (λ M. (σ.on_variables (given M)).variables) Ms

-- lists for each label, together, are those at each place together
places_same : (ks : List ℕ) (g rest : ℕ → List Term) → ((p : ℕ) → p < length ks → g (word ks p) ≡ rest p) →
    Same (flat_map g ks) (flatten (tabulate (length ks) rest))
places_same ks g rest h u =
    words_count u g ks ∙ total_same (length ks) (λ p. occurrences u (g (word ks p))) (λ p. occurrences u (rest p))
    (λ p l. ap (occurrences u) (h p l)) ∙ sym (places_count u (length ks) rest)

module _ (t : Sides) (e : List ℕ) (ok : Posed (problem t)) (m : Memᴰ e (admissible_listing (problem t))) (A : Assignment) where
  choice : HalfChoice t.half (digits_of (problem t) e)
  choice =
      (one_choice t.half t.nodes (digits_of (problem t) e)).0
      (((listing_digits (problem t) ok).1 (digits_of (problem t) e)).0 (Memᴰ.map (digits_of (problem t)) m)).0

  -- the half has all digits
  digits_long : length (digits_of (problem t) e) ≡ half_digits t.half
  digits_long = choice.long

  -- the unifier is that of the entry's pairs, and so can be read from its words
  unifier_read : Reads t.nodes (bindings_of (problem t) e) (unifier_in t e)
  unifier_read =
      rw (pairs_stand t (digits_of (problem t) e) choice, ← one_pairs t.half t.nodes (digits_of (problem t) e) choice)
      (entry_readable (problem t) e ok m)

  on_terms_lem : (x : ℕ) → (unifier_of t (entry_result t e)).on_terms x ≡ unifier_in t e x
  unfolding unifier_of compose sub entry_result choice_result gone_over_as
  on_terms_lem x = refl

  -- The values under the unifier and then another substitution.
  abbrev value_after : Substitution → ℕ → Term
  value_after ρ a = sub ρ (value t.nodes (unifier_in t e) a)

  -- the terms that a label is mapped to have these values
  after_terms : (exact : Bool) (ks : List ℕ) (part : ℕ → List ℕ) → Maps t e exact ks part → (ρ : Substitution) (p : ℕ) → p < length ks →
      map (sub ρ) (mapped t e (word ks p)).terms ≡ map (value_after ρ) (part p)
  after_terms exact ks part s ρ p h = ap (map (sub ρ)) (s.terms p h) ∙ map-map (sub ρ) (value t.nodes (unifier_in t e)) (part p)

  -- The labels hold what the digits put there, under these values, and rests.
  abbrev FilledAfter : Substitution → Type 0
  FilledAfter ρ =
      Filled t.half.left t.half.left_labels t.half.right t.half.right_labels (digits_of (problem t) e) (value_after ρ) A.labels

  -- an instance is filled under the unifier of the pairs as it is under its own
  instance_filled : (n : Instance (problem t) A e) → FilledAfter n.after
  instance_filled n =
      let g = value_agree t.nodes ok.well_formed n.unifier (unifier_in t e)
      (entry_one_reading (problem t) e ok m n.unifier (unifier_in t e) n.read unifier_read) in
      filled_same t.half.left t.half.left_labels t.half.right t.half.right_labels (digits_of (problem t) e)
      (λ a. sub n.after (value t.nodes n.unifier a)) (value_after n.after) A.labels
      (λ i h. ap (sub n.after) (g (word t.half.left i) ((one_posed t.half t.nodes ok).left_node i h)))
      (λ j h. ap (sub n.after) (g (word t.half.right j) ((one_posed t.half t.nodes ok).right_node_lem j h)))
      ((one_share t.half (λ h ds. HalfFilled h ds (λ a. sub n.after (value t.nodes n.unifier a)) A.labels) (digits_of (problem t) e) digits_long).0
      n.labels)

  -- what has room is an instance: its rests are what the variables stand for
  allows_instance : Allows t (unifier_of t (entry_result t e)) A → Instance (problem t) A e
  allows_instance a =
      record {
        unifier = unifier_in t e;
        read = unifier_read;
        after = a.after;
        variables = λ x p. a.variables x p ∙ ap (sub a.after) (on_terms_lem x);
        labels =
            (one_share t.half (λ h ds. HalfFilled h ds (value_after a.after) A.labels) (digits_of (problem t) e) digits_long).1
            (filled t.half.left t.half.left_labels t.half.right t.half.right_labels (digits_of (problem t) e) (value_after a.after) A.labels
            (λ p. rest (word t.half.left_labels p)) (λ q. rest (word t.half.right_labels q))
            (λ p h. rw (after_terms _ _ _ (left_maps t e ok) a.after p h) at
            (a.labels (word t.half.left_labels p) (Memᴰ.append_left t.half.right_labels (placed t.half.left_labels p h))))
            (λ q h. rw (after_terms _ _ _ (right_maps t e ok) a.after q h) at
            (a.labels (word t.half.right_labels q) (Memᴰ.append_right t.half.left_labels (placed t.half.right_labels q h))))
            balance);
      }
    where
      rest : ℕ → List Term
      rest M = flat_map a.rests (rests_in t e M)

      balance :
          Same (flatten (tabulate (length t.half.left_labels) (λ p. rest (word t.half.left_labels p))))
          (flatten (tabulate (length t.half.right_labels) (λ q. rest (word t.half.right_labels q))))
      balance u =
          sym (places_same t.half.left_labels rest (λ p. rest (word t.half.left_labels p)) (λ p h. refl) u)
          ∙ sym (ap (occurrences u) (rests_flat (unifier_of t (entry_result t e)) a.rests t.half.left_labels))
          ∙ a.holds u
          ∙ ap (occurrences u) (rests_flat (unifier_of t (entry_result t e)) a.rests t.half.right_labels)
          ∙ places_same t.half.right_labels rest (λ q. rest (word t.half.right_labels q)) (λ q h. refl) u

  -- an instance has room: each rest is what the variables of its label stand for
  instance_allows : Instance (problem t) A e → Allows t (unifier_of t (entry_result t e)) A
  instance_allows n =
      record {
        after = n.after;
        rests = rests;
        holds = λ u.
            ap (occurrences u) (rests_flat (unifier_of t (entry_result t e)) rests t.half.left_labels)
            ∙ places_same t.half.left_labels (λ M. flat_map rests (rests_in t e M)) f.left_rest left_rest_lem u
            ∙ f.balance u
            ∙ sym (places_same t.half.right_labels (λ M. flat_map rests (rests_in t e M)) f.right_rest right_rest_lem u)
            ∙ sym (ap (occurrences u) (rests_flat (unifier_of t (entry_result t e)) rests t.half.right_labels));
        variables =
            λ x p. n.variables x p
            ∙ ap (sub n.after) (entry_one_reading (problem t) e ok m n.unifier (unifier_in t e) n.read unifier_read x p ∙ sym (on_terms_lem x));
        labels = λ M i. held M (Memᴰ.append_cases t.half.left_labels i);
      }
    where
      f : FilledAfter n.after
      f = instance_filled n

      rest_in : ℕ → List Term
      rest_in = held_by t.half.left_labels t.half.right_labels f.left_rest f.right_rest

      rests : MultisetVariable → List Term
      rests N = rest_in (label_in N)

      left_rest_lem : (p : ℕ) → p < length t.half.left_labels → flat_map rests (rests_in t e (word t.half.left_labels p)) ≡ f.left_rest p
      left_rest_lem p h =
          rest_stands (f.left_rest p) rest_in
          (λ z. f.no_right (length_none t.half.right_labels (eqb-true (length t.half.right_labels) 0 z)) p h)
          (held_left t.half.left_labels t.half.right_labels f.left_rest f.right_rest (one_posed t.half t.nodes ok).once p h)
          ((left_maps t e ok).rests p h)

      right_rest_lem : (q : ℕ) → q < length t.half.right_labels → flat_map rests (rests_in t e (word t.half.right_labels q)) ≡ f.right_rest q
      right_rest_lem q h =
          rest_stands (f.right_rest q) rest_in (λ z. f.no_left (length_none t.half.left_labels (eqb-true (length t.half.left_labels) 0 z)) q h)
          (held_right t.half.left_labels t.half.right_labels f.left_rest f.right_rest (one_posed t.half t.nodes ok).once q h)
          ((right_maps t e ok).rests q h)

      Held : ℕ → Type 0
      Held M = Same (A.labels M) (map (sub n.after) (mapped t e M).terms ++ flat_map rests (rests_in t e M))

      in_left_lem : (p : ℕ) → p < length t.half.left_labels → Held (word t.half.left_labels p)
      in_left_lem p h = rw (left_rest_lem p h, after_terms _ _ _ (left_maps t e ok) n.after p h) (f.in_left_lem p h)

      in_right_lem : (q : ℕ) → q < length t.half.right_labels → Held (word t.half.right_labels q)
      in_right_lem q h = rw (right_rest_lem q h, after_terms _ _ _ (right_maps t e ok) n.after q h) (f.in_right_lem q h)

      held : (M : ℕ) → Memᴰ M t.half.left_labels ⊎ Memᴰ M t.half.right_labels → Held M
      held M (inl i) = let s = member_place t.half.left_labels M i in rw s.2 (in_left_lem s.0 s.1)
      held M (inr i) = let s = member_place t.half.right_labels M i in rw s.2 (in_right_lem s.0 s.1)

-- the instances of an entry are the assignments that Algorithm 1's unifier leaves room for: no rest where it gives none, otherwise any that balance
pub instance_allowed : (t : Sides) (e : List ℕ) → Posed (problem t) → Memᴰ e (admissible_listing (problem t)) → (A : Assignment) →
    Instance (problem t) A e ↔ Allows t (unifier_of t (entry_result t e)) A
instance_allowed t e ok m A = (instance_allows t e ok m A, allows_instance t e ok m A)
