-- What Algorithm 1 goes over are document 01's choices, each one time.
-- A result splits both sides into what is paired and what is left, and puts what is left in labels: so do the digits of a choice
-- (`Arranged`). A result tells all of that, so that none stands twice. Assumes nothing.
use Prim.Native.Nat.{ℕ, suc, ◌≤◌}
use mathlib.Core.List.Memᴰ
use mathlib.Core.List.{List, map, flat_map, zip, Memᴰ, Permᴰ}
use mathlib.Core.Logic.{◌↔◌}
use mathlib.Core.Path.{◌≡◌, refl, sym, ap, ◌∙◌}
use native.Mathlib.Omega.{arith}
use lib.ListN.{length}
use Rattle.unification.specs.Outcome.{Outcome, unified}
use Rattle.unification.proofs.ListLaws.{tabulate_same}
use Rattle.unification.proofs.RisingLaws.{rising_map, rising_flat}
use Rattle.unification.proofs.FlatLaws.{in_flat}
use Rattle.multiset_unification.specs.Choice.{IsChoice, with_digit, in_left, in_right, Before}
use Rattle.multiset_unification.specs.Computed.Choices.{choices}
use Rattle.multiset_unification.proofs.ChoiceLaws.{choices_are, choices_rise, before_one_way}
use Rattle.algorithms.specs.Algorithms.{choose, permutations, Contexts, unify_distribute, Result, composed, unify_terms, unify_c, unify}
use Rattle.algorithms.specs.Sides.{contexts_of, gone_over_as}
use Rattle.algorithms.specs.Code.Placing.{Distinct, SameMembers, Split, none, chosen, left, Apart, Placing, put, parts}
use Rattle.algorithms.proofs.DistinctLaws.{map_distinct}
use Rattle.algorithms.proofs.OrderLaws.{distinct_permuted, permuted_long}
use Rattle.algorithms.proofs.ChooseLaws.{choose_from, in_choose, choose_apart, chosen_in, chosen_distinct, left_distinct}
use Rattle.algorithms.proofs.PermutationLaws.{permutations_are, permutations_distinct}
use Rattle.algorithms.proofs.PlacingLaws.{lefts_split, lefts_placing, lefts_long, lefts_pairs, lefts_put, lefts_rest, split_lefts, rights_split, rights_placing, rights_put, split_rights}
use Rattle.algorithms.proofs.ArrangedLaws.{Arranged, choice_arranged, arranged_choice}
use Rattle.algorithms.proofs.PairingLaws.{zip_long, pairing_tells}
use Rattle.algorithms.proofs.ResultLaws.{result_tells}
use Rattle.algorithms.proofs.KeptLaws.{result, composed_flat, terms_all}
use Rattle.algorithms.proofs.SizeLaws.{Size, Loop, one_loop}
use Rattle.algorithms.proofs.DistributeLaws.{in_distribution, distribution_from, distribution_distinct}

-- A unify_lists that is never None.
abbrev all : List (ℕ × ℕ) → Outcome
all ps = unified

-- nothing is left where there is nowhere to put it
all_paired : {k : ℕ} {F T R qs : List ℕ} → k ≡ 0 → Split F T R → Placing k R qs → length T ≡ length F
all_paired e none p = refl
all_paired e (chosen s) p = ap suc (all_paired e s p)
all_paired e (left s) (put h p) = absurd (omega (arith, e, h))

split_long : {F T R : List ℕ} → Split F T R → length T ≤ length F
split_long none = omega arith
split_long (chosen s) = let r = split_long s in omega (arith, r)
split_long (left s) = let r = split_long s in omega (arith, r)

-- orders of one list have its length
order_long : (S P : List ℕ) → Distinct S → Distinct P → SameMembers S P → length S ≡ length P
order_long S P a b h = permuted_long (distinct_permuted S P a b h)

-- What unify_c goes over for terms T and P that are paired: an order of P, and a substitution of multiset variables.
abbrev Composed : List ℕ → List ℕ → List Contexts → Result → Type 0
Composed T P ΣM r = (S : List ℕ) × (σ : Contexts) × Memᴰ S (permutations P) × Memᴰ σ ΣM × (r ≡ result (zip T S) σ)

composed_from : (T P : List ℕ) (ΣM : List Contexts) (r : Result) → Memᴰ r (composed (unify_terms all T P) ΣM) → Composed T P ΣM r
composed_from T P ΣM r m =
    let s = (in_flat (λ ps. map (result ps) ΣM) (map (zip T) (permutations P)) r).0 (rw (composed_flat (unify_terms all T P) ΣM, terms_all T P) at m)
    in
    let x = Memᴰ.of_map (zip T) (permutations P) s.1 in
    let y = Memᴰ.of_map (result s.0) ΣM s.2 in
    (x.0, y.0, x.1, y.1, sym y.2 ∙ ap (λ (ps : List (ℕ × ℕ)). result ps y.0) (sym x.2))

in_composed : (T P : List ℕ) (ΣM : List Contexts) (S : List ℕ) (σ : Contexts) → Memᴰ S (permutations P) → Memᴰ σ ΣM →
    Memᴰ (result (zip T S) σ) (composed (unify_terms all T P) ΣM)
in_composed T P ΣM S σ m n =
    rw (composed_flat (unify_terms all T P) ΣM, terms_all T P)
    ((in_flat (λ ps. map (result ps) ΣM) (map (zip T) (permutations P)) (result (zip T S) σ)).1
    (zip T S, Memᴰ.map (zip T) m, Memᴰ.map (result (zip T S)) n))

module _ (ls ks rs qs : List ℕ) (dl : Distinct ls) (dr : Distinct rs) where
  -- What unify_c goes over, in its parts.
  record Found (c : ℕ) (T R P Q : List ℕ) (r : Result) : Type 0 where
    left_split : Split ls T R
    left_long : length T ≡ c
    right_split : Split rs P Q
    right_long : length P ≡ c
    order : List ℕ
    once : Distinct order
    same : SameMembers order P
    left_labels_lem : List ℕ
    left_placing : Placing (length ks) Q left_labels_lem
    right_labels_lem : List ℕ
    right_placing : Placing (length qs) R right_labels_lem
    is : r ≡ result (zip T order) (contexts_of ks qs (parts (length ks) Q left_labels_lem) (parts (length qs) R right_labels_lem))

  -- What unify_c goes over for two ways to choose.
  abbrev chosen_over : List ℕ × List ℕ → List ℕ × List ℕ → List Result
  chosen_over T P = composed (unify_terms all T.0 P.0) (unify_distribute T.1 ks P.1 qs)

  -- What it goes over for one way to choose left terms, c of them.
  abbrev left_over : ℕ → List ℕ × List ℕ → List Result
  left_over c T = flat_map (chosen_over T) (choose rs c)

  -- What it goes over for some two ways to choose.
  abbrev SomeOver : ℕ → Result → Type 0
  SomeOver c r = (T : List ℕ × List ℕ) × (P : List ℕ × List ℕ) × Memᴰ T (choose ls c) × Memᴰ P (choose rs c) × Memᴰ r (chosen_over T P)

  -- that is all
  over_some : (c : ℕ) (r : Result) → Memᴰ r (unify_c all c ls ks rs qs) ↔ SomeOver c r
  unfolding unify_c
  over_some c r = (there, λ s. (in_flat (left_over c) (choose ls c) r).1 (s.0, s.2, (in_flat (chosen_over s.0) (choose rs c) r).1 (s.1, s.3, s.4)))
    where
      there : Memᴰ r (unify_c all c ls ks rs qs) → SomeOver c r
      there m =
          let x = (in_flat (left_over c) (choose ls c) r).0 m in
          let y = (in_flat (chosen_over x.0) (choose rs c) r).0 x.2 in
          (x.0, y.0, x.1, y.1, y.2)

  chosen_found : (c : ℕ) (T P : List ℕ × List ℕ) → Memᴰ T (choose ls c) → Memᴰ P (choose rs c) → (r : Result) → Memᴰ r (chosen_over T P) →
      Found c T.0 T.1 P.0 P.1 r
  chosen_found c T P a b r m =
      let x = choose_from ls c T.0 T.1 a in
      let y = choose_from rs c P.0 P.1 b in
      let s = composed_from T.0 P.0 (unify_distribute T.1 ks P.1 qs) r m in
      let o = (permutations_are P.0 (chosen_distinct y.0 dr) s.0).0 s.2 in
      let d = distribution_from T.1 ks P.1 qs s.1 s.3 in
      record {
        left_split = x.0;
        left_long = x.1;
        right_split = y.0;
        right_long = y.1;
        order = s.0;
        once = o.0;
        same = o.1;
        left_labels_lem = d.0;
        left_placing = d.2;
        right_labels_lem = d.1;
        right_placing = d.3;
        is = s.4 ∙ ap (result (zip T.0 s.0)) d.4;
      }

  -- each left term that is paired has one partner
  found_long : {c : ℕ} {T R P Q : List ℕ} {r : Result} (f : Found c T R P Q r) → length T ≡ length f.order
  found_long {P = P} f =
      let e = order_long f.order P f.once (chosen_distinct f.right_split dr) f.same in
      omega (arith, e, f.left_long, f.right_long)

  -- what the digits of a choice pair and put is one result
  arranged_result : (ds : List ℕ) (a : Arranged ls rs (length ks) (length qs) ds) →
      gone_over_as ls ks rs qs ds ≡ result (zip a.T a.S) (contexts_of ks qs (parts (length ks) a.Q a.ps) (parts (length qs) a.R a.qs))
  unfolding gone_over_as parts in_left in_right
  arranged_result ds a =
      let x = tabulate_same (length ks) (in_left ls rs ds) (λ p. with_digit p a.Q a.ps)
      (λ p h. ap (with_digit (suc p) rs) (lefts_rest a.lefts) ∙ rights_put a.rights p) in
      let y = tabulate_same (length qs) (in_right ls rs ds) (λ q. with_digit q a.R a.qs) (λ q h. lefts_put a.lefts q) in
      rw (lefts_pairs a.lefts, x, y)

  -- what is found is that of a choice
  found_choice : {c : ℕ} {T R P Q : List ℕ} {r : Result} → Found c T R P Q r → (ds : List ℕ) ×
      IsChoice (length ls) (length rs) (length ks) (length qs) ds × (r ≡ gone_over_as ls ks rs qs ds)
  found_choice {T = T} {R} {P} {Q} f =
      let g = split_rights (length ks) f.right_split f.left_labels_lem f.left_placing in
      let d = split_lefts rs (length qs) g.0 f.left_split f.order f.right_labels_lem (found_long f)
      (λ x m. chosen_in f.right_split x ((f.same x).0 m)) f.right_placing in
      let a : Arranged ls rs (length ks) (length qs) d.0 =
      record {
        T = T;
        S = f.order;
        R = R;
        qs = f.right_labels_lem;
        fs = g.0;
        P = P;
        Q = Q;
        ps = f.left_labels_lem;
        lefts = d.1;
        rights = g.1;
        once = f.once;
        same = f.same;
      } in
      (d.0, arranged_choice ls rs (length ks) (length qs) d.0 dr a, f.is ∙ sym (arranged_result d.0 a))

  -- What Algorithm 1 goes over.
  abbrev over : List Result
  over = unify all ls ks rs qs

  -- It does so for every size that leaves each term a place.
  abbrev sized : Loop (length ls) (length rs) (length ks) (length qs) (λ c. unify_c all c ls ks rs qs) over
  sized = one_loop all ls ks rs qs

  -- each result is that of a choice
  pub over_choice : (r : Result) → Memᴰ r over → (ds : List ℕ) × IsChoice (length ls) (length rs) (length ks) (length qs) ds ×
      (r ≡ gone_over_as ls ks rs qs ds)
  over_choice r m =
      let s = (in_flat (λ c. unify_c all c ls ks rs qs) sized.sizes r).0 (rw sized.loop at m) in
      let x = (over_some s.0 r).0 s.2 in
      found_choice (chosen_found s.0 x.0 x.1 x.2 x.3 r x.4)

  -- and each choice is gone over
  pub choice_over : (ds : List ℕ) → IsChoice (length ls) (length rs) (length ks) (length qs) ds → Memᴰ (gone_over_as ls ks rs qs ds) over
  choice_over ds h =
      let some = (over_some (length a.T) _).1 (
        (a.T, a.R),
        (a.P, a.Q),
        in_choose (lefts_split a.lefts),
        rw long (in_choose (rights_split a.rights)),
        there,
      ) in
      rw (arranged_result ds a, sized.loop)
      ((in_flat (λ c. unify_c all c ls ks rs qs) sized.sizes _).1 (length a.T, (sized.are (length a.T)).1 size, some))
    where
      a : Arranged ls rs (length ks) (length qs) ds
      a = choice_arranged ls rs (length ks) (length qs) ds dr h

      paired : Distinct a.P
      paired = chosen_distinct (rights_split a.rights) dr

      long : length a.T ≡ length a.P
      long = lefts_long a.lefts ∙ order_long a.S a.P a.once paired a.same

      size : Size (length ls) (length rs) (length ks) (length qs) (length a.T)
      size =
          record {
            in_left_lem = split_long (lefts_split a.lefts);
            in_right_lem = let s = split_long (rights_split a.rights) in omega (arith, s, long);
            no_left = λ e. long ∙ all_paired e (rights_split a.rights) (rights_placing a.rights);
            no_right = λ e. all_paired e (lefts_split a.lefts) (lefts_placing a.lefts);
          }

      there : Memᴰ (result (zip a.T a.S) (contexts_of ks qs (parts (length ks) a.Q a.ps) (parts (length qs) a.R a.qs)))
          (chosen_over (a.T, a.R) (a.P, a.Q))
      there =
          in_composed a.T a.P (unify_distribute a.R ks a.Q qs) a.S _ ((permutations_are a.P paired a.S).1 (a.once, a.same))
          (in_distribution a.R ks a.Q qs a.ps a.qs (rights_placing a.rights) (lefts_placing a.lefts))

  -- a result tells what is paired, in its order
  found_tells : {c c' : ℕ} {T R P Q T' R' P' Q' : List ℕ} {r r' : Result} (f : Found c T R P Q r) (g : Found c' T' R' P' Q' r') → r ≡ r' → (T ≡ T') ×
      (f.order ≡ g.order)
  found_tells {T = T} {T' = T'} f g e =
      pairing_tells T f.order T' g.order (found_long f) (found_long g) (ap (λ (s : Result). s.pairing) (sym f.is ∙ e ∙ g.is))

  -- for two ways to choose, nothing is gone over twice
  chosen_once : (c : ℕ) (T P : List ℕ × List ℕ) → Memᴰ T (choose ls c) → Memᴰ P (choose rs c) → Distinct (chosen_over T P)
  chosen_once c T P a b =
      rw (composed_flat (unify_terms all T.0 P.0) ΣM, terms_all T.0 P.0)
      (rising_flat (λ u v. u ≡ v → ⊥) (λ u v. u ≡ v → ⊥) (λ ps. map (result ps) ΣM) (map (zip T.0) (permutations P.0)) pairings
      (λ ps m. with_each ps) apart)
    where
      ΣM : List Contexts
      ΣM = unify_distribute T.1 ks P.1 qs

      x : Split ls T.0 T.1 × (length T.0 ≡ c)
      x = choose_from ls c T.0 T.1 a

      y : Split rs P.0 P.1 × (length P.0 ≡ c)
      y = choose_from rs c P.0 P.1 b

      paired : Distinct P.0
      paired = chosen_distinct y.0 dr

      long : (S : List ℕ) → Memᴰ S (permutations P.0) → length T.0 ≡ length S
      long S m =
          let s = (permutations_are P.0 paired S).0 m in
          let e = order_long S P.0 s.0 paired s.1 in
          omega (arith, x.1, y.1, e)

      tell : (S S' : List ℕ) → Memᴰ S (permutations P.0) → Memᴰ S' (permutations P.0) → zip T.0 S ≡ zip T.0 S' → S ≡ S'
      tell S S' m n e = (pairing_tells T.0 S T.0 S' (long S m) (long S' n) e).1

      pairings : Distinct (map (zip T.0) (permutations P.0))
      pairings = map_distinct (zip T.0) (permutations P.0) tell (permutations_distinct P.0 paired)

      with_each : (ps : List (ℕ × ℕ)) → Distinct (map (result ps) ΣM)
      with_each ps =
          map_distinct (result ps) ΣM (λ σ τ p q e. ap (λ (s : Result). s.contexts) e)
          (distribution_distinct T.1 ks P.1 qs (left_distinct x.0 dl) (left_distinct y.0 dr))

      apart : (ps ps' : List (ℕ × ℕ)) → Memᴰ ps (map (zip T.0) (permutations P.0)) → Memᴰ ps' (map (zip T.0) (permutations P.0)) → (ps ≡ ps' → ⊥) →
          (u v : Result) → Memᴰ u (map (result ps) ΣM) → Memᴰ v (map (result ps') ΣM) → u ≡ v → ⊥
      apart ps ps' m m' h u v p q e =
          let s = Memᴰ.of_map (result ps) ΣM p in
          let r = Memᴰ.of_map (result ps') ΣM q in
          h (ap (λ (w : Result). w.pairing) (s.2 ∙ e ∙ sym r.2))

  -- nor for one way to choose left terms
  left_once : (c : ℕ) (T : List ℕ × List ℕ) → Memᴰ T (choose ls c) → Distinct (left_over c T)
  left_once c T a =
      rising_flat Apart (λ x y. x ≡ y → ⊥) (chosen_over T) (choose rs c) (choose_apart rs c dr) (λ P b. chosen_once c T P a b)
      (λ P P' b b' h u v m n e. apart P P' h (chosen_found c T P a b u m) (chosen_found c T P' a b' v n) e)
    where
      apart : (P P' : List ℕ × List ℕ) → Apart P P' → {u v : Result} → Found c T.0 T.1 P.0 P.1 u → Found c T.0 T.1 P'.0 P'.1 v → u ≡ v → ⊥
      apart P P' (x, i, o) f g e = o ((g.same x).0 (rw (found_tells f g e).1 at ((f.same x).1 i)))

  -- nor for one size
  size_once : (c : ℕ) → Distinct (unify_c all c ls ks rs qs)
  unfolding unify_c
  size_once c =
      rising_flat Apart (λ x y. x ≡ y → ⊥) (left_over c) (choose ls c) (choose_apart ls c dl) (left_once c)
      (λ T T' a a' h u v m n e. apart T T' h (left_found T a u m) (left_found T' a' v n) e)
    where
      LeftFound : List ℕ × List ℕ → Result → Type 0
      LeftFound T u = (P : List ℕ × List ℕ) × Found c T.0 T.1 P.0 P.1 u

      left_found : (T : List ℕ × List ℕ) → Memᴰ T (choose ls c) → (u : Result) → Memᴰ u (left_over c T) → LeftFound T u
      left_found T a u m =
          let s = (in_flat (chosen_over T) (choose rs c) u).0 m in
          (s.0, chosen_found c T s.0 a s.1 u s.2)

      apart : (T T' : List ℕ × List ℕ) → Apart T T' → {u v : Result} → LeftFound T u → LeftFound T' v → u ≡ v → ⊥
      apart T T' (x, i, o) (P, f) (P', g) e = o (rw (found_tells f g e).0 at i)

  -- nor at all
  pub over_distinct : Distinct over
  over_distinct =
      rw sized.loop
      (rising_flat (λ x y. x ≡ y → ⊥) (λ x y. x ≡ y → ⊥) (λ c. unify_c all c ls ks rs qs) sized.sizes sized.once (λ c m. size_once c)
      (λ c c' a a' h u v m n e. h (sym (long c u m) ∙ ap (λ (r : Result). length r.pairing) e ∙ long c' v n)))
    where
      long : (c : ℕ) (u : Result) → Memᴰ u (unify_c all c ls ks rs qs) → length u.pairing ≡ c
      long c u m =
          let x = (over_some c u).0 m in
          let f = chosen_found c x.0 x.1 x.2 x.3 u x.4 in
          ap (λ (r : Result). length r.pairing) f.is ∙ zip_long x.0.0 f.order (found_long f) ∙ f.left_long

  -- Document 01's choices.
  abbrev all_choices : List (List ℕ)
  all_choices = choices (length ls) (length rs) (length ks) (length qs)

  is_choice : (ds : List ℕ) → Memᴰ ds all_choices ↔ IsChoice (length ls) (length rs) (length ks) (length qs) ds
  is_choice = choices_are (length ls) (length rs) (length ks) (length qs)

  -- they are distinct, and so are their results
  choices_distinct : Distinct (map (gone_over_as ls ks rs qs) all_choices)
  choices_distinct =
      rising_map Before (λ x y. x ≡ y → ⊥) (gone_over_as ls ks rs qs) all_choices
      (λ ds es m n b e. apart ds es b (result_tells ls ks rs qs dl dr ds es ((is_choice ds).0 m) ((is_choice es).0 n) e))
      (choices_rise (length ls) (length rs) (length ks) (length qs))
    where
      apart : (ds es : List ℕ) → Before ds es → ds ≡ es → ⊥
      apart ds es b e = let c = rw e at b in before_one_way es es c c

  -- what Algorithm 1 goes over is the list of choices in another order, each with its pairs and with what it puts in each label
  pub goes_over : Permᴰ over (map (gone_over_as ls ks rs qs) all_choices)
  goes_over = distinct_permuted over (map (gone_over_as ls ks rs qs) all_choices) over_distinct choices_distinct (λ r. (there r, back r))
    where
      there : (r : Result) → Memᴰ r over → Memᴰ r (map (gone_over_as ls ks rs qs) all_choices)
      there r m = let s = over_choice r m in rw s.2 (Memᴰ.map (gone_over_as ls ks rs qs) ((is_choice s.0).1 s.1))

      back : (r : Result) → Memᴰ r (map (gone_over_as ls ks rs qs) all_choices) → Memᴰ r over
      back r m = let s = Memᴰ.of_map (gone_over_as ls ks rs qs) all_choices m in rw (← s.2) (choice_over s.0 ((is_choice s.0).0 s.1))
