-- What the walk writes is the complete listing: it meets the choices in their order, and leaves out those that a failed pair begins.
-- By induction on the left terms still to go; more pairs have no more unifiers. Assumes nothing.
use Prim.Native.Nat.{ℕ, zero, suc, ◌+◌, ◌-◌, ◌≤◌, ◌<◌}
use mathlib.Core.Bool.{Bool, true, false, cond, ◌&&◌}
use mathlib.Core.List.Memᴰ
use mathlib.Core.List.{List, [], ◌∷◌, ◌++◌, map, flat_map, append_assoc, Memᴰ}
use mathlib.Core.Logic.{◌⊎◌, inl, inr, ◌↔◌}
use mathlib.Core.Path.{◌≡◌, refl, sym, ap, ◌∙◌}
use native.Mathlib.Decide.{ℕ_discrete}
use native.Mathlib.Omega.{arith}
use borrow.Author.Tests.{eq-eqb, ne_eqb, leb-true, leb-false}
use lib.Dec.{eqb, leb}
use lib.ListN.{length, set, replicate, length-append, length-set, length-replicate, get_or-replicate}
use lib.Seq.{get_or-set_same, get_or-set_other}
use Rattle.table.specs.Layout.{word}
use Rattle.terms.specs.Term.{var}
use Rattle.terms.specs.Substitution.{Substitution}
use Rattle.unification.specs.Node.{Node}
use Rattle.unification.specs.Unifier.{value, Unifies}
use Rattle.unification.specs.Code.Given.{WellFormed, Inside}
use Rattle.unification.specs.Outcome.{Outcome, unified, clash, occurs}
use Rattle.unification.specs.Computed.Variables.{variables_of}
use Rattle.unification.specs.Computed.Unifying.{outcome, words_of}
use Rattle.unification.proofs.FlatLaws.{flat_append, flat_same, flat_none, flat_one, flat_map_lem}
use Rattle.unification.proofs.AnswerLaws.{words_counted}
use Rattle.unification.proofs.OutcomeLaws.{outcome_unified}
use Rattle.unification.proofs.PairLaws.{more_none, same_outcome, same_words, same_unifiers}
use Rattle.unification.proofs.JoinedLaws.{inside_none, inside_more}
use Rattle.multiset_unification.specs.Problem.{Half}
use Rattle.multiset_unification.specs.Choice.{IsChoice, pairs}
use Rattle.multiset_unification.specs.Entry.{HalfChoice, half_pairs}
use Rattle.multiset_unification.specs.Computed.Choices.{among, branch, rights, lefts, choices}
use Rattle.multiset_unification.specs.Computed.Listing.{kept, half_choices, admissible_listing}
use Rattle.multiset_unification.specs.Code.Posed.{HalfPosed}
use Rattle.multiset_unification.specs.Code.InEvery.{NoneAdmissible, InEvery}
use Rattle.multiset_unification.proofs.PlaceLaws.{pairs_mean}
use Rattle.multiset_unification.proofs.ChoiceLaws.{choices_are}
use Rattle.multiset_unification.proofs.HalfLaws.{half_choices_lem, half_inside}
use Rattle.multiset_unification.proofs.OneHalfLaws.{one_half, one_listing}
use Rattle.entries.specs.Code.Writing.{marked}
use Rattle.branches.specs.Code.Walk.{over, if_unified, on_digit, below}
use Rattle.entries.proofs.RightLaws.{marked_long}
use Rattle.branches.proofs.OverLaws.{over_none}

-- The pairs of left digits ds, on top of the pairs ps; the last digit's comes first.
unfoldable paired_by : List ℕ → List ℕ → List ℕ → List (ℕ × ℕ) → List (ℕ × ℕ)
paired_by [] rs ds ps = ps
paired_by (a ∷ ls) rs [] ps = ps
paired_by (a ∷ ls) rs (d ∷ ds) ps = paired_by ls rs ds (cond (leb d (length rs)) ((a, word rs (d - 1)) ∷ ps) ps)

-- what strings that branch have, they have digit by digit
pub flat_branch : (f : List ℕ → List (List ℕ)) (d c : ℕ) (g : ℕ → List (List ℕ)) →
    flat_map f (branch d c g) ≡ over d c (λ e. flat_map (λ es. f (e ∷ es)) (g e))
unfolding flat_map branch over
flat_branch f d zero g = refl
flat_branch f d (suc c) g =
    flat_append f (map (d ∷◌) (g d)) (branch (suc d) c g)
    ∙ ap (λ (zs : List (List ℕ)). zs ++ flat_map f (branch (suc d) c g)) (flat_map_lem f (d ∷◌) (g d))
    ∙ ap (λ (zs : List (List ℕ)). flat_map (λ es. f (d ∷ es)) (g d) ++ zs) (flat_branch f (suc d) c g)

-- what digits have depends on them alone
pub over_same : (d c : ℕ) (f g : ℕ → List (List ℕ)) → ((e : ℕ) → d ≤ e → f e ≡ g e) → over d c f ≡ over d c g
unfolding over
over_same d zero f g h = refl
over_same d (suc c) f g h =
    rw (h d (omega arith), over_same (suc d) c f g (λ e q. h e (omega arith)))

-- nothing is kept of what is not unified
kept_none : {A : Type 0} (o : Outcome) (x : A) → (o ≡ unified → ⊥) → kept o x ≡ []
unfolding kept
kept_none unified x h = absurd (h refl)
kept_none clash x h = refl
kept_none occurs x h = refl

-- what is kept depends on the outcome, and on the entry only where it is unified
kept_same : {A : Type 0} (o : Outcome) (x y : A) → (o ≡ unified → x ≡ y) → kept o x ≡ kept o y
unfolding kept
kept_same {A} unified x y h = ap (λ (z : A). z ∷ []) (h refl)
kept_same clash x y h = refl
kept_same occurs x y h = refl

-- The marks of m right terms where the left digits so far are used: 0 where a digit pairs it.
record Marks (m : ℕ) (marks used : List ℕ) : Type 0 where
  size : length marks ≡ m
  paired : (j : ℕ) → j < m → eqb (word marks j) 0 ≡ among (suc j) used

-- at first no right term is marked as paired
marks_first : (m : ℕ) → Marks m (replicate m 1) []
unfolding among
marks_first m =
    record { size = length-replicate m 1; paired = λ j q. ap (λ (z : ℕ). eqb z 0) (get_or-replicate m j 1 0 q) }

-- a digit that pairs a right term marks it
marks_paired : (m : ℕ) (marks used : List ℕ) (d : ℕ) → 0 < d → d ≤ m → Marks m marks used → Marks m (set marks (d - 1) 0) (d ∷ used)
unfolding among
marks_paired m marks used d p q k =
    record { size = length-set marks (d - 1) 0 ∙ k.size; paired = λ j h. go j h (ℕ_discrete j (d - 1)) }
  where
    go : (j : ℕ) → j < m → Dec (j ≡ d - 1) → eqb (word (set marks (d - 1) 0) j) 0 ≡ among (suc j) (d ∷ used)
    go j h (yes e) =
        let s = k.size in
        let z : word (set marks (d - 1) 0) j ≡ 0 = rw e (get_or-set_same marks (d - 1) 0 0 (omega (arith, s))) in
        rw (z, eq-eqb (suc j) d (omega (arith, e)))
    go j h (no n) =
        let x : suc j ≡ d → ⊥ = λ e. n (omega (arith, e)) in
        rw (get_or-set_other marks (d - 1) j 0 0 n, ne_eqb (suc j) d x) (k.paired j h)

-- one that names a label marks none
marks_placed : (m : ℕ) (marks used : List ℕ) (d : ℕ) → m < d → Marks m marks used → Marks m marks (d ∷ used)
unfolding among
marks_placed m marks used d q k =
    record {
      size = k.size;
      paired = λ j h. let x : suc j ≡ d → ⊥ = λ e. omega (arith, e) in rw (ne_eqb (suc j) d x) (k.paired j h);
    }

-- the strings by marks from place i on are those by the digits used
marked_from : (k : ℕ) (marks used : List ℕ) (i : ℕ) → ((j p : ℕ) → j < length marks → p ≡ i + j → eqb (word marks j) 0 ≡ among (suc p) used) →
    marked k marks ≡ rights k used i (length marks)
unfolding marked rights
marked_from k [] used i h = refl
marked_from k (z ∷ zs) used i h =
    rw (h 0 i (omega arith) (omega arith), marked_from k zs used (suc i) (λ j p q e. h (suc j) p (omega arith) (omega (arith, e))))

-- so it is from the first place on
marked_rights : (k m : ℕ) (marks used : List ℕ) → Marks m marks used → marked k marks ≡ rights k used 0 m
marked_rights k m marks used s =
    marked_from k marks used 0 (λ j p q e. let n = s.size in let x : j ≡ p = omega (arith, e) in rw (← x) (s.paired j (omega (arith, n, q))))
    ∙ ap (rights k used 0) s.size

-- The terms are nodes.
abbrev pub Nodes : List Node → List ℕ → Type 0
Nodes ns ts = (i : ℕ) → i < length ts → word ts i < length ns

-- What is kept of a string of digits, where the pairs are ps before it: an entry g of its digits and pairs.
abbrev kept_after : List Node → List ℕ → List ℕ → List (ℕ × ℕ) → (List ℕ → List (ℕ × ℕ) → List ℕ) → List ℕ → List (List ℕ)
kept_after ns rs ls ps g es = kept (outcome ns (paired_by ls rs es ps)) (g es (paired_by ls rs es ps))

module _ (ns : List Node) (w : WellFormed ns) (rs : List ℕ) (right : Nodes ns rs) (k l : ℕ) where
  -- The pairs after digit d of a left term a.
  abbrev pair_up : ℕ → ℕ → List (ℕ × ℕ) → List (ℕ × ℕ)
  pair_up a d ps = (a, word rs (d - 1)) ∷ ps

  -- so it is of a left term and the right term that its digit counts to
  inside_pair : (a d : ℕ) (ps : List (ℕ × ℕ)) → a < length ns → 0 < d → d ≤ length rs → Inside ns ps → Inside ns (pair_up a d ps)
  inside_pair a d ps p q r h = inside_more ns a (word rs (d - 1)) ps p (right (d - 1) (omega arith)) h

  -- pairs that fail still fail with a further one
  fails_more : (p : ℕ × ℕ) (ps : List (ℕ × ℕ)) → Inside ns ps → Inside ns (p ∷ ps) → (outcome ns ps ≡ unified → ⊥) → outcome ns (p ∷ ps) ≡ unified → ⊥
  fails_more p ps h i n e =
      more_none ns ps (p ∷ ps) (λ q m. Memᴰ.tail m) (λ u. n ((outcome_unified ns w ps h).1 u)) ((outcome_unified ns w (p ∷ ps) i).0 e)

  -- so of the strings after them none is kept
  none_after : (ls used : List ℕ) (ps : List (ℕ × ℕ)) (g : List ℕ → List (ℕ × ℕ) → List ℕ) → Nodes ns ls → Inside ns ps →
      (outcome ns ps ≡ unified → ⊥) → flat_map (kept_after ns rs ls ps g) (lefts (length rs) k l used (length ls)) ≡ []
  unfolding flat_map paired_by lefts
  none_after [] used ps g left h n = flat_none (kept_after ns rs [] ps g) (lefts (length rs) k l used 0) (λ es. kept_none (outcome ns ps) (g es ps) n)
  none_after (a ∷ ls) used ps g left h n =
      flat_branch (kept_after ns rs (a ∷ ls) ps g) 1 (length rs + l)
      (λ d. cond (leb d (length rs) && among d used) [] (lefts (length rs) k l (d ∷ used) (length ls)))
      ∙ over_none 1 (length rs + l) _ (λ d p q. pick d p (leb d (length rs)) refl (among d used)
      (λ i m. none_after ls (d ∷ used) (pair_up a d ps) (λ es. g (d ∷ es)) (λ j r. left (suc j) (omega arith)) i m)
      (none_after ls (d ∷ used) ps (λ es. g (d ∷ es)) (λ j r. left (suc j) (omega arith)) h n))
    where
      pick : (d : ℕ) → 1 ≤ d → (b : Bool) → leb d (length rs) ≡ b → (c : Bool) →
          (Inside ns (pair_up a d ps) → (outcome ns (pair_up a d ps) ≡ unified → ⊥) →
          flat_map (kept_after ns rs ls (pair_up a d ps) (λ es. g (d ∷ es))) (lefts (length rs) k l (d ∷ used) (length ls)) ≡ []) →
          flat_map (kept_after ns rs ls ps (λ es. g (d ∷ es))) (lefts (length rs) k l (d ∷ used) (length ls)) ≡ [] →
          flat_map (kept_after ns rs ls (cond b (pair_up a d ps) ps) (λ es. g (d ∷ es)))
          (cond (b && c) [] (lefts (length rs) k l (d ∷ used) (length ls))) ≡ []
      pick d p true e true x y = refl
      pick d p true e false x y =
          let i = inside_pair a d ps (left 0 (omega arith)) p (leb-true d (length rs) e) h in
          x i (fails_more (a, word rs (d - 1)) ps h i n)
      pick d p false e c x y = y

  -- The entry with left digits ds, and then es and the words of the pairs.
  abbrev entry_after : List ℕ → List ℕ → List (ℕ × ℕ) → List ℕ
  entry_after ds es ps = ds ++ es ++ words_of ns ps

  -- What is below a branch with left terms ls to go is what is kept of its strings of digits.
  abbrev KeptBelow : List ℕ → Type 0
  KeptBelow ls = (ds : List ℕ) (ps : List (ℕ × ℕ)) (marks used : List ℕ) → Inside ns ps → outcome ns ps ≡ unified → Marks (length rs) marks used →
      below ns rs k l ls ds ps marks ≡ flat_map (kept_after ns rs ls ps (entry_after ds)) (lefts (length rs) k l used (length ls))

  module _ (ls : List ℕ) (left : Nodes ns ls) (rest : KeptBelow ls) where
    -- the same with a further left digit
    rest_after : (ds : List ℕ) (d : ℕ) (ps : List (ℕ × ℕ)) (marks used : List ℕ) → Inside ns ps → outcome ns ps ≡ unified →
        Marks (length rs) marks used → below ns rs k l ls (ds ++ d ∷ []) ps marks ≡ flat_map (kept_after ns rs ls ps (λ es. entry_after ds (d ∷ es)))
        (lefts (length rs) k l used (length ls))
    rest_after ds d ps marks used h o s =
        rest (ds ++ d ∷ []) ps marks used h o s
        ∙ flat_same (kept_after ns rs ls ps (entry_after (ds ++ d ∷ []))) (kept_after ns rs ls ps (λ es. entry_after ds (d ∷ es)))
        (lefts (length rs) k l used (length ls))
        (λ es m. ap (λ (zs : List ℕ). kept (outcome ns (paired_by ls rs es ps)) (zs ++ words_of ns (paired_by ls rs es ps)))
        (append_assoc ds (d ∷ []) es))

    -- where a pair has come to ps, there is nothing below unless they are unified
    after_pair : (ds : List ℕ) (d : ℕ) (ps : List (ℕ × ℕ)) (marks used : List ℕ) → Inside ns ps → Marks (length rs) marks used →
        if_unified (outcome ns ps) (below ns rs k l ls (ds ++ d ∷ []) ps marks) ≡ flat_map (kept_after ns rs ls ps (λ es. entry_after ds (d ∷ es)))
        (lefts (length rs) k l used (length ls))
    unfolding if_unified
    after_pair ds d ps marks used h s = pick (outcome ns ps) refl
      where
        none : (outcome ns ps ≡ unified → ⊥) → [] ≡ flat_map (kept_after ns rs ls ps (λ es. entry_after ds (d ∷ es)))
            (lefts (length rs) k l used (length ls))
        none n = sym (none_after ls used ps (λ es. entry_after ds (d ∷ es)) left h n)

        pick : (o : Outcome) → outcome ns ps ≡ o → if_unified o (below ns rs k l ls (ds ++ d ∷ []) ps marks) ≡ flat_map
            (kept_after ns rs ls ps (λ es. entry_after ds (d ∷ es))) (lefts (length rs) k l used (length ls))
        pick unified e = rest_after ds d ps marks used h e s
        pick clash e = none (λ f. let z : ◌≡◌ {A = ℕ} 0 1 = cc in omega arith)
        pick occurs e = none (λ f. let z : ◌≡◌ {A = ℕ} 0 1 = cc in omega arith)

    -- what a digit of the next left term has
    after_digit : (a : ℕ) → a < length ns → (ds : List ℕ) (ps : List (ℕ × ℕ)) (marks used : List ℕ) → Inside ns ps → outcome ns ps ≡ unified →
        Marks (length rs) marks used → (d : ℕ) → 1 ≤ d → on_digit ns rs (below ns rs k l ls) ds ps marks a d ≡ flat_map
        (λ es. kept_after ns rs (a ∷ ls) ps (entry_after ds) (d ∷ es))
        (cond (leb d (length rs) && among d used) [] (lefts (length rs) k l (d ∷ used) (length ls)))
    unfolding on_digit paired_by flat_map
    after_digit a p ds ps marks used h o s d q = pick (leb d (length rs)) refl (among d used) refl
      where
        mark : d ≤ length rs → eqb (word marks (d - 1)) 0 ≡ among d used
        mark r =
            let e : suc (d - 1) ≡ d = omega arith in
            s.paired (d - 1) (omega arith) ∙ ap (λ (z : ℕ). among z used) e

        pick : (b : Bool) → leb d (length rs) ≡ b → (c : Bool) → among d used ≡ c →
            cond b (cond (eqb (word marks (d - 1)) 0) [] (if_unified (outcome ns (pair_up a d ps))
            (below ns rs k l ls (ds ++ d ∷ []) (pair_up a d ps) (set marks (d - 1) 0)))) (below ns rs k l ls (ds ++ d ∷ []) ps marks) ≡ flat_map
            (kept_after ns rs ls (cond b (pair_up a d ps) ps) (λ es. entry_after ds (d ∷ es)))
            (cond (b && c) [] (lefts (length rs) k l (d ∷ used) (length ls)))
        pick true e true f = rw (mark (leb-true d (length rs) e), f)
        pick true e false f =
            let r = leb-true d (length rs) e in
            rw (mark r, f) (after_pair ds d (pair_up a d ps) (set marks (d - 1) 0) (d ∷ used) (inside_pair a d ps p q r h)
            (marks_paired (length rs) marks used d q r s))
        pick false e c f =
            rest_after ds d ps marks (d ∷ used) h o (marks_placed (length rs) marks used d (leb-false d (length rs) e) s)

  -- what is below a branch is what is kept of its strings of digits
  kept_below : (ls : List ℕ) → Nodes ns ls → KeptBelow ls
  unfolding below lefts paired_by kept
  kept_below [] left ds ps marks used h o s =
      ap (map (λ es. entry_after ds es ps)) (marked_rights k (length rs) marks used s)
      ∙ sym (flat_one (λ es. entry_after ds es ps) (rights k used 0 (length rs)))
      ∙ flat_same (λ es. entry_after ds es ps ∷ []) (kept_after ns rs [] ps (entry_after ds)) (rights k used 0 (length rs))
      (λ es m. sym (ap (λ (r : Outcome). kept r (entry_after ds es ps)) o))
  kept_below (a ∷ ls) left ds ps marks used h o s =
      let rest = kept_below ls (λ j q. left (suc j) (omega arith)) in
      over_same 1 (length rs + l) (λ d. on_digit ns rs (below ns rs k l ls) ds ps marks a d)
      (λ d. flat_map (λ es. kept_after ns rs (a ∷ ls) ps (entry_after ds) (d ∷ es))
      (cond (leb d (length rs) && among d used) [] (lefts (length rs) k l (d ∷ used) (length ls))))
      (λ d q. after_digit ls (λ j r. left (suc j) (omega arith)) rest a (left 0 (omega arith)) ds ps marks used h o s d q)
      ∙ sym (flat_branch (kept_after ns rs (a ∷ ls) ps (entry_after ds)) 1 (length rs + l)
      (λ d. cond (leb d (length rs) && among d used) [] (lefts (length rs) k l (d ∷ used) (length ls))))

-- further digits keep the pairs before them
paired_kept : (ls rs es : List ℕ) (ps : List (ℕ × ℕ)) (p : ℕ × ℕ) → Memᴰ p ps → Memᴰ p (paired_by ls rs es ps)
unfolding paired_by
paired_kept [] rs es ps p m = m
paired_kept (a ∷ ls) rs [] ps p m = m
paired_kept (a ∷ ls) rs (d ∷ es) ps p m = paired_kept ls rs es _ p (pick (leb d (length rs)))
  where
    pick : (b : Bool) → Memᴰ p (cond b ((a, word rs (d - 1)) ∷ ps) ps)
    pick true = Memᴰ.tail m
    pick false = m

-- and add their own
paired_pairs : (ls rs es : List ℕ) (ps : List (ℕ × ℕ)) (p : ℕ × ℕ) → Memᴰ p (pairs ls rs es) → Memᴰ p (paired_by ls rs es ps)
unfolding paired_by pairs
paired_pairs [] rs es ps p m = absurd (Memᴰ.not-nil m)
paired_pairs (a ∷ ls) rs [] ps p m = absurd (Memᴰ.not-nil m)
paired_pairs (a ∷ ls) rs (d ∷ es) ps p m =
    pick (leb d (length rs)) m (paired_pairs ls rs es ((a, word rs (d - 1)) ∷ ps) p) (paired_pairs ls rs es ps p)
  where
    pick : (b : Bool) → Memᴰ p (cond b ((a, word rs (d - 1)) ∷ pairs ls rs es) (pairs ls rs es)) →
        (Memᴰ p (pairs ls rs es) → Memᴰ p (paired_by ls rs es ((a, word rs (d - 1)) ∷ ps))) →
        (Memᴰ p (pairs ls rs es) → Memᴰ p (paired_by ls rs es ps)) → Memᴰ p (paired_by ls rs es (cond b ((a, word rs (d - 1)) ∷ ps) ps))
    pick true (Memᴰ.head e) x y = paired_kept ls rs es ((a, word rs (d - 1)) ∷ ps) p (Memᴰ.head e)
    pick true (Memᴰ.tail n) x y = x n
    pick false n x y = y n

-- and no others
paired_from : (ls rs es : List ℕ) (ps : List (ℕ × ℕ)) (p : ℕ × ℕ) → Memᴰ p (paired_by ls rs es ps) → Memᴰ p ps ⊎ Memᴰ p (pairs ls rs es)
unfolding paired_by pairs
paired_from [] rs es ps p m = inl m
paired_from (a ∷ ls) rs [] ps p m = inl m
paired_from (a ∷ ls) rs (d ∷ es) ps p m = pick (leb d (length rs)) (paired_from ls rs es _ p m)
  where
    pick : (b : Bool) → Memᴰ p (cond b ((a, word rs (d - 1)) ∷ ps) ps) ⊎ Memᴰ p (pairs ls rs es) →
        Memᴰ p ps ⊎ Memᴰ p (cond b ((a, word rs (d - 1)) ∷ pairs ls rs es) (pairs ls rs es))
    pick true (inl (Memᴰ.head e)) = inr (Memᴰ.head e)
    pick true (inl (Memᴰ.tail n)) = inl n
    pick true (inr n) = inr (Memᴰ.tail n)
    pick false (inl n) = inl n
    pick false (inr n) = inr n

-- what is kept of two outcomes is the same where one is unified if the other is, and the entries are then the same
kept_both : {A : Type 0} (o p : Outcome) (x y : A) → o ≡ unified ↔ (p ≡ unified) → (o ≡ unified → x ≡ y) → kept o x ≡ kept p y
unfolding kept
kept_both unified p x y e d = rw (e.0 refl, d refl) refl
kept_both clash p x y e d = sym (kept_none p y (λ z. let w = e.1 z in let o : ◌≡◌ {A = ℕ} 0 1 = cc in omega arith))
kept_both occurs p x y e d = sym (kept_none p y (λ z. let w = e.1 z in let o : ◌≡◌ {A = ℕ} 0 1 = cc in omega arith))

-- The entries of two sides, where the walk begins with some pairs.
module _ (ns : List Node) (f : WellFormed ns) (ls rs : List ℕ) (left : Nodes ns ls) (right : Nodes ns rs) (k l : ℕ) where
  abbrev entries_on : List (ℕ × ℕ) → List (List ℕ)
  entries_on ps = below ns rs k l ls [] ps (replicate (length rs) 1)

  -- What is kept of a choice.
  abbrev kept_on : List (ℕ × ℕ) → List ℕ → List (List ℕ)
  kept_on ps es = kept_after ns rs ls ps (λ ds qs. ds ++ words_of ns qs) es

  -- they are what is kept of the choices
  below_kept : (ps : List (ℕ × ℕ)) → Inside ns ps → outcome ns ps ≡ unified →
      entries_on ps ≡ flat_map (kept_on ps) (choices (length ls) (length rs) k l)
  unfolding choices
  below_kept ps h o =
      kept_below ns f rs right k l ls left [] ps (replicate (length rs) 1) [] h o (marks_first (length rs))

  -- no pair fails
  none_fails : outcome ns [] ≡ unified
  none_fails = (outcome_unified ns f [] (inside_none ns)).1 (var, λ a b m. absurd (Memᴰ.not-nil m))

  -- A choice.
  module _ (es : List ℕ) (c : IsChoice (length ls) (length rs) k l es) where
    -- its pairs are of nodes
    pairs_nodes : Inside ns (pairs ls rs es)
    pairs_nodes a b m =
        let p = (pairs_mean ls rs es (λ i h. (c.left_digits i h).0) a b).0 m in
        (rw p.5 (left p.0 p.2), rw p.6 (right p.1 p.3))

    -- they are on top of whatever was before
    on_inside : (ps : List (ℕ × ℕ)) → Inside ns ps → Inside ns (paired_by ls rs es ps)
    on_inside ps h a b m = go (paired_from ls rs es ps (a, b) m)
      where
        go : Memᴰ (a, b) ps ⊎ Memᴰ (a, b) (pairs ls rs es) → (a < length ns) × (b < length ns)
        go (inl n) = h a b n
        go (inr n) = pairs_nodes a b n

    -- what unifies them unifies those of the choice
    on_pairs : (ps : List (ℕ × ℕ)) (σ : Substitution) → Unifies ns (paired_by ls rs es ps) σ → Unifies ns (pairs ls rs es) σ
    on_pairs ps σ u a b m = u a b (paired_pairs ls rs es ps (a, b) m)

    -- pairs that every choice has add nothing
    on_same : (ps : List (ℕ × ℕ)) → InEvery ns ls rs k l ps → (σ : Substitution) →
        Unifies ns (paired_by ls rs es ps) σ ↔ Unifies ns (paired_by ls rs es []) σ
    on_same ps e σ = (
      λ u a b m. fewer u a b (paired_from ls rs es [] (a, b) m),
      λ u a b m. more u a b (paired_from ls rs es ps (a, b) m),
    )
      where
        fewer : Unifies ns (paired_by ls rs es ps) σ → (a b : ℕ) → Memᴰ {A = ℕ × ℕ} (a, b) [] ⊎ Memᴰ (a, b) (pairs ls rs es) →
            value ns σ a ≡ value ns σ b
        fewer u a b (inl n) = absurd (Memᴰ.not-nil n)
        fewer u a b (inr n) = on_pairs ps σ u a b n

        more : Unifies ns (paired_by ls rs es []) σ → (a b : ℕ) → Memᴰ (a, b) ps ⊎ Memᴰ (a, b) (pairs ls rs es) →
            value ns σ a ≡ value ns σ b
        more u a b (inl n) = e.unifies es σ (record { choice = c; unifies = on_pairs [] σ u }) a b n
        more u a b (inr n) = on_pairs [] σ u a b n

    -- so the same entry is kept
    kept_in_every : (ps : List (ℕ × ℕ)) → Inside ns ps → InEvery ns ls rs k l ps → kept_on ps es ≡ kept_on [] es
    kept_in_every ps h e =
        let i = on_inside ps h in
        let j = on_inside [] (inside_none ns) in
        let a = outcome_unified ns f (paired_by ls rs es ps) i in
        let b = outcome_unified ns f (paired_by ls rs es []) j in
        kept_both (outcome ns (paired_by ls rs es ps)) (outcome ns (paired_by ls rs es [])) (es ++ words_of ns (paired_by ls rs es ps))
        (es ++ words_of ns (paired_by ls rs es [])) (
          (λ z. let u = a.0 z in b.1 (u.0, (on_same ps e u.0).0 u.1)),
          λ z. let u = b.0 z in a.1 (u.0, (on_same ps e u.0).1 u.1),
        )
        (λ z. ap (λ (ws : List ℕ). es ++ ws) (same_unifiers ns f (paired_by ls rs es ps) (paired_by ls rs es []) i j (on_same ps e) (a.0 z)))

    -- nothing is, where no choice is admissible
    kept_never : NoneAdmissible ns ls rs k l → kept_on [] es ≡ []
    kept_never n =
        kept_none (outcome ns (paired_by ls rs es [])) (es ++ words_of ns (paired_by ls rs es []))
        (λ z.
        let u = (outcome_unified ns f (paired_by ls rs es []) (on_inside [] (inside_none ns))).0 z in
        n.never es u.0 (record { choice = c; unifies = on_pairs [] u.0 u.1 }))

  -- pairs that every choice has change no entry
  pub below_in_every : (ps : List (ℕ × ℕ)) → Inside ns ps → outcome ns ps ≡ unified → InEvery ns ls rs k l ps → entries_on ps ≡ entries_on []
  below_in_every ps h o e =
      below_kept ps h o
      ∙ flat_same (kept_on ps) (kept_on []) (choices (length ls) (length rs) k l)
      (λ es m. kept_in_every es ((choices_are (length ls) (length rs) k l es).0 m) ps h e)
      ∙ sym (below_kept [] (inside_none ns) none_fails)

  -- there is no entry where no choice is admissible
  pub below_never : NoneAdmissible ns ls rs k l → entries_on [] ≡ []
  below_never n =
      below_kept [] (inside_none ns) none_fails
      ∙ flat_same (kept_on []) (λ es. []) (choices (length ls) (length rs) k l)
      (λ es m. kept_never es ((choices_are (length ls) (length rs) k l es).0 m) n)
      ∙ flat_none (λ es. []) (choices (length ls) (length rs) k l) (λ es. refl)

module _ (ns : List Node) (f : WellFormed ns) (k : Half) (g : HalfPosed (length ns) k) where
  -- The pairs of the digits as the walk has them, the latest first.
  abbrev met : List ℕ → List (ℕ × ℕ)
  met es = paired_by k.left k.right es []

  -- they are pairs of the digits
  met_from : (es : List ℕ) (p : ℕ × ℕ) → Memᴰ p (met es) → Memᴰ p (half_pairs k es)
  met_from es p m = go (paired_from k.left k.right es [] p m)
    where
      go : Memᴰ p [] ⊎ Memᴰ p (half_pairs k es) → Memᴰ p (half_pairs k es)
      go (inl n) = absurd (Memᴰ.not-nil n)
      go (inr n) = n

  -- of a choice both keep the same entry
  choice_kept : (es : List ℕ) → HalfChoice k es →
      kept (outcome ns (met es)) (es ++ words_of ns (met es)) ≡ kept (outcome ns (half_pairs k es)) (es ++ words_of ns (half_pairs k es))
  choice_kept es c =
      let i = half_inside k g es c in
      let h : Inside ns (met es) = λ a b m. i a b (met_from es (a, b) m) in
      let y = paired_pairs k.left k.right es [] in
      kept_same (outcome ns (met es)) (es ++ words_of ns (met es)) (es ++ words_of ns (half_pairs k es))
      (λ o. ap (λ (ws : List ℕ). es ++ ws) (same_words ns f (met es) (half_pairs k es) h i (met_from es) y ((outcome_unified ns f (met es) h).0 o)))
      ∙ ap (λ (o : Outcome). kept o (es ++ words_of ns (half_pairs k es))) (same_outcome ns f (met es) (half_pairs k es) h i (met_from es) y)

  -- no pair fails
  none_unified : outcome ns [] ≡ unified
  none_unified = (outcome_unified ns f [] (inside_none ns)).1 (var, λ a b m. absurd (Memᴰ.not-nil m))

  -- what is below the branch without digits are the entries of the half's choices
  pub below_half :
      below ns k.right (length k.left_labels) (length k.right_labels) k.left [] [] (replicate (length k.right) 1) ≡ flat_map
      (λ ds. kept (outcome ns (half_pairs k ds)) (ds ++ words_of ns (half_pairs k ds))) (half_choices k)
  unfolding half_choices choices
  below_half =
      kept_below ns f k.right g.right_node_lem (length k.left_labels) (length k.right_labels) k.left g.left_node [] []
      (replicate (length k.right) 1) [] (inside_none ns) none_unified (marks_first (length k.right))
      ∙ flat_same _ (λ es. kept (outcome ns (half_pairs k es)) (es ++ words_of ns (half_pairs k es))) (half_choices k)
      (λ es m. choice_kept es ((half_choices_lem k es).0 m))

  -- and so document 01's listing of a problem of this half
  pub below_listing :
      below ns k.right (length k.left_labels) (length k.right_labels) k.left [] [] (replicate (length k.right) 1) ≡ admissible_listing
      (one_half ns k)
  below_listing = below_half ∙ sym (one_listing k ns)

-- what holds of each entry that a digit has holds of each that several have
over_each : (P : List ℕ → Type 0) (d c : ℕ) (f : ℕ → List (List ℕ)) → ((e : ℕ) (x : List ℕ) → Memᴰ x (f e) → P x) → (x : List ℕ) →
    Memᴰ x (over d c f) → P x
unfolding over
over_each P d zero f h x m = absurd (Memᴰ.not-nil m)
over_each P d (suc c) f h x m = go (over_each P (suc d) c f h x) (Memᴰ.append_cases (f d) m)
  where
    go : (Memᴰ x (over (suc d) c f) → P x) → Memᴰ x (f d) ⊎ Memᴰ x (over (suc d) c f) → P x
    go r (inl n) = h d x n
    go r (inr n) = r n

-- the same of what a digit has: it is what its pair or its label has, or nothing
digit_each : (P : List ℕ → Type 0) (ns : List Node) (rs : List ℕ) (f : List ℕ → List (ℕ × ℕ) → List ℕ → List (List ℕ)) (ds : List ℕ)
    (ps : List (ℕ × ℕ)) (marks : List ℕ) (a d : ℕ) → ((x : List ℕ) → Memᴰ x (f (ds ++ d ∷ []) ((a, word rs (d - 1)) ∷ ps) (set marks (d - 1) 0))
    → P x) → ((x : List ℕ) → Memᴰ x (f (ds ++ d ∷ []) ps marks) → P x) → (x : List ℕ) → Memᴰ x (on_digit ns rs f ds ps marks a d) → P x
unfolding on_digit if_unified
digit_each P ns rs f ds ps marks a d h k x m =
    pick (leb d (length rs)) (eqb (word marks (d - 1)) 0) (outcome ns ((a, word rs (d - 1)) ∷ ps)) m
  where
    pick : (b c : Bool) (o : Outcome) → Memᴰ x (cond b (cond c [] (if_unified o (f (ds ++ d ∷ []) ((a, word rs (d - 1)) ∷ ps)
        (set marks (d - 1) 0)))) (f (ds ++ d ∷ []) ps marks)) → P x
    pick true true o n = absurd (Memᴰ.not-nil n)
    pick true false unified n = h x n
    pick true false clash n = absurd (Memᴰ.not-nil n)
    pick true false occurs n = absurd (Memᴰ.not-nil n)
    pick false c o n = k x n

-- every entry below a branch has a word for each left term, each right term and each variable
pub below_long : (ns : List Node) (rs : List ℕ) (k l : ℕ) (ls ds : List ℕ) (ps : List (ℕ × ℕ)) (marks e : List ℕ) →
    Memᴰ e (below ns rs k l ls ds ps marks) → length e ≡ length ds + length ls + length marks + length (variables_of ns)
unfolding below
below_long ns rs k l [] ds ps marks e m =
    let r = Memᴰ.of_map (λ es. ds ++ es ++ words_of ns ps) (marked k marks) m in
    let x = marked_long k marks r.0 r.1 in
    let y = words_counted ns ps in
    let u = length-append ds r.0 in
    let v = length-append (ds ++ r.0) (words_of ns ps) in
    sym (ap length r.2) ∙ omega (arith, x, y, u, v)
below_long ns rs k l (a ∷ ls) ds ps marks e m =
    over_each (λ e. length e ≡ length ds + suc (length ls) + length marks + length (variables_of ns)) 1 (length rs + l)
    (λ d. on_digit ns rs (below ns rs k l ls) ds ps marks a d)
    (λ d.
    let u = length-append ds (d ∷ []) in
    let z = length-set marks (d - 1) 0 in
    digit_each (λ e. length e ≡ length ds + suc (length ls) + length marks + length (variables_of ns)) ns rs (below ns rs k l ls) ds ps marks a d
    (λ f n. let x = below_long ns rs k l ls (ds ++ d ∷ []) ((a, word rs (d - 1)) ∷ ps) (set marks (d - 1) 0) f n in omega (arith, x, u, z))
    (λ f n. let x = below_long ns rs k l ls (ds ++ d ∷ []) ps marks f n in omega (arith, x, u)))
    e m

-- pairs that are not unified have no entries
pub not_unified : (o : Outcome) (es : List (List ℕ)) → (o ≡ unified → ⊥) → if_unified o es ≡ []
unfolding if_unified
not_unified unified es h = absurd (h refl)
not_unified clash es h = refl
not_unified occurs es h = refl

module _ (ns : List Node) where
  -- Two lists of pairs have the same unifiers.
  abbrev SameUnifiers : List (ℕ × ℕ) → List (ℕ × ℕ) → Type 0
  SameUnifiers ps qs = (σ : Substitution) → Unifies ns ps σ ↔ Unifies ns qs σ

  -- what unifies one unifies the other, with one pair more
  one_more : (p : ℕ × ℕ) (ps qs : List (ℕ × ℕ)) (σ : Substitution) → (Unifies ns ps σ → Unifies ns qs σ) → Unifies ns (p ∷ ps) σ →
      Unifies ns (p ∷ qs) σ
  one_more p ps qs σ f u x y (Memᴰ.head e) = u x y (Memᴰ.head e)
  one_more p ps qs σ f u x y (Memᴰ.tail m) = f (λ a b n. u a b (Memᴰ.tail n)) x y m

  -- so they have with one pair more
  pub same_more : (p : ℕ × ℕ) (ps qs : List (ℕ × ℕ)) → SameUnifiers ps qs → SameUnifiers (p ∷ ps) (p ∷ qs)
  same_more p ps qs e σ = (one_more p ps qs σ (e σ).0, one_more p qs ps σ (e σ).1)

  -- both are unified or neither is
  pub same_unified : WellFormed ns → (ps qs : List (ℕ × ℕ)) → Inside ns ps → Inside ns qs → SameUnifiers ps qs →
      outcome ns ps ≡ unified ↔ (outcome ns qs ≡ unified)
  same_unified w ps qs h i e =
      let a = outcome_unified ns w ps h in
      let b = outcome_unified ns w qs i in
      ((λ z. let u = a.0 z in b.1 (u.0, (e u.0).0 u.1)), (λ z. let u = b.0 z in a.1 (u.0, (e u.0).1 u.1)))
