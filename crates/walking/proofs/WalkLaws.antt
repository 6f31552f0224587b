-- One step of the walk: what a branch writes, by its digits, and what holds of the branch after one digit more.
-- The definition mirrors the code, so that each way through the code is one equation of it. Assumes nothing.
use Prim.Native.Nat.{ℕ, suc, ◌+◌, ◌-◌, ◌^◌, ◌≤◌, ◌<◌}
use mathlib.Core.Bool.{Bool, true, false, cond, false≢true}
use mathlib.Core.List.{List, [], ◌∷◌, ◌++◌, append-nil, Memᴰ}
use mathlib.Core.Logic.{◌↔◌}
use mathlib.Core.Path.{◌≡◌, refl, sym, ap, ◌∙◌}
use native.Mathlib.Nat.{pow-le-pow_right}
use native.Mathlib.Numerals.{add-one}
use native.Mathlib.Omega.{arith}
use borrow.Author.Tests.{eqb-true, eqb-false, ne_eqb}
use lib.Dec.{eqb}
use lib.ListN.{length, take, drop, set, length-set, length-drop, length-append}
use lib.Seq.{length-take-le, drop-cons}
use Rattle.std.specs.Prelude.{Result, Ok, Err}
use Rattle.table.specs.Layout.{word, node_count}
use Rattle.unification.specs.Node.{nodes_from}
use Rattle.unification.specs.Outcome.{unified}
use Rattle.unification.specs.Computed.Unifying.{outcome}
use Rattle.unification.specs.Computed.Variables.{variables_of}
use Rattle.unification.specs.Code.Given.{WellFormed, Inside}
use Rattle.unification.proofs.SectionLaws.{sections_well_formed}
use Rattle.values.proofs.LeastLaws.{least_long}
use Rattle.nodes.specs.Code.Formed.{Formed}
use Rattle.nodes.specs.Code.Trail.{gone, ComesFrom}
use Rattle.classes.proofs.TrailLaws.{merges_trailed, merges_back}
use Rattle.entries.specs.declared.writing.Full.{Full}
use Rattle.entries.specs.Code.Writing.{full, Writes, Remains, Block, repeated}
use Rattle.entries.proofs.WritingLaws.{remains_whole, remains_next, remains_full, writes_none, writes_long, writes_room, writes_block, repeat_writes}
use Rattle.branches.specs.Code.Known.{left_count, right_count, left_labels, right_labels, width_in, left_in, right_in, list_in, KnownOf}
use Rattle.branches.specs.Code.Ahead.{has, bit_at, completes_from, MayPair, PairedSet}
use Rattle.branches.specs.Code.Branch.{JoinsPair, IsOpen, may, struck, taken, lost}
use Rattle.branches.specs.Code.Walk.{over, if_unified, below, string_entries, Pairing, marks_in, KeepsBranch, digit_entries, digits_from, branch_entries, Walking, Walked, Stepped, SteppedFrom, Turning}
use Rattle.branches.proofs.OverLaws.{over_none, digit_empty, digit_label, digit_pair, over_next, over_end, over_within}
use Rattle.branches.proofs.BelowLaws.{below_long}
use Rattle.branches.proofs.BlockLaws.{labels_repeated}
use Rattle.branches.proofs.SetLaws.{paired_more, unpaired_not}
use Rattle.branches.proofs.KnownLaws.{left_long, right_long, left_word, right_word}
use Rattle.branches.proofs.CompleteLaws.{never_unified, below_cannot}
use Rattle.branches.proofs.PairLaws.{pair_inside, pair_partners, pair_answers, pair_pairing}
use Rattle.branches.proofs.BranchLaws.{keeps_itself, keeps_again, marks_long, digits_long, branching_kept, digits_next, branching_label, set_marks, pair_digits, pair_marks, free_mark, branching_pair, pair_back, label_back}

-- there is a word for each variable
pub variables_long : {nodes arguments known : List ℕ} → KnownOf nodes arguments known →
    length (variables_of (nodes_from nodes arguments)) ≡ word known 577
unfolding list_in
variables_long {nodes} {arguments} {known} k =
    let d = length-drop 512 known in
    let l : length (list_in known) ≡ word known 577 = length-take-le (word known 577) (drop 512 known) (omega (arith, d, k.size, k.list_few)) in
    sym (least_long (nodes_from nodes arguments)) ∙ sym (ap length k.list) ∙ l

-- what is below the branch after the first j left terms, by the terms that are left and as it stands in an entry
pub below_branch : {nodes arguments known : List ℕ} → KnownOf nodes arguments known → (entry : List ℕ) (j : ℕ) → j ≤ left_count known →
    (ps : List (ℕ × ℕ)) → below (nodes_from nodes arguments) (right_in known) (left_labels known) (right_labels known) (drop j (left_in known))
    (take j entry) ps (marks_in known entry) ≡ branch_entries nodes arguments known entry j 1 ps
unfolding branch_entries below
below_branch {nodes} {arguments} {known} k entry j h ps = pick (eqb j (left_count known)) refl
  where
    goal : List ℕ → List (List ℕ)
    goal ls = below (nodes_from nodes arguments) (right_in known) (left_labels known) (right_labels known) ls (take j entry) ps (marks_in known entry)

    none : (ls : List ℕ) → length ls ≡ 0 → goal ls ≡ string_entries (nodes_from nodes arguments) (left_labels known) (take j entry) ps
        (marks_in known entry)
    none [] e = refl
    none (x ∷ ls) e = absurd (omega (arith, e))

    pick : (b : Bool) → eqb j (left_count known) ≡ b → goal (drop j (left_in known)) ≡ cond b
        (string_entries (nodes_from nodes arguments) (left_labels known) (take j entry) ps (marks_in known entry))
        (digits_from nodes arguments known entry j ps 1)
    pick true e =
        let x = length-drop j (left_in known) in
        let y = left_long k in
        let z = eqb-true j (left_count known) e in
        none (drop j (left_in known)) (omega (arith, x, y, z))
    pick false e =
        let z = eqb-false j (left_count known) e in
        let y = left_long k in
        let s : drop j (left_in known) ≡ word (left_in known) j ∷ drop (j + 1) (left_in known) =
        drop-cons (left_in known) j 0 (omega (arith, z, h, y))
        ∙ ap (λ (q : ℕ). word (left_in known) j ∷ drop q (left_in known)) (sym (add-one j)) in
        let c : length (right_in known) + right_labels known ≡ suc (right_count known + right_labels known) - 1 = omega (arith, right_long k) in
        ap goal s ∙ ap (λ (q : ℕ). over 1 q (λ d. digit_entries nodes arguments known entry j ps d)) c

-- where left terms are still to go, the entries below a branch are those of the digits of the next one
branch_digits : (nodes arguments known entry : List ℕ) (i least : ℕ) (ps : List (ℕ × ℕ)) → i < left_count known →
    branch_entries nodes arguments known entry i least ps ≡ digits_from nodes arguments known entry i ps least
unfolding branch_entries
branch_digits nodes arguments known entry i least ps h = rw (ne_eqb i (left_count known) (λ e. omega (arith, e, h)))

module _ {nodes arguments known can heads next entry out : List ℕ} {i least paired at : ℕ}
    (g : Walking nodes arguments known can heads next entry out i least paired at) where
  -- where every left term has its digit, the walk has what its end has
  pub placed_walked : i ≡ left_count known → {entry' out' : List ℕ} {r : Result ℕ Full} →
      ((l : ℕ) → Walked nodes arguments known heads entry out (left_count known) l at entry' out' r) →
      Walked nodes arguments known heads entry out i least at entry' out' r
  placed_walked e w = rw e (w least)

  -- or there is a next one
  pub going_on : (i ≡ left_count known → ⊥) → i < left_count known
  going_on n = omega (arith, n, g.branching.depth)

  -- the nodes are well formed
  formed_nodes : WellFormed (nodes_from nodes arguments)
  formed_nodes = sections_well_formed nodes arguments g.knows.sections

  -- sets of right terms are small
  pub paired_small : paired < 256
  paired_small =
      let w : paired < 2 ^ right_count known = rw (marks_long g.knows g.branching) at g.branching.set_of.within in
      let q : 2 ^ right_count known ≤ 2 ^ 8 = pow-le-pow_right {n = 2} (omega arith) {i = right_count known} {j = 8} g.knows.right_few in
      omega (arith, w, q)

  module _ (h : i < left_count known) where
    -- where the digit has no entry, nothing is to be done
    stepped_none : (d : ℕ) → ((ps : List (ℕ × ℕ)) → Pairing nodes arguments known heads ps → digit_entries nodes arguments known entry i ps d ≡ []) →
        Stepped nodes arguments known heads entry out i d at entry out (Ok at)
    stepped_none d e = record { writes = λ ps p. rw (e ps p) (writes_none out at g.room); keeps = keeps_itself }

    -- where a bit is 0, the left terms after this one cannot be placed
    bit_lost : (s : ℕ) → s < 2 ^ right_count known → bit_at can i s ≡ false → completes_from known (i + 1) s ≡ false
    bit_lost s q e = pick (completes_from known (i + 1) s) refl
      where
        pick : (b : Bool) → completes_from known (i + 1) s ≡ b → b ≡ false
        pick true f = absurd (false≢true (sym e ∙ g.completable.bits i s h q f))
        pick false f = refl

    -- digit `least` counts to a right term
    module _ (l : least ≤ right_count known) where
      p : 0 < least
      p = g.positive

      -- The two terms.
      abbrev a : ℕ
      a = word known (584 + i)

      abbrev b : ℕ
      b = word known (592 + (least - 1))

      a_is : word (left_in known) i ≡ a
      a_is = left_word known i h

      b_is : word (right_in known) (least - 1) ≡ b
      b_is = right_word known (least - 1) (omega (arith, p, l))

      a_node : a < node_count nodes
      a_node = g.knows.left_nodes i h

      b_node : b < node_count nodes
      b_node = g.knows.right_nodes (least - 1) (omega (arith, p, l))

      right_there : least ≤ length (right_in known)
      right_there = omega (arith, right_long g.knows, l)

      -- one pair more is of nodes, and strikes out no less
      inside_next : (ps : List (ℕ × ℕ)) → Inside (nodes_from nodes arguments) ps → Inside (nodes_from nodes arguments) ((a, b) ∷ ps)
      inside_next = pair_inside g.knows a_node b_node

      partners_next : (ps : List (ℕ × ℕ)) → MayPair nodes arguments known ps → MayPair nodes arguments known ((a, b) ∷ ps)
      partners_next = pair_partners g.knows a_node b_node

      -- What is below the pair.
      abbrev pair_below : List (ℕ × ℕ) → List (List ℕ)
      pair_below ps = below (nodes_from nodes arguments) (right_in known) (left_labels known) (right_labels known) (drop (i + 1) (left_in known))
          (take i entry ++ least ∷ []) ((a, b) ∷ ps) (set (marks_in known entry) (least - 1) 0)

      -- a digit has no entry where its right term is free, its pair is unified, and nothing is below
      pair_empty : (ps : List (ℕ × ℕ)) → ((word (marks_in known entry) (least - 1) ≡ 0 → ⊥) → outcome (nodes_from nodes arguments) ((a, b) ∷ ps) ≡
          unified → pair_below ps ≡ []) → digit_entries nodes arguments known entry i ps least ≡ []
      pair_empty ps f =
          digit_empty (nodes_from nodes arguments) (right_in known)
          (below (nodes_from nodes arguments) (right_in known) (left_labels known) (right_labels known) (drop (i + 1) (left_in known)))
          (take i entry) ps
          (marks_in known entry) (word (left_in known) i) least
          (λ q z u. rw (a_is, b_is) (f z (rw (a_is, b_is) at u)))
          (λ q. absurd (omega (arith, q, right_there)))

      -- left terms that may not take the right term have no entry with it
      pub closed_stepped : {r : Bool} → IsOpen known can i least paired r → r ≡ false →
          Stepped nodes arguments known heads entry out i least at entry out (Ok at)
      closed_stepped (may x y z) e = absurd (false≢true (sym e))
      closed_stepped (struck x) e =
          stepped_none least (λ ps q. pair_empty ps (λ z u. absurd (never_unified (nodes_from nodes arguments) formed_nodes ps a b
          (inside_next ps q.standing.inside) (q.partners.never i (least - 1) h (omega (arith, p, l)) x) u)))
      closed_stepped (taken x) e =
          stepped_none least (λ ps q. pair_empty ps (λ z u. absurd (false≢true (sym (unpaired_not (marks_in known entry) paired (least - 1)
          g.branching.set_of (omega (arith, p, l, marks_long g.knows g.branching)) z) ∙ x))))
      closed_stepped (lost x y) e =
          stepped_none least (λ ps q. pair_empty ps (λ z u. nothing ps q z))
        where
          set_of : (word (marks_in known entry) (least - 1) ≡ 0 → ⊥) → PairedSet (set (marks_in known entry) (least - 1) 0) (paired + 2 ^ (least - 1))
          set_of z = paired_more (marks_in known entry) paired (least - 1) g.branching.set_of
              (omega (arith, p, l, marks_long g.knows g.branching)) z

          long : length (set (marks_in known entry) (least - 1) 0) ≡ right_count known
          long = length-set (marks_in known entry) (least - 1) 0 ∙ marks_long g.knows g.branching

          nothing : (ps : List (ℕ × ℕ)) → Pairing nodes arguments known heads ps → (word (marks_in known entry) (least - 1) ≡ 0 → ⊥) →
              pair_below ps ≡ []
          nothing ps q z =
              below_cannot nodes arguments known g.knows (i + 1) (omega (arith, h)) (paired + 2 ^ (least - 1)) (take i entry ++ least ∷ [])
              ((a, b) ∷ ps)
              (set (marks_in known entry) (least - 1) 0) long (set_of z) (inside_next ps q.standing.inside) (partners_next ps q.partners)
              (bit_lost (paired + 2 ^ (least - 1)) (rw long at (set_of z).within) y)

      -- those that may, take a free one
      pub open_free : {r : Bool} → IsOpen known can i least paired r → r ≡ true → has paired (least - 1) ≡ false
      open_free (may x y z) e = y
      open_free (struck x) e = absurd (false≢true e)
      open_free (taken x) e = absurd (false≢true e)
      open_free (lost x y) e = absurd (false≢true e)

      -- the pair is joined, or it is not
      module _ {r : Bool} {heads' next' : List ℕ} (x : JoinsPair nodes arguments known heads next a b r heads' next') where
        -- it is, exactly if the pairs have a unifier with it
        joined_unified : (ps : List (ℕ × ℕ)) → Pairing nodes arguments known heads ps →
            r ≡ true ↔ (outcome (nodes_from nodes arguments) ((a, b) ∷ ps) ≡ unified)
        joined_unified ps q = pair_answers g.knows a_node b_node x ps q.standing

        -- where it is not, there is no entry, and the classes are as before
        pub failed_stepped : r ≡ false →
            Stepped nodes arguments known heads entry out i least at entry out (Ok at) × ((heads' ≡ heads) × (next' ≡ next))
        failed_stepped e =
            (stepped_none least (λ ps q. pair_empty ps (λ z u. absurd (false≢true (sym e ∙ (joined_unified ps q).1 u)))), x.failed e)

        module _ (e : r ≡ true) where
          -- the classes after it are classes
          joined_formed : Formed nodes arguments known heads'
          joined_formed = x.formed e g.pairing.standing.pairs g.pairing.standing.stands

          -- they stand for one pair more
          joined_pairing : (ps : List (ℕ × ℕ)) → Pairing nodes arguments known heads ps → Pairing nodes arguments known heads' ((a, b) ∷ ps)
          joined_pairing = pair_pairing g.knows a_node b_node x e

          -- the right term was free
          module _ (f : has paired (least - 1) ≡ false) {entry₁ : List ℕ}
              (z : entry₁ ≡ set (set entry i least) (left_count known + least - 1) 0) where
            -- the walk goes on with it
            pub joined_next : {s : ℕ} → s ≡ paired + 2 ^ (least - 1) → Walking nodes arguments known can heads' next' entry₁ out (i + 1) 1 s at
            joined_next u =
                rw u
                record {
                  knows = g.knows;
                  completable = g.completable;
                  formed = joined_formed;
                  trailed = merges_trailed g.trailed x.merges;
                  pairs = (a, b) ∷ g.pairs;
                  pairing = joined_pairing g.pairs g.pairing;
                  branching = rw z (branching_pair g.knows g.branching h least p l f);
                  positive = omega arith;
                  wide = g.wide;
                  room = g.room;
                }

            -- and the digit has the entries below it
            joined_entries : (ps : List (ℕ × ℕ)) → Pairing nodes arguments known heads ps →
                digit_entries nodes arguments known entry i ps least ≡ branch_entries nodes arguments known entry₁ (i + 1) 1 ((a, b) ∷ ps)
            unfolding if_unified
            joined_entries ps q =
                let x₁ : if_unified (outcome (nodes_from nodes arguments) ((word (left_in known) i, word (right_in known) (least - 1)) ∷ ps))
                (below (nodes_from nodes arguments) (right_in known) (left_labels known) (right_labels known) (drop (i + 1) (left_in known))
                (take i entry ++ least ∷ []) ((word (left_in known) i, word (right_in known) (least - 1)) ∷ ps)
                (set (marks_in known entry) (least - 1) 0)) ≡ pair_below ps = rw (a_is, b_is, (joined_unified ps q).0 e) refl in
                let x₂ : pair_below ps ≡ branch_entries nodes arguments known entry₁ (i + 1) 1 ((a, b) ∷ ps) =
                rw (← pair_digits g.knows g.branching h least p l f, ← pair_marks g.knows g.branching h least p l f, ← z)
                (below_branch g.knows entry₁ (i + 1) (omega (arith, h)) ((a, b) ∷ ps)) in
                digit_pair (nodes_from nodes arguments) (right_in known)
                (below (nodes_from nodes arguments) (right_in known) (left_labels known) (right_labels known) (drop (i + 1) (left_in known)))
                (take i entry) ps (marks_in known entry) (word (left_in known) i) least right_there
                (λ w. let o = free_mark g.knows g.branching h least p l f in omega (arith, w, o))
                ∙ x₁ ∙ x₂

            -- so that they are written; the mark is put back
            pub joined_stepped : {entry' out' : List ℕ} {w : Result ℕ Full} → Walked nodes arguments known heads' entry₁ out (i + 1) 1 at entry' out' w →
                {entry'' : List ℕ} → entry'' ≡ set entry' (left_count known + least - 1) 1 →
                Stepped nodes arguments known heads entry out i least at entry'' out' w
            joined_stepped y u =
                record {
                  writes = λ ps q. rw (joined_entries ps q) (y.writes ((a, b) ∷ ps) (joined_pairing ps q));
                  keeps = pair_back g.knows g.branching h least p l f (rw z at y.keeps) u;
                }

          -- after the walk the classes are the same, and the joins can be undone
          module _ {heads'' next'' : List ℕ} (s : (heads'' ≡ heads') × (next'' ≡ next')) where
            -- these are the classes before the joins
            pub joins_undone : {heads₁ next₁ : List ℕ} → ComesFrom (length heads'') (gone next) heads₁ next₁ heads'' next'' →
                (heads₁ ≡ heads) × (next₁ ≡ next)
            joins_undone o = merges_back joined_formed.partition.size x.merges (rw (s.0, s.1) at o)

    -- digit `least` is that of a label
    module _ (l : right_count known < least) where
      -- What is below a label.
      abbrev label_below : List (ℕ × ℕ) → ℕ → List (List ℕ)
      label_below ps d = below (nodes_from nodes arguments) (right_in known) (left_labels known) (right_labels known) (drop (i + 1) (left_in known))
          (take i entry ++ d ∷ []) ps (marks_in known entry)

      -- a digit from it on has what is below its label
      label_entries : (ps : List (ℕ × ℕ)) (d : ℕ) → least ≤ d → digit_entries nodes arguments known entry i ps d ≡ label_below ps d
      label_entries ps d q =
          digit_label (nodes_from nodes arguments) (right_in known)
          (below (nodes_from nodes arguments) (right_in known) (left_labels known) (right_labels known) (drop (i + 1) (left_in known)))
          (take i entry) ps
          (marks_in known entry) (word (left_in known) i) d (omega (arith, right_long g.knows, l, q))

      -- where no digit from it on has an entry, nothing is to be done
      from_none : ((ps : List (ℕ × ℕ)) → Pairing nodes arguments known heads ps → digits_from nodes arguments known entry i ps least ≡ []) →
          SteppedFrom nodes arguments known heads entry out i least at entry out (Ok at)
      from_none e = record { writes = λ ps q. rw (e ps q) (writes_none out at g.room); keeps = keeps_itself }

      -- there is no such label
      pub none_stepped : right_count known + right_labels known < least →
          SteppedFrom nodes arguments known heads entry out i least at entry out (Ok at)
      none_stepped q = from_none (λ ps y. over_end (λ e. digit_entries nodes arguments known entry i ps e) least
          (suc (right_count known + right_labels known)) (omega (arith, q)))

      -- the left terms after it cannot be placed
      pub lost_stepped : bit_at can i paired ≡ false → SteppedFrom nodes arguments known heads entry out i least at entry out (Ok at)
      lost_stepped e =
          from_none (λ ps q.
          over_none least (suc (right_count known + right_labels known) - least) (λ d. digit_entries nodes arguments known entry i ps d)
          (λ d u v.
          label_entries ps d u
          ∙ below_cannot nodes arguments known g.knows (i + 1) (omega (arith, h)) paired (take i entry ++ d ∷ []) ps (marks_in known entry)
          (marks_long g.knows g.branching) g.branching.set_of q.standing.inside q.partners
          (bit_lost paired (rw (marks_long g.knows g.branching) at g.branching.set_of.within) e)))

      module _ {entry₁ : List ℕ} (z : entry₁ ≡ set entry i least) where
        -- the walk goes on with it
        pub label_next : Walking nodes arguments known can heads next entry₁ out (i + 1) 1 paired at
        label_next =
            record {
              knows = g.knows;
              completable = g.completable;
              formed = g.formed;
              trailed = g.trailed;
              pairs = g.pairs;
              pairing = g.pairing;
              branching = rw z (branching_label g.knows g.branching h least);
              positive = omega arith;
              wide = g.wide;
              room = g.room;
            }

        -- what is below the label, as it stands in the entry
        label_below_lem : (ps : List (ℕ × ℕ)) → label_below ps least ≡ branch_entries nodes arguments known entry₁ (i + 1) 1 ps
        label_below_lem ps =
            rw (← digits_next g.knows g.branching h least, ← set_marks known entry i least h, ← z)
            (below_branch g.knows entry₁ (i + 1) (omega (arith, h)) ps)

        module _ (t : least ≤ right_count known + right_labels known) where
          -- the entries of all labels are those of the first, and these repeated
          labels_entries : (ps : List (ℕ × ℕ)) → digits_from nodes arguments known entry i ps least ≡ label_below ps least ++ repeated i (least + 1)
              (right_count known + right_labels known - least) (label_below ps least)
          labels_entries ps =
              let c : suc (right_count known + right_labels known) - (least + 1) ≡ right_count known + right_labels known - least =
              omega (arith, t) in
              over_next (λ e. digit_entries nodes arguments known entry i ps e) least (suc (right_count known + right_labels known))
              (omega (arith, t))
              ∙ ap (λ (es : List (List ℕ)). es ++ over (least + 1) (suc (right_count known + right_labels known) - (least + 1))
              (λ e. digit_entries nodes arguments known entry i ps e)) (label_entries ps least (omega arith))
              ∙ ap (label_below ps least ++◌)
              (over_within (least + 1) (suc (right_count known + right_labels known) - (least + 1))
              (λ e. digit_entries nodes arguments known entry i ps e) (label_below ps) (λ d u v. label_entries ps d (omega (arith, u)))
              ∙ ap (λ (n : ℕ). over (least + 1) n (label_below ps)) c
              ∙ labels_repeated (nodes_from nodes arguments) (right_in known) (left_labels known) (right_labels known) (drop (i + 1) (left_in known))
              (take i entry) ps (marks_in known entry) least (least + 1) (right_count known + right_labels known - least)
              ∙ ap (λ (n : ℕ). repeated n (least + 1) (right_count known + right_labels known - least) (label_below ps least))
              (digits_long g.knows g.branching))

          -- each has as many words
          label_wide : (ps : List (ℕ × ℕ)) (e : List ℕ) → Memᴰ e (label_below ps least) → length e ≡ width_in known
          label_wide ps e m =
              let w = below_long (nodes_from nodes arguments) (right_in known) (left_labels known) (right_labels known) (drop (i + 1) (left_in known))
              (take i entry ++ least ∷ []) ps (marks_in known entry) e m in
              let u = length-append (take i entry) (least ∷ []) in
              let v = length-drop (i + 1) (left_in known) in
              omega (
                arith,
                w,
                u,
                v,
                digits_long g.knows g.branching,
                left_long g.knows,
                marks_long g.knows g.branching,
                variables_long
                    g.knows,
                g.knows.width,
                h,
              )

          module _ {entry' out' : List ℕ} {r : Result ℕ Full} (y : Walked nodes arguments known heads entry₁ out (i + 1) 1 at entry' out' r) where
            -- the entries of the first label are written
            first_written : (ps : List (ℕ × ℕ)) → Pairing nodes arguments known heads ps → Writes (label_below ps least) out at out' r
            first_written ps q = rw (label_below_lem ps) (y.writes ps q)

            kept : KeepsBranch known i entry entry'
            kept = label_back g.knows g.branching h least (rw z at y.keeps)

          -- one of them does not fit
          pub label_full : {entry' out' : List ℕ} {f : Full} → Walked nodes arguments known heads entry₁ out (i + 1) 1 at entry' out' (Err f) →
              SteppedFrom nodes arguments known heads entry out i least at entry' out' (Err full)
          label_full y =
              record {
                writes = λ ps q. rw (labels_entries ps) (remains_full (label_below ps least)
                    (repeated i (least + 1) (right_count known + right_labels known - least) (label_below ps least))
                    (remains_whole (label_below ps least ++ repeated i (least + 1) (right_count known + right_labels known - least)
                    (label_below ps least)) out at g.room) (first_written y ps q));
                keeps = kept y;
              }

          -- all of them fit
          module _ {entry' out' : List ℕ} {w : ℕ} (y : Walked nodes arguments known heads entry₁ out (i + 1) 1 at entry' out' (Ok w)) where
            -- there is no other label
            pub labels_one : least ≡ right_count known + right_labels known →
                SteppedFrom nodes arguments known heads entry out i least at entry' out' (Ok w)
            unfolding repeated
            labels_one e =
                let z₀ : right_count known + right_labels known - least ≡ 0 = omega (arith, e) in
                record {
                  writes = λ ps q. rw (labels_entries ps, z₀, append-nil (label_below ps least)) (first_written y ps q);
                  keeps = kept y;
                }

            -- and they are repeated for the other labels
            pub labels_stepped : {out'' : List ℕ} {v : Result ℕ Full} {width last : ℕ} → width ≡ width_in known →
                last ≡ right_count known + right_labels known →
                ((es : List (List ℕ)) → Block es width out' at w → Writes (repeated i (least + 1) (last - least) es) out' w out'' v) →
                SteppedFrom nodes arguments known heads entry out i least at entry' out'' v
            labels_stepped {out''} {v} {width} {last} a b f₀ =
                let f : (es : List (List ℕ)) → Block es (width_in known) out' at w →
                Writes (repeated i (least + 1) (right_count known + right_labels known - least) es) out' w out'' v = rw (← a, ← b) f₀ in
                record {
                  writes = λ ps q. rw (labels_entries ps) (repeat_writes (label_below ps least) i (least + 1)
                      (right_count known + right_labels known - least) g.room (first_written y ps q)
                      (f (label_below ps least) (writes_block (width_in known) g.room (first_written y ps q) (label_wide ps))));
                  keeps = kept y;
                }

    -- before the first digit
    pub turning_first : Turning nodes arguments known heads entry out i least at least entry out at
    turning_first =
        record {
          first = omega arith;
          size = refl;
          within = g.room;
          keeps = keeps_itself;
          remains = λ ps q. rw (branch_digits nodes arguments known entry i least ps h)
              (remains_whole (digits_from nodes arguments known entry i ps least) out at g.room);
        }

    -- the digits of the next left term have been gone through up to d
    module _ {d : ℕ} {entry' out' : List ℕ} {at' : ℕ} (t : Turning nodes arguments known heads entry out i least at d entry' out' at') where
      -- the branch is kept, so that the entries of a digit are the same
      digit_kept : (ps : List (ℕ × ℕ)) (e : ℕ) → digit_entries nodes arguments known entry' i ps e ≡ digit_entries nodes arguments known entry i ps e
      digit_kept ps e = rw (t.keeps.digits, t.keeps.marks) refl

      -- what is known of the branch still stands
      pub turning_walking : {heads' next' : List ℕ} → heads' ≡ heads → next' ≡ next →
          Walking nodes arguments known can heads' next' entry' out' i d paired at'
      turning_walking x y =
          rw (x, y)
          record {
            knows = g.knows;
            completable = g.completable;
            formed = g.formed;
            trailed = g.trailed;
            pairs = g.pairs;
            pairing = g.pairing;
            branching = branching_kept g.knows g.branching t.keeps;
            positive = omega (arith, g.positive, t.first);
            wide = g.wide;
            room = t.within;
          }

      module _ {heads' : List ℕ} (x : heads' ≡ heads) where
        -- digits from d on, with the digit first
        module _ (u : d ≤ right_count known) where
          next_remains : (ps : List (ℕ × ℕ)) → Pairing nodes arguments known heads ps →
              Remains (branch_entries nodes arguments known entry i least ps) out at
              (digit_entries nodes arguments known entry i ps d ++ digits_from nodes arguments known entry i ps (d + 1)) out' at'
          next_remains ps q =
              rw (over_next (λ e. digit_entries nodes arguments known entry i ps e) d (suc (right_count known + right_labels known))
              (omega (arith, u)))
              at (t.remains ps q)

          module _ {entry'' out'' : List ℕ} where
            stepped : {r : Result ℕ Full} → Stepped nodes arguments known heads' entry' out' i d at' entry'' out'' r → (ps : List (ℕ × ℕ)) →
                Pairing nodes arguments known heads ps → Writes (digit_entries nodes arguments known entry i ps d) out' at' out'' r
            stepped y ps q = rw (digit_kept ps d) at (y.writes ps (rw x q))

            -- after one digit more
            pub turning_next : {w : ℕ} → Stepped nodes arguments known heads' entry' out' i d at' entry'' out'' (Ok w) →
                Turning nodes arguments known heads entry out i least at (d + 1) entry'' out'' w
            turning_next y =
                let n = stepped y g.pairs g.pairing in
                let l = writes_long t.within n in
                record {
                  first = omega (arith, t.first);
                  size = l ∙ t.size;
                  within = omega (arith, l, (writes_room t.within n).1);
                  keeps = keeps_again t.keeps y.keeps;
                  remains = λ ps q. remains_next (digit_entries nodes arguments known entry i ps d) (next_remains ps q) (stepped y ps q);
                }

            -- where an entry does not fit
            pub turning_full : {f : Full} → Stepped nodes arguments known heads' entry' out' i d at' entry'' out'' (Err f) →
                Walked nodes arguments known heads entry out i least at entry'' out'' (Err full)
            turning_full y =
                record {
                  writes = λ ps q. remains_full (digit_entries nodes arguments known entry i ps d)
                      (digits_from nodes arguments known entry i ps (d + 1)) (next_remains ps q) (stepped y ps q);
                  keeps = keeps_again t.keeps y.keeps;
                }

        -- after the right terms come the labels
        pub turning_done : {entry'' out'' : List ℕ} {w : Result ℕ Full} → SteppedFrom nodes arguments known heads' entry' out' i d at' entry'' out'' w →
            Walked nodes arguments known heads entry out i least at entry'' out'' w
        turning_done {out'' = out''} {w = w} y =
            record {
              writes = λ ps q. (t.remains ps q).closes out'' w (same ps (y.writes ps (rw x q)));
              keeps = keeps_again t.keeps y.keeps;
            }
          where
            same : (ps : List (ℕ × ℕ)) → Writes (digits_from nodes arguments known entry' i ps d) out' at' out'' w →
                Writes (digits_from nodes arguments known entry i ps d) out' at' out'' w
            same ps z = rw (over_within d (suc (right_count known + right_labels known) - d) (λ e. digit_entries nodes arguments known entry' i ps e)
                (λ e. digit_entries nodes arguments known entry i ps e) (λ e q r. digit_kept ps e)) at z
