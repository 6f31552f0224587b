-- The end of a branch: every left term has its digit, and there is an entry for each string of right digits, all with the same binding words.
-- By the places of the digits, the marks and the words in the entry. Assumes nothing.
use Prim.Native.Nat.{ℕ, zero, suc, ◌+◌, ◌-◌, ◌^◌, ◌≤◌, ◌<◌}
use mathlib.Core.Bool.{Bool, true, false, cond, not, ◌&&◌, false≢true}
use mathlib.Core.List.{List, [], ◌∷◌, ◌++◌, map, Memᴰ}
use mathlib.Core.Path.{◌≡◌, refl, sym, ap, ◌∙◌}
use native.Mathlib.Omega.{arith}
use borrow.Author.Tests.{eqb-true, eq-eqb}
use lib.Dec.{eqb}
use lib.ListN.{length, take, drop, length-map, length-append}
use lib.Seq.{length-take-le, take-take, take-add, drop_at, get_or-take}
use Rattle.std.specs.Prelude.{Result, Ok, Err}
use Rattle.table.specs.Layout.{word}
use Rattle.unification.specs.Node.{nodes_from}
use Rattle.unification.specs.Computed.Unifying.{words_of}
use Rattle.multiset_unification.specs.Computed.Choices.{branch}
use Rattle.entries.specs.declared.writing.Full.{Full}
use Rattle.entries.specs.Code.Writing.{full, Writes, marked, right_entries, Least}
use Rattle.entries.proofs.WritingLaws.{writes_none, none_fits}
use Rattle.branches.specs.Code.Known.{left_count, right_count, left_labels, every_in}
use Rattle.branches.specs.Code.Walk.{below, string_entries, Pairing, marks_in, KeepsBranch, branch_entries, Walked, Ending, Binds}
use Rattle.branches.proofs.BelowLaws.{below_long}
use Rattle.branches.proofs.SetLaws.{paired_whole, paired_some}
use Rattle.branches.proofs.CompleteLaws.{marked_none}
use Rattle.branches.proofs.BranchLaws.{keeps_itself, mark_word, branch_room, marks_long, digits_long}
use Rattle.walking.proofs.WalkLaws.{variables_long}

-- with left labels, or where all right terms are paired, there is a string of right digits
marked_some : (k : ℕ) (marks : List ℕ) → (k ≡ 0 → (j : ℕ) → j < length marks → word marks j ≡ 0) → 0 < length (marked k marks)
unfolding marked branch
marked_some k [] h = omega arith
marked_some k (z ∷ zs) h =
    pick (eqb z 0) refl k (λ e. h e 0 (omega arith)) (marked_some k zs (λ e j q. h e (suc j) (omega (arith, q))))
  where
    pick : (b : Bool) → eqb z 0 ≡ b → (c : ℕ) → (c ≡ 0 → z ≡ 0) → 0 < length (marked k zs) →
        0 < length (cond b (branch 0 1 (λ d. marked k zs)) (branch 1 c (λ d. marked k zs)))
    pick true e c f p = let l = length-map (marked k zs) (0 ∷◌) in let a = length-append (map (0 ∷◌) (marked k zs)) [] in omega (arith, l, a, p)
    pick false e zero f p = absurd (false≢true (sym e ∙ eq-eqb z 0 (f refl)))
    pick false e (suc c) f p =
        let l = length-map (marked k zs) (1 ∷◌) in
        let a = length-append (map (1 ∷◌) (marked k zs)) (branch 2 c (λ d. marked k zs)) in
        omega (arith, l, a, p)

-- the test that a right term is left without a partner and without labels, where it fails
labels_or_whole : (k paired every : ℕ) → eqb k 0 && not (eqb paired every) ≡ false → k ≡ 0 → paired ≡ every
labels_or_whole k paired every h z = pick (eqb paired every) refl (rw (eq-eqb k 0 z) at h)
  where
    pick : (b : Bool) → eqb paired every ≡ b → not b ≡ false → paired ≡ every
    pick true e f = eqb-true paired every e
    pick false e f = absurd (false≢true (sym f))

-- where it holds
labels_none : (k paired every : ℕ) → eqb k 0 && not (eqb paired every) ≡ true → (k ≡ 0) × (paired ≡ every → ⊥)
labels_none k paired every h = pick (eqb k 0) refl h
  where
    pick : (b : Bool) → eqb k 0 ≡ b → b && not (eqb paired every) ≡ true → (k ≡ 0) × (paired ≡ every → ⊥)
    pick true e f = (eqb-true k 0 e, λ z. false≢true (sym (ap not (eq-eqb paired every z)) ∙ f))
    pick false e f = absurd (false≢true f)

-- the marks stand behind the left digits
marks_last : (known entry : List ℕ) → left_count known ≤ length entry →
    drop (left_count known) (take (left_count known + right_count known) entry) ≡ marks_in known entry
marks_last known entry h =
    ap (drop (left_count known)) (take-add (left_count known) (right_count known) entry)
    ∙ drop_at (take (left_count known) entry) _ _ (length-take-le (left_count known) entry h)

module _ {nodes arguments known heads entry out : List ℕ} {paired at : ℕ} (g : Ending nodes arguments known heads entry out paired at) where
  -- the entries are those of the whole string of left digits
  string_entries_lem : (least : ℕ) (ps : List (ℕ × ℕ)) → branch_entries nodes arguments known entry (left_count known) least ps ≡ string_entries
      (nodes_from nodes arguments) (left_labels known) (take (left_count known) entry) ps (marks_in known entry)
  unfolding branch_entries
  string_entries_lem least ps = rw (eq-eqb (left_count known) (left_count known) refl)

  -- the set has all right terms exactly if it is the set of all
  whole_set : paired ≡ every_in known → paired + 1 ≡ 2 ^ length (marks_in known entry)
  whole_set e = rw (marks_long g.knows g.branching) (ap (λ (x : ℕ). x + 1) e ∙ g.knows.every)

  not_whole : (paired ≡ every_in known → ⊥) → paired + 1 ≡ 2 ^ length (marks_in known entry) → ⊥
  not_whole n e =
      let x : paired + 1 ≡ 2 ^ right_count known = rw (marks_long g.knows g.branching) at e in
      n (omega (arith, x, g.knows.every))

  -- without left labels, a right term without a partner leaves no entry
  leaf_none : left_labels known ≡ 0 → (paired ≡ every_in known → ⊥) → (least : ℕ) →
      Walked nodes arguments known heads entry out (left_count known) least at entry out (Ok at)
  leaf_none z n least = record { writes = λ ps q. rw (string_entries_lem least ps, none) (writes_none out at g.room); keeps = keeps_itself }
    where
      none : marked (left_labels known) (marks_in known entry) ≡ []
      none =
          let s = paired_some (marks_in known entry) paired g.branching.set_of (not_whole n) in
          rw z (marked_none (marks_in known entry) s.0 s.1 s.2)

  -- so the code tests it: k and `every` are read from what is known
  pub leaf_unpaired : (k every : ℕ) → k ≡ left_labels known → every ≡ every_in known → eqb k 0 && not (eqb paired every) ≡ true → (least : ℕ) →
      Walked nodes arguments known heads entry out (left_count known) least at entry out (Ok at)
  leaf_unpaired k every d e h = let n = labels_none k paired every h in leaf_none (sym d ∙ n.0) (λ z. n.1 (z ∙ sym e))

  pub leaf_paired : (k every : ℕ) → k ≡ left_labels known → every ≡ every_in known → eqb k 0 && not (eqb paired every) ≡ false →
      left_labels known ≡ 0 →
      paired ≡ every_in known
  leaf_paired k every d e h z = labels_or_whole k paired every h (d ∙ z) ∙ e

  module _ (w : left_labels known ≡ 0 → paired ≡ every_in known) where
    -- without left labels all marks are 0
    noughts : left_labels known ≡ 0 → (j : ℕ) → j < length (marks_in known entry) → word (marks_in known entry) j ≡ 0
    noughts z j q = paired_whole (marks_in known entry) paired g.branching.set_of (whole_set (w z)) j q

    -- where the first entry does not fit, none does
    pub leaf_full : length out - at < length entry → (least : ℕ) →
        Walked nodes arguments known heads entry out (left_count known) least at entry out (Err full)
    unfolding below
    leaf_full h least =
        record {
          writes = λ ps q. rw (string_entries_lem least ps) (none_fits (string_entries (nodes_from nodes arguments) (left_labels known)
              (take (left_count known) entry) ps (marks_in known entry)) out at (some ps) (wide ps));
          keeps = keeps_itself;
        }
      where
        some : (ps : List (ℕ × ℕ)) → 0 < length (string_entries (nodes_from nodes arguments) (left_labels known) (take (left_count known) entry) ps
            (marks_in known entry))
        some ps =
            let l = length-map (marked (left_labels known) (marks_in known entry))
            (λ es. take (left_count known) entry ++ es ++ words_of (nodes_from nodes arguments) ps) in
            let m = marked_some (left_labels known) (marks_in known entry) noughts in
            omega (arith, l, m)

        wide : (ps : List (ℕ × ℕ)) (e : List ℕ) → Memᴰ e
            (string_entries (nodes_from nodes arguments) (left_labels known) (take (left_count known) entry) ps (marks_in known entry)) →
            length out - at < length e
        wide ps e m =
            let l = below_long (nodes_from nodes arguments) [] (left_labels known) 0 [] (take (left_count known) entry) ps (marks_in known entry) e m
            in
            omega (
              arith,
              l,
              digits_long g.knows g.branching,
              marks_long g.knows g.branching,
              variables_long g.knows,
              g.knows.width,
              g.branching.size,
              h,
            )

    -- the binding words are put
    module _ {entry₁ : List ℕ} (b : Binds nodes arguments known heads entry entry₁) (s : length entry₁ ≡ length entry) where
      -- the digits stay
      same_digits : take (left_count known) entry₁ ≡ take (left_count known) entry
      same_digits =
          sym (take-take (left_count known) (left_count known + right_count known) entry₁ (omega arith))
          ∙ ap (take (left_count known)) b.digits
          ∙ take-take (left_count known) (left_count known + right_count known) entry (omega arith)

      -- and so do the marks
      same_word : (j : ℕ) → j < right_count known → word entry₁ (left_count known + j) ≡ word entry (left_count known + j)
      same_word j q =
          sym (get_or-take (left_count known + right_count known) entry₁ (left_count known + j) 0 (omega (arith, q)))
          ∙ ap (λ (zs : List ℕ). word zs (left_count known + j)) b.digits
          ∙ get_or-take (left_count known + right_count known) entry (left_count known + j) 0 (omega (arith, q))

      same_marks : marks_in known entry₁ ≡ marks_in known entry
      same_marks =
          let r = branch_room g.knows g.branching in
          sym (marks_last known entry₁ (omega (arith, r, s))) ∙ ap (drop (left_count known)) b.digits ∙ marks_last known entry (omega (arith, r))

      leaf_keeps : KeepsBranch known (left_count known) entry entry₁
      leaf_keeps = record { size = s; digits = same_digits; marks = same_marks }

      -- the entry is the first of those of all right digits
      leaf_least : Least (left_labels known) entry₁ (left_count known) (left_count known + right_count known)
      leaf_least =
          record {
            small = λ j p q. let e : left_count known + (j - left_count known) ≡ j = omega (arith, p) in
                let t : j - left_count known < right_count known = omega (arith, p, q) in let x = same_word (j - left_count known) t in
                let y = g.branching.small (j - left_count known) t in (rw e at (rw (← x) at y));
            noughts = λ z j p q. let e : left_count known + (j - left_count known) ≡ j = omega (arith, p) in
                let t : j - left_count known < right_count known = omega (arith, p, q) in let x = same_word (j - left_count known) t in
                let y = noughts z (j - left_count known) (omega (arith, t, marks_long g.knows g.branching)) in
                let m = mark_word known entry (j - left_count known) t in ap (word entry₁) (sym e) ∙ x ∙ sym m ∙ y;
          }

      -- and those are written
      leaf_written : {out' : List ℕ} {r : Result ℕ Full} → Writes
          (right_entries (left_labels known) entry₁ (left_count known) (left_count known + right_count known))
          out at out' r →
          (least : ℕ) → Walked nodes arguments known heads entry out (left_count known) least at entry₁ out' r
      unfolding right_entries
      leaf_written y least = record { writes = λ ps q. rw (string_entries_lem least ps ∙ sym (right_entries_lem ps q)) y; keeps = leaf_keeps }
        where
          right_entries_lem : (ps : List (ℕ × ℕ)) → Pairing nodes arguments known heads ps →
              right_entries (left_labels known) entry₁ (left_count known) (left_count known + right_count known) ≡ string_entries
              (nodes_from nodes arguments) (left_labels known) (take (left_count known) entry) ps (marks_in known entry)
          right_entries_lem ps q =
              let c : left_count known + right_count known - left_count known ≡ right_count known = omega arith in
              rw (c, same_digits, b.words ps q.standing, same_marks) refl

      -- so the code says it: k, n and m are read from what is known
      module _ (k n m : ℕ) (d : k ≡ left_labels known) (e : n ≡ left_count known) (f : m ≡ right_count known) where
        pub read_least : Least k entry₁ n (n + m)
        read_least = rw (d, e, f) leaf_least

        pub read_written : {out' : List ℕ} {r : Result ℕ Full} → Writes (right_entries k entry₁ n (n + m)) out at out' r →
            (least : ℕ) → Walked nodes arguments known heads entry out (left_count known) least at entry₁ out' r
        read_written y = leaf_written (rw (d, e, f) at y)
