-- A branch of the walk, as it stands in an entry: what one digit more, a mark of 0 and a mark put back make of it.
-- By the places that are set. Assumes nothing.
use Prim.Native.Nat.{ℕ, ◌+◌, ◌-◌, ◌^◌, ◌≤◌, ◌<◌}
use mathlib.Core.Bool.{false}
use mathlib.Core.List.{List, [], ◌∷◌, ◌++◌}
use mathlib.Core.Path.{◌≡◌, refl, sym, ap, ◌∙◌}
use native.Mathlib.Decide.{ℕ_discrete}
use native.Mathlib.Numerals.{add-one}
use native.Mathlib.Omega.{arith}
use borrow.Author.Tests.{eqb-false}
use lib.ListN.{length, take, drop, set, length-set, length-drop}
use lib.Seq.{length-take-le, take-suc-set, take-set-le, take-set-lt, take-take, take_at, drop-set-lt, drop-set-add, get_or-take, get_or-drop, get_or-set_same, get_or-set_other, set-set, set-get_or}
use Rattle.table.specs.Layout.{word}
use Rattle.branches.specs.Code.Known.{left_count, right_count, KnownOf}
use Rattle.branches.specs.Code.Ahead.{has}
use Rattle.branches.specs.Code.Walk.{marks_in, Branching, KeepsBranch}
use Rattle.branches.proofs.SetLaws.{paired_more}

-- a digit is set in an entry
module _ (known entry : List ℕ) (i d : ℕ) (h : i < left_count known) where
  -- it comes behind those before it
  pub set_digits : left_count known ≤ length entry → take (i + 1) (set entry i d) ≡ take i entry ++ d ∷ []
  set_digits l = rw (add-one i) (take-suc-set entry i d (omega arith))

  -- and no mark changes
  pub set_marks : marks_in known (set entry i d) ≡ marks_in known entry
  set_marks = ap (take (right_count known)) (drop-set-lt (left_count known) entry i d h)

-- a mark is set in an entry
module _ (known entry : List ℕ) (p d : ℕ) (e : p ≡ left_count known + d - 1) (h : 0 < d) (l : d ≤ right_count known) where
  -- no digit changes
  pub mark_digits : (i v : ℕ) → i ≤ left_count known → take i (set entry p v) ≡ take i entry
  mark_digits i v q = take-set-le i entry p v (omega (arith, e, h, q))

  -- it stands among the marks
  pub mark_marks : (v : ℕ) → marks_in known (set entry p v) ≡ set (marks_in known entry) (d - 1) v
  mark_marks v =
      let q : p ≡ left_count known + (d - 1) = omega (arith, e, h) in
      rw (q, drop-set-add (left_count known) entry (d - 1) v)
      (take-set-lt (right_count known) (drop (left_count known) entry) (d - 1) v (omega (arith, h, l)))

-- a mark is read in an entry
pub mark_word : (known entry : List ℕ) (j : ℕ) → j < right_count known → word (marks_in known entry) j ≡ word entry (left_count known + j)
mark_word known entry j h =
    get_or-take (right_count known) (drop (left_count known) entry) j 0 h ∙ get_or-drop (left_count known) entry j 0

-- a branch keeps itself
pub keeps_itself : {known : List ℕ} {i : ℕ} {e : List ℕ} → KeepsBranch known i e e
keeps_itself = record { size = refl; digits = refl; marks = refl }

-- what a branch keeps it keeps twice
pub keeps_again : {known : List ℕ} {i : ℕ} {e₀ e₁ e₂ : List ℕ} → KeepsBranch known i e₀ e₁ → KeepsBranch known i e₁ e₂ → KeepsBranch known i e₀ e₂
keeps_again x y = record { size = y.size ∙ x.size; digits = y.digits ∙ x.digits; marks = y.marks ∙ x.marks }

module _ {nodes arguments known entry : List ℕ} {i paired : ℕ} (k : KnownOf nodes arguments known) (g : Branching known entry i paired) where
  -- an entry has room for the digits and the marks
  pub branch_room : left_count known + right_count known ≤ length entry
  branch_room = omega (arith, g.size, k.width)

  -- there is a mark for each right term
  pub marks_long : length (marks_in known entry) ≡ right_count known
  marks_long = length-take-le (right_count known) (drop (left_count known) entry)
      (rw (length-drop (left_count known) entry) (omega (arith, branch_room)))

  -- the digits before the next one
  pub digits_long : length (take i entry) ≡ i
  digits_long = length-take-le i entry (omega (arith, branch_room, g.depth))

  -- a branch that is kept
  pub branching_kept : {entry' : List ℕ} → KeepsBranch known i entry entry' → Branching known entry' i paired
  branching_kept {entry'} q =
      record {
        size = q.size ∙ g.size;
        depth = g.depth;
        small = λ j h. let e : word entry' (left_count known + j) ≡ word entry (left_count known + j) = sym (mark_word known entry' j h)
            ∙ ap (λ (zs : List ℕ). word zs j) q.marks ∙ mark_word known entry j h in omega (arith, e, g.small j h);
        set_of = rw q.marks g.set_of;
      }

  -- the next left term has digit d
  module _ (h : i < left_count known) (d : ℕ) where
    digits_room : left_count known ≤ length entry
    digits_room = omega (arith, branch_room)

    -- it comes behind the digits before it
    pub digits_next : take (i + 1) (set entry i d) ≡ take i entry ++ d ∷ []
    digits_next = set_digits known entry i d h digits_room

    -- the digits before it are the same where those up to it are
    pub digits_before : (entry' : List ℕ) → take (i + 1) entry' ≡ take i entry ++ d ∷ [] → take i entry' ≡ take i entry
    digits_before entry' e =
        sym (take-take i (i + 1) entry' (omega arith)) ∙ ap (take i) e ∙ take_at (take i entry) (d ∷ []) i digits_long

    -- a branch whose next left term is in a label
    pub branching_label : Branching known (set entry i d) (i + 1) paired
    branching_label =
        record {
          size = length-set entry i d ∙ g.size;
          depth = omega (arith, h);
          small = λ j q. let e : word (set entry i d) (left_count known + j) ≡ word entry (left_count known + j) = get_or-set_other entry i
              (left_count known + j) d 0 (omega (arith, h)) in omega (arith, e, g.small j q);
          set_of = rw (set_marks known entry i d h) g.set_of;
        }

    -- one whose next left term is paired
    module _ (p : 0 < d) (l : d ≤ right_count known) (f : has paired (d - 1) ≡ false) where
      -- The entry with the digit and the mark.
      abbrev paired_entry : List ℕ
      paired_entry = set (set entry i d) (left_count known + d - 1) 0

      -- the digits
      pub pair_digits : take (i + 1) paired_entry ≡ take i entry ++ d ∷ []
      pair_digits = mark_digits known (set entry i d) (left_count known + d - 1) d refl p l (i + 1) 0 (omega (arith, h)) ∙ digits_next

      -- the marks
      pub pair_marks : marks_in known paired_entry ≡ set (marks_in known entry) (d - 1) 0
      pair_marks =
          mark_marks known (set entry i d) (left_count known + d - 1) d refl p l 0
          ∙ ap (λ (zs : List ℕ). set zs (d - 1) 0) (set_marks known entry i d h)

      -- the mark is 1 before
      pub free_mark : word (marks_in known entry) (d - 1) ≡ 1
      free_mark =
          let e = g.set_of.paired (d - 1) (omega (arith, marks_long, p, l)) in
          let n = eqb-false (word (marks_in known entry) (d - 1)) 0 (sym e ∙ f) in
          let w = mark_word known entry (d - 1) (omega (arith, p, l)) in
          omega (arith, n, w, g.small (d - 1) (omega (arith, p, l)))

      pub branching_pair : Branching known paired_entry (i + 1) (paired + 2 ^ (d - 1))
      branching_pair =
          record {
            size = length-set (set entry i d) (left_count known + d - 1) 0 ∙ length-set entry i d ∙ g.size;
            depth = omega (arith, h);
            small = λ j q. small j q (ℕ_discrete j (d - 1));
            set_of = rw pair_marks (paired_more (marks_in known entry) paired (d - 1) g.set_of (omega (arith, marks_long, p, l))
                (λ z. omega (arith, z, free_mark)));
          }
        where
          small : (j : ℕ) → j < right_count known → Dec (j ≡ d - 1) → word paired_entry (left_count known + j) ≤ 1
          small j q (yes e) =
              let x : left_count known + j ≡ left_count known + d - 1 = omega (arith, e, p) in
              let y : word paired_entry (left_count known + j) ≡ 0 = ap (word paired_entry) x
              ∙ get_or-set_same (set entry i d) (left_count known + d - 1) 0 0 (omega (arith, length-set entry i d, branch_room, p, l)) in
              omega (arith, y)
          small j q (no e) =
              let y : word paired_entry (left_count known + j) ≡ word entry (left_count known + j) = get_or-set_other (set entry i d)
              (left_count known + d - 1) (left_count known + j) 0 0 (omega (arith, e, p))
              ∙ get_or-set_other entry i (left_count known + j) d 0 (omega (arith, h)) in
              omega (arith, y, g.small j q)

      -- with the mark put back it is as before
      pub pair_back : {entry' entry'' : List ℕ} → KeepsBranch known (i + 1) paired_entry entry' → entry'' ≡ set entry' (left_count known + d - 1) 1 →
          KeepsBranch known i entry entry''
      pair_back {entry'} {entry''} q z =
          record {
            size = ap length z ∙ length-set entry' (left_count known + d - 1) 1 ∙ q.size ∙ length-set (set entry i d) (left_count known + d - 1) 0
                ∙ length-set entry i d;
            digits = ap (take i) z ∙ mark_digits known entry' (left_count known + d - 1) d refl p l i 1 (omega (arith, h))
                ∙ digits_before entry' (q.digits ∙ pair_digits);
            marks =
                ap (marks_in known) z
                ∙ mark_marks known entry' (left_count known + d - 1) d refl p l 1
                ∙ ap (λ (zs : List ℕ). set zs (d - 1) 1) (q.marks ∙ pair_marks)
                ∙ set-set (marks_in known entry) (d - 1) 0 1
                ∙ ap (set (marks_in known entry) (d - 1)) (sym free_mark)
                ∙ set-get_or (marks_in known entry) (d - 1) 0;
          }

    -- a label's digit leaves the branch before it
    pub label_back : {entry' : List ℕ} → KeepsBranch known (i + 1) (set entry i d) entry' → KeepsBranch known i entry entry'
    label_back {entry'} q =
        record {
          size = q.size ∙ length-set entry i d;
          digits = digits_before entry' (q.digits ∙ digits_next);
          marks = q.marks ∙ set_marks known entry i d h;
        }
