-- What looking ahead comes to: rows with every pair leave all bits 1, and where the bits leave no choice, there is no entry.
-- By the laws of what cannot be completed. Assumes nothing.
use Prim.Native.Nat.{ℕ, ◌+◌, ◌-◌, ◌≤◌, ◌<◌}
use mathlib.Core.Bool.{Bool, true, false, ◌||◌, false≢true}
use mathlib.Core.List.{List, [], ◌++◌}
use mathlib.Core.Path.{◌≡◌, refl, sym, ap, ◌∙◌}
use native.Mathlib.Omega.{arith}
use borrow.Author.Tests.{ltb-false}
use borrow.Rule.Slice.PartMut.{put_mid, mid_of, post_of, same_len_mid}
use lib.Dec.{ltb}
use lib.ListN.{length, take, drop, replicate, length-drop, length-replicate, get_or-append, get_or-replicate}
use lib.Seq.{length-take-le, get_or-take}
use Rattle.std.proofs.lemmas.List.{get_or-append_right}
use Rattle.table.specs.Layout.{word}
use Rattle.table.proofs.BoolLaws.{or_false_left}
use Rattle.branches.specs.Code.Known.{left_count, right_count, every_in, KnownOf, KeepsKnown}
use Rattle.branches.specs.Code.Ahead.{has, completes_from, MayPair}
use Rattle.branches.specs.Code.Walk.{all_entries, Standing, LooksAhead}
use Rattle.branches.proofs.SetLaws.{has_every, paired_first}
use Rattle.branches.proofs.KnownLaws.{known_kept, left_kept, right_kept, keeps_twice}
use Rattle.branches.proofs.CompleteLaws.{below_cannot}
use Rattle.ahead.specs.Code.Plan.{Sized, Ready, Plans}
use Rattle.ahead.specs.Code.Struck.{RowsTo}
use Rattle.ahead.specs.Code.Whole.{NotFit, WholeRows}
use Rattle.ahead.proofs.PlanLaws.{full_ready, full_completable}
use Rattle.ahead.proofs.StruckLaws.{rows_pairs, rows_end}
use Rattle.ahead.proofs.FitLaws.{not_fit_none}

-- rows with every pair are put
pub whole_put : {known ys : List ℕ} {n k : ℕ} → k ≡ n → n ≡ left_count known → 600 + n ≤ length known →
    ys ≡ replicate (length (mid_of 600 k known)) (every_in known) → WholeRows known (put_mid 600 k known ys)
whole_put {known} {ys} {n} {k} d l h e =
    record { keeps = record { size = same_len_mid 600 k known ys same_length; same = before }; rows = rows }
  where
    same_length : length ys ≡ length (mid_of 600 k known)
    same_length = ap length e ∙ length-replicate (length (mid_of 600 k known)) (every_in known)

    first : length (take 600 known) ≡ 600
    first = length-take-le 600 known (omega (arith, h))

    second : length (mid_of 600 k known) ≡ n
    second = length-take-le k (drop 600 known) (omega (arith, length-drop 600 known, d, h)) ∙ d

    before : (q : ℕ) → q < 600 → word (put_mid 600 k known ys) q ≡ word known q
    before q o = get_or-append (take 600 known) (ys ++ post_of 600 k known) 0 q (omega (arith, first, o)) ∙ get_or-take 600 known q 0 o

    rows : (q : ℕ) → q < left_count known → word (put_mid 600 k known ys) (600 + q) ≡ every_in known
    rows q o =
        get_or-append_right (take 600 known) (ys ++ post_of 600 k known) 600 (600 + q) 0 first (omega arith)
        ∙ get_or-append ys (post_of 600 k known) 0 (600 + q - 600) (omega (arith, o, l, second, same_length))
        ∙ ap (λ (zs : List ℕ). word zs (600 + q - 600)) e
        ∙ get_or-replicate (length (mid_of 600 k known)) (600 + q - 600) (every_in known) 0 (omega (arith, o, l, second))

module _ {nodes arguments known : List ℕ} (k : KnownOf nodes arguments known) where
  -- what the bits need to know
  pub known_sized : 0 < left_count known → Sized known
  known_sized h = record { size = k.size; some = h; left_few = k.left_few; right_few = k.right_few; every = k.every }

  -- every pair may be where all rows have every pair
  pub whole_pairs : {known' : List ℕ} → WholeRows known known' → (ps : List (ℕ × ℕ)) → MayPair nodes arguments known' ps
  whole_pairs {known'} w ps = record { never = λ i j h l o. absurd (false≢true (sym o ∙ all i j h l)) }
    where
      all : (i j : ℕ) → i < left_count known' → j < right_count known' → has (word known' (600 + i)) j ≡ true
      all i j h l =
          let n = w.keeps.same 578 (omega arith) in
          let m = w.keeps.same 579 (omega arith) in
          ap (λ (x : ℕ). has x j) (w.rows i (omega (arith, h, n))) ∙ has_every (right_count known) (every_in known) j k.every (omega (arith, l, m))

  -- sides that do not fit have no choice
  pub looks_unfit : {heads known' can' : List ℕ} → NotFit known → LooksAhead nodes arguments heads known known' can' false
  looks_unfit n =
      record {
        completable = λ z. absurd (false≢true z);
        partners = λ z. absurd (false≢true z);
        none = λ z ps g. not_fit_none nodes arguments known k n ps;
      }

  -- where every pair is left, every bit is 1
  pub looks_whole : {heads known' can : List ℕ} → can ≡ replicate 32 18446744073709551615 → WholeRows known known' →
      LooksAhead nodes arguments heads known known' can true
  looks_whole {heads} {known'} {can} e w =
      let x = known_kept k w.keeps in
      record {
        completable = λ z. full_completable known' can e x.left_few x.right_few;
        partners = λ z ps g. whole_pairs w ps;
        none = λ z. absurd (false≢true (sym z));
      }

  -- all but the rows is as before
  module _ {known' : List ℕ} (s : KeepsKnown known known') where
    -- rows that are right tell which pairs may be
    may_pairs : {heads : List ℕ} → RowsTo nodes arguments known' heads (left_count known) → (ps : List (ℕ × ℕ)) → Standing nodes arguments heads ps →
        MayPair nodes arguments known' ps
    may_pairs r = rows_pairs (let n = s.same 578 (omega arith) in rows_end r (omega (arith, n)))

    -- there is no entry where no choice can be completed
    cannot_none : {heads : List ℕ} → RowsTo nodes arguments known' heads (left_count known) → completes_from known' 0 0 ≡ false →
        (ps : List (ℕ × ℕ)) → Standing nodes arguments heads ps → all_entries nodes arguments known ps ≡ []
    cannot_none {heads} r e ps g =
        same_entries
        ∙ below_cannot nodes arguments known' (known_kept k s) 0 (omega arith) 0 [] ps (replicate (right_count known') 1) (length-replicate {A =
        ℕ} (right_count known') 1) (paired_first (right_count known')) g.inside (may_pairs r ps g) e
      where
        same_entries : all_entries nodes arguments known ps ≡ all_entries nodes arguments known' ps
        same_entries =
            rw (right_kept k s, left_kept k s, s.same 579 (omega arith), s.same 580 (omega arith), s.same 581 (omega arith)) refl

    -- the bits are filled, and tell whether there may be a choice
    pub looks_planned : {heads can can' : List ℕ} {r : Bool} → RowsTo nodes arguments known' heads (left_count known) → Plans known' can can' r →
        LooksAhead nodes arguments heads known known' can' r
    looks_planned t p =
        record { completable = λ z. p.completable; partners = λ z. may_pairs t; none = λ z. cannot_none t (p.none z) }

    -- they may be filled again
    pub ready_again : {can : List ℕ} → Ready known can → Ready known' can
    ready_again y =
        let n = s.same 578 (omega arith) in
        let u = s.same 580 (omega arith) in
        let v = s.same 581 (omega arith) in
        record { size = y.size; ends = rw (u, n) y.ends; whole = rw (u, v) y.whole }

-- two terms on both sides are some
some_left : (n m : ℕ) → (ltb n 2 || ltb m 2) ≡ false → 0 < n
some_left n m e =
    let l = ltb-false n 2 (or_false_left (ltb n 2) (ltb m 2) e) in
    omega (arith, l)

-- the bits can be filled
pub planning : {nodes arguments known known' can : List ℕ} → KnownOf nodes arguments known → KeepsKnown known known' →
    can ≡ replicate 32 18446744073709551615 → (ltb (left_count known) 2 || ltb (right_count known) 2) ≡ false → Sized known' × Ready known' can
planning {nodes} {arguments} {known} {known'} {can} k s e t =
    let x = known_kept k s in
    let n = s.same 578 (omega arith) in
    let h = some_left (left_count known) (right_count known) t in
    (known_sized x (omega (arith, n, h)), full_ready known' can e x.left_few)

-- and again, where all but the rows is as before
pub planning_again : {nodes arguments known known' known'' can can' : List ℕ} {r : Bool} → KnownOf nodes arguments known → KeepsKnown known known' →
    KeepsKnown known' known'' →
    (ltb (left_count known) 2 || ltb (right_count known) 2) ≡ false → Plans known' can can' r → Sized known'' × Ready known'' can'
planning_again {nodes} {arguments} {known} {known'} {known''} k s u t p =
    let x = known_kept k s in
    let n = (keeps_twice s u).same 578 (omega arith) in
    let h = some_left (left_count known) (right_count known) t in
    (known_sized (known_kept x u) (omega (arith, n, h)), ready_again x u p.ready)

-- the same, by another name of what is known then and of the answer
pub looks_as : {nodes arguments heads known known' known'' can' : List ℕ} {r b : Bool} → b ≡ r → known'' ≡ known' →
    LooksAhead nodes arguments heads known known' can' r → LooksAhead nodes arguments heads known known'' can' b
looks_as e d l = rw (e, d) l

-- rows of as many left terms
pub rows_kept : {nodes arguments known known' heads : List ℕ} {rows : List ℕ} → KeepsKnown known known' →
    RowsTo nodes arguments rows heads (left_count known) →
    RowsTo nodes arguments rows heads (left_count known')
rows_kept s r =
    let n = s.same 578 (omega arith) in
    rows_end r (omega (arith, n))

-- and the other way round
pub rows_back : {nodes arguments known known' heads : List ℕ} {rows : List ℕ} → KeepsKnown known known' →
    RowsTo nodes arguments rows heads (left_count known') →
    RowsTo nodes arguments rows heads (left_count known)
rows_back s r =
    let n = s.same 578 (omega arith) in
    rows_end r (omega (arith, n))
