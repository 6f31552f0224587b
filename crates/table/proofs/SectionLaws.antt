-- What it means that a table is laid out by its sections: refusals 1 to 3 are not given; every section can be read; header and
-- sections, one after the other, are the table, which has so many words at most. By induction on the sections. Assumes nothing.
use Prim.Native.Nat.{ℕ, zero, suc, ◌+◌, ◌-◌, ◌<◌, ◌≤◌}
use mathlib.Core.Bool.{false}
use mathlib.Core.Path.{◌≡◌, refl, sym, ap, subst, ◌∙◌}
use mathlib.Core.Logic.{◌↔◌}
use mathlib.Core.List.{List, ◌++◌}
use native.Mathlib.Omega.{arith}
use borrow.Author.Tests.{le-ltb, ltb-false}
use lib.ListN.{length, take, length-take, length-drop}
use lib.Seq.{take_all, take-add}
use Rattle.table.specs.Limits.{Section, header_words}
use Rattle.table.specs.Layout.{offset, size, section}
use Rattle.table.specs.Conditions.{too_few_words, end_before, broken_pair, over_limit}
use Rattle.table.specs.Code.Sections.{sections_to, limits_to}
use Rattle.table.specs.Code.Reading.{HasSection}
use Rattle.table.specs.Code.Accepted.{LaidOut}
use Rattle.table.proofs.ConditionLaws.{offsets_kept, end_kept, pairs_right, sizes_kept, sizes_right}

-- A section ends where the next one starts, and the last at the table's end, so each lies inside.
module _ (ss : List Section) (t : List ℕ) (starts : (k : ℕ) → k < length ss → offset t k ≡ end_before ss t k)
    (ends : end_before ss t (length ss) ≡ length t) where
  end_inside : (d k : ℕ) → k + d ≡ length ss → end_before ss t k ≤ length t
  unfolding end_before
  end_inside zero k e =
      let s : length ss ≡ k = omega arith in
      subst (λ (j : ℕ). end_before ss t j ≤ length t) s (omega (arith, ends))
  end_inside (suc d) k e =
      let n : offset t k + size t k ≤ length t = end_inside d (suc k) (omega arith) in
      omega (arith, n, starts k (omega arith))

  inside : (k : ℕ) → k < length ss → offset t k + size t k ≤ length t
  unfolding end_before
  inside k h = end_inside (length ss - suc k) (suc k) (omega arith)

  size_long : (k : ℕ) → k < length ss → length (section t k) ≡ size t k
  size_long k h = let i = inside k h in simp (length-take, length-drop) (omega arith)

module _ (ss : List Section) (t : List ℕ) (l : LaidOut ss t) where
  -- each section of a table that is laid out can be read
  pub has_section : (k : ℕ) → k < length ss → HasSection t k
  has_section k h =
      record { pair = record { there = omega (arith, l.header, h) }; inside = inside ss t l.starts l.ends k h }

  -- and is as long as its pair says
  pub section_length : (k : ℕ) → k < length ss → length (section t k) ≡ size t k
  section_length = size_long ss t l.starts l.ends

  -- header and sections, one after the other, are the table: up to section k, and all
  up_to : (k : ℕ) → k ≤ length ss → sections_to ss t k ≡ take (end_before ss t k) t
  unfolding sections_to end_before
  up_to zero h = refl
  up_to (suc k) h =
      ap (λ (x : List ℕ). x ++ section t k) (up_to k (omega arith) ∙ ap (λ (n : ℕ). take n t) (sym (l.starts k (omega arith))))
      ∙ sym (take-add (offset t k) (size t k) t)

  pub sections_whole : sections_to ss t (length ss) ≡ t
  sections_whole = up_to (length ss) (omega arith) ∙ take_all (end_before ss t (length ss)) t (omega (arith, l.ends))

  -- it has at most the words of its header and of its sections at their limits: up to section k, and in all
  up_to_most : (k : ℕ) → k ≤ length ss → end_before ss t k ≤ header_words ss + limits_to ss k
  unfolding limits_to end_before
  up_to_most zero h = omega arith
  up_to_most (suc k) h =
      let n = up_to_most k (omega arith) in
      let s = l.starts k (omega arith) in
      let m = l.within_limits k (omega arith) in
      omega (arith, n, s, m, section_length k (omega arith))

  pub words_most : length t ≤ header_words ss + limits_to ss (length ss)
  words_most = let n = up_to_most (length ss) (omega arith) in omega (arith, n, l.ends)

-- refusals 1 to 3 are not given exactly if the table is laid out
pub laid_out_means : (ss : List Section) (t : List ℕ) →
    ((too_few_words ss t ≡ false) × (broken_pair ss t ≡ false) × (over_limit ss t ≡ false)) ↔ LaidOut ss t
unfolding too_few_words
laid_out_means ss t = (there, back)
  where
    there : (too_few_words ss t ≡ false) × (broken_pair ss t ≡ false) × (over_limit ss t ≡ false) → LaidOut ss t
    there r =
        let long = size_long ss t (offsets_kept ss t r.1) (end_kept ss t r.1) in
        record {
          header = ltb-false (length t) (header_words ss) r.0;
          starts = offsets_kept ss t r.1;
          ends = end_kept ss t r.1;
          whole = λ k h. rw (long k h) (sizes_kept ss t r.2 k h).0;
          within_limits = λ k h. rw (long k h) (sizes_kept ss t r.2 k h).1;
        }

    back : LaidOut ss t → (too_few_words ss t ≡ false) × (broken_pair ss t ≡ false) × (over_limit ss t ≡ false)
    back l =
        let long = section_length ss t l in (
          le-ltb (length t) (header_words ss) l.header,
          pairs_right ss t l.starts l.ends,
          sizes_right ss t (λ k h. (rw (long k h) at (l.whole k h), rw (long k h) at (l.within_limits k h))),
        )
