-- The binding words of a branch, put behind its digits: those of the classes are those of the pairs.
-- Words are the same for pairs with the same unifiers. Assumes nothing.
use Prim.Native.Nat.{ℕ, ◌+◌, ◌-◌, ◌≤◌}
use mathlib.Core.List.{List, [], ◌∷◌, ◌++◌, append-nil}
use mathlib.Core.Path.{◌≡◌, refl, sym, ap, ◌∙◌}
use native.Mathlib.Omega.{arith}
use borrow.Rule.Slice.PartMut.{mid_of, put_mid, Post-is, mid_len}
use lib.ListN.{length, take, drop, drop_of_length-le}
use lib.Seq.{length-take-le, take_at, drop_at}
use Rattle.table.specs.Layout.{word}
use Rattle.unification.specs.Node.{nodes_from}
use Rattle.unification.specs.Computed.Unifying.{words_of}
use Rattle.unification.specs.Computed.Variables.{variables_of}
use Rattle.unification.proofs.SectionLaws.{sections_well_formed}
use Rattle.unification.proofs.AnswerLaws.{words_counted}
use Rattle.unification.proofs.OutcomeLaws.{outcome_unified}
use Rattle.unification.proofs.PairLaws.{same_unifiers}
use Rattle.nodes.specs.Code.Formed.{Formed}
use Rattle.nodes.specs.Code.Open.{OpenListed}
use Rattle.values.specs.Code.Begins.{Leaves}
use Rattle.values.specs.Code.Present.{least_nodes}
use Rattle.classes.proofs.AtOnceLaws.{formed_unified}
use Rattle.branches.specs.Code.Known.{left_count, right_count, width_in, opens_in, list_in, KnownOf}
use Rattle.branches.specs.Code.Walk.{Standing, Binds}
use Rattle.walking.proofs.WalkLaws.{variables_long}

-- the open applications are a part of what is known
pub opens_part : {nodes arguments known : List ℕ} → KnownOf nodes arguments known → (n : ℕ) → n ≡ word known 576 →
    OpenListed nodes known (take (256 + n - 256) (drop 256 known))
unfolding opens_in
opens_part {known = known} k n e =
    let z : 256 + n - 256 ≡ word known 576 = omega (arith, e) in
    rw z k.opens

-- and so are the least nodes of the variables
pub list_part : {nodes arguments known : List ℕ} → KnownOf nodes arguments known → (n : ℕ) → n ≡ word known 577 →
    take (512 + n - 512) (drop 512 known) ≡ least_nodes (nodes_from nodes arguments)
unfolding list_in
list_part {known = known} k n e =
    let z : 512 + n - 512 ≡ word known 577 = omega (arith, e) in
    rw z k.list

module _ {nodes arguments known heads entry : List ℕ} (k : KnownOf nodes arguments known) (long : length entry ≡ width_in known) where
  -- where there is no variable, there are no words
  pub bound_none : (n m : ℕ) → n ≡ left_count known → m ≡ right_count known → n + m ≡ length entry → Binds nodes arguments known heads entry entry
  bound_none n m d e z =
      record {
        digits = refl;
        words = λ ps g. drop_of_length-le entry {i = left_count known + right_count known} (omega (arith, d, e, z))
            ∙ sym (none (words_of (nodes_from nodes arguments) ps)
            (omega (arith, words_counted (nodes_from nodes arguments) ps, variables_long k, k.width, long, d, e, z)));
      }
    where
      none : (xs : List ℕ) → length xs ≡ 0 → xs ≡ []
      none [] q = refl
      none (x ∷ xs) q = absurd (omega (arith, q))

  -- words of the classes are those of the pairs
  bound_from : Formed nodes arguments known heads → (n : ℕ) → n ≡ left_count known + right_count known → (part : List ℕ) →
      Leaves nodes arguments heads (mid_of n (length entry - n) entry) part →
      Binds nodes arguments known heads entry (put_mid n (length entry - n) entry part)
  bound_from f n e part l =
      let h : n ≤ length entry = omega (arith, e, long, k.width) in
      let t = length-take-le n entry h in
      let z = Post-is n (length entry) entry (omega (arith, h)) ∙ drop_of_length-le entry {i = length entry} (omega arith) in
      record {
        digits = rw (← e) (take_at (take n entry) (part ++ _) n t);
        words = λ ps g. rw (← e) (drop_at (take n entry) (part ++ _) n t ∙ ap (part ++◌) z ∙ append-nil part ∙ words ps g);
      }
    where
      words : (ps : List (ℕ × ℕ)) → Standing nodes arguments heads ps → part ≡ words_of (nodes_from nodes arguments) ps
      words ps g =
          let ns = nodes_from nodes arguments in
          let o = formed_unified nodes arguments known heads k.sections f k.counts g.pairs g.stands in
          let w = sections_well_formed nodes arguments k.sections in
          let q = same_unifiers ns w g.pairs ps g.stands.inside g.inside g.unifiers
          ((outcome_unified ns w g.pairs g.stands.inside).0 o) in
          let x = mid_len n (length entry) entry (omega (arith, e, long, k.width)) in
          let y = drop_of_length-le (mid_of n (length entry - n) entry) {i = length (variables_of ns)}
          (omega (arith, x, long, e, k.width, variables_long k)) in
          l g.pairs g.stands ∙ ap (λ (r : List ℕ). words_of ns g.pairs ++ r) y ∙ append-nil (words_of ns g.pairs) ∙ q

  -- so put_words has it: n and m are read from what is known
  pub bound_new : Formed nodes arguments known heads → (n m : ℕ) → n ≡ left_count known → m ≡ right_count known → (part : List ℕ) →
      Leaves nodes arguments heads (mid_of (n + m) (length entry - (n + m)) entry) part →
      Binds nodes arguments known heads entry (put_mid (n + m) (length entry - (n + m)) entry part)
  bound_new f n m d e part l = bound_from f (n + m) (omega (arith, d, e)) part l
