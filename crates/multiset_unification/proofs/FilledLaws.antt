-- Labels that are filled. Rests that together equal nothing are empty, so that document 01 need not say so of them: a term of one of them
-- would be a term of all together.
-- Only the values of the terms of both sides matter. Assumes nothing.
use Prim.Native.Nat.{ℕ, ◌<◌}
use mathlib.Core.List.Memᴰ
use mathlib.Core.List.{List, [], ◌∷◌, ◌++◌, map, flatten, Memᴰ}
use mathlib.Core.Path.{◌≡◌, refl}
use lib.ListN.{length, drop}
use Rattle.table.specs.Layout.{word}
use Rattle.terms.specs.Term.{Term}
use Rattle.terms.specs.Multiset.{Same}
use Rattle.terms.proofs.MultisetLaws.{same_member, same_sym}
use Rattle.unification.specs.Node.{tabulate}
use Rattle.unification.proofs.ListLaws.{tabulate_member}
use Rattle.multiset_unification.specs.Choice.{in_left, in_right}
use Rattle.multiset_unification.specs.Instance.{Filled}
use Rattle.multiset_unification.proofs.PutLaws.{with_same}
use Rattle.multiset_unification.proofs.BalanceLaws.{left_digit, right_digit}

-- what is in one of several lists is in all together
flattened : {A : Type 0} (x : A) (xs : List A) (xss : List (List A)) → Memᴰ xs xss → Memᴰ x xs → Memᴰ x (flatten xss)
unfolding flatten
flattened {A = A} x xs [] x3 m = elim x3 [ ]
flattened x xs (ys ∷ xss) (Memᴰ.head e) m = Memᴰ.append_left (flatten xss) (rw e at m)
flattened x xs (ys ∷ xss) (Memᴰ.tail n) m = Memᴰ.append_right ys (flattened x xs xss n m)

-- rests that together equal nothing are all empty
pub rests_empty : (k : ℕ) (rest rest' : ℕ → List Term) → Same (flatten (tabulate k rest)) (flatten (tabulate 0 rest')) → (p : ℕ) → p < k → rest p ≡ []
unfolding flatten tabulate
rests_empty k rest rest' h p l = go (rest p) refl
  where
    go : (us : List Term) → rest p ≡ us → us ≡ []
    go [] e = refl
    go (u ∷ us) e =
        absurd (Memᴰ.not-nil (same_member (flatten (tabulate k rest)) [] h u
        (flattened u (rest p) (tabulate k rest) (tabulate_member k rest p l) (rw e (Memᴰ.head refl)))))

-- labels are filled where their terms and rests are right and the rests balance: the two clauses on empty rests follow
pub filled : (ls ks rs qs ds : List ℕ) (v : ℕ → Term) (labels : ℕ → List Term) (left_rest right_rest : ℕ → List Term) →
    ((p : ℕ) → p < length ks → Same (labels (word ks p)) (map v (in_left ls rs ds p) ++ left_rest p)) →
    ((q : ℕ) → q < length qs → Same (labels (word qs q)) (map v (in_right ls rs ds q) ++ right_rest q)) →
    Same (flatten (tabulate (length ks) left_rest)) (flatten (tabulate (length qs) right_rest)) → Filled ls ks rs qs ds v labels
filled ls ks rs qs ds v labels left_rest right_rest l r b =
    record {
      left_rest = left_rest;
      right_rest = right_rest;
      in_left_lem = l;
      in_right_lem = r;
      balance = b;
      no_right = λ e. rests_empty (length ks) left_rest right_rest (rw e at b);
      no_left = λ e. rests_empty (length qs) right_rest left_rest (rw e at (same_sym _ _ b));
    }

-- labels that are filled under values are filled under values that are the same for the terms of both sides
pub filled_same : (ls ks rs qs ds : List ℕ) (v w : ℕ → Term) (labels : ℕ → List Term) → ((i : ℕ) → i < length ls → v (word ls i) ≡ w (word ls i)) →
    ((j : ℕ) → j < length rs → v (word rs j) ≡ w (word rs j)) → Filled ls ks rs qs ds v labels → Filled ls ks rs qs ds w labels
unfolding in_left in_right
filled_same ls ks rs qs ds v w labels l r f =
    record {
      left_rest = f.left_rest;
      right_rest = f.right_rest;
      in_left_lem = λ p h. rw (with_same v w (left_digit p) rs (drop (length ls) ds) r) at (f.in_left_lem p h);
      in_right_lem = λ q h. rw (with_same v w (right_digit (length rs) q) ls ds l) at (f.in_right_lem q h);
      balance = f.balance;
      no_right = f.no_right;
      no_left = f.no_left;
    }
