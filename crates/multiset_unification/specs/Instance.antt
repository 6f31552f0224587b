-- When an assignment is an instance of an entry.
use Rattle.std.specs.Prelude.{ℕ, ◌<◌, ◌≡◌, length}
use mathlib.Core.List.{List, [], ◌++◌, map, flatten}
use Rattle.table.specs.Layout.{word}
use Rattle.terms.specs.Term.{Term}
use Rattle.terms.specs.Substitution.{Substitution, sub}
use Rattle.terms.specs.Multiset.{Same}
use Rattle.unification.specs.Node.{tabulate, Present}
use Rattle.unification.specs.Unifier.{value}
use Rattle.unification.specs.Words.{Reads}
use Rattle.multiset_unification.specs.Problem.{Half, Problem}
use Rattle.multiset_unification.specs.Choice.{in_left, in_right}
use Rattle.multiset_unification.specs.Entry.{Share, digits_of, bindings_of}
use Rattle.multiset_unification.specs.Assignment.{Assignment}

-- The labels hold what the digits put there, each term by its value, and rests. Here ls and rs are the terms of the two sides, ks and qs their labels, ds the digits, v the values of nodes.
pub record Filled (ls ks rs qs ds : List ℕ) (v : ℕ → Term) (labels : ℕ → List Term) : Type 0 where
  pub left_rest : ℕ → List Term
  pub right_rest : ℕ → List Term
  -- "Each label takes the terms put in it, and also a rest."
  pub in_left_lem : (p : ℕ) → p < length ks → Same (labels (word ks p)) (map v (in_left ls rs ds p) ++ left_rest p)
  pub in_right_lem : (q : ℕ) → q < length qs → Same (labels (word qs q)) (map v (in_right ls rs ds q) ++ right_rest q)
  -- "The rests of the left labels together equal the rests of the right labels together"
  pub balance : Same (flatten (tabulate (length ks) left_rest)) (flatten (tabulate (length qs) right_rest))
  -- "where the other side has no labels the rests are empty": these two follow from the other clauses (`filled`)
  pub no_right : qs ≡ [] → (p : ℕ) → p < length ks → left_rest p ≡ []
  pub no_left : ks ≡ [] → (q : ℕ) → q < length qs → right_rest q ≡ []

-- The labels of a half do.
abbrev pub HalfFilled : Half → List ℕ → (ℕ → Term) → (ℕ → List Term) → Type 0
HalfFilled h ds v labels = Filled h.left h.left_labels h.right h.right_labels ds v labels

-- "An assignment is an instance of an entry if [..]"
pub record Instance (p : Problem) (A : Assignment) (e : List ℕ) : Type 0 where
  -- "An entry's unifier is read from its binding words"
  pub unifier : Substitution
  pub read : Reads p.nodes (bindings_of p e) unifier
  -- "some substitution after the entry's unifier gives its variables"
  pub after : Substitution
  pub variables : (x : ℕ) → Present p.nodes x → A.variables x ≡ sub after (unifier x)
  -- "and its labels are the terms put there, under the unifier and then that substitution, with such rests added", in each half with its digits
  pub labels : (h : Half) (ds : List ℕ) → Share p (digits_of p e) h ds → HalfFilled h ds (λ a. sub after (value p.nodes unifier a)) A.labels
