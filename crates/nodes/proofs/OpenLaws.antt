-- What the test for a closed application tells, and which of two heads can be one. Assumes nothing.
use Prim.Native.Nat.{ℕ, ◌<◌, ◌≤◌}
use mathlib.Core.Bool.{true, false, not, false≢true}
use mathlib.Core.List.{List}
use mathlib.Core.Logic.{◌⊎◌, inl, inr}
use mathlib.Core.Path.{◌≡◌, sym, ◌∙◌}
use native.Mathlib.Decide.{ℕ_discrete}
use native.Mathlib.Omega.{arith}
use borrow.Author.Tests.{eqb-true, eqb-false, eq-eqb, ne_eqb, not-true}
use lib.Dec.{eqb}
use Rattle.table.specs.Layout.{word, kind_of, count_of, node_count}
use Rattle.table.proofs.BoolLaws.{and_true_left, and_true_right}
use Rattle.nodes.specs.Code.Open.{IsClosed, closed_test, Counts, ClosedHeads, KeepsClosed}
use Rattle.nodes.specs.Code.Uniting.{strength_of}

module _ (nodes counts : List ℕ) (i : ℕ) where
  -- the test tells that the node is one
  pub closed_true : i < node_count nodes → closed_test nodes counts i ≡ true → IsClosed nodes counts i
  unfolding closed_test
  closed_true h e =
      record {
        node = h;
        applied = eqb-false (kind_of nodes i) 0 (not-true _ (and_true_left (not (eqb (kind_of nodes i) 0)) (eqb (word counts i) 0) e));
        none = eqb-true (word counts i) 0 (and_true_right (not (eqb (kind_of nodes i) 0)) (eqb (word counts i) 0) e);
      }

  -- a closed application passes it
  pub closed_test_lem : IsClosed nodes counts i → closed_test nodes counts i ≡ true
  unfolding closed_test
  closed_test_lem m = rw (ne_eqb (kind_of nodes i) 0 m.applied, eq-eqb (word counts i) 0 m.none)

  -- so a node that does not is none
  pub closed_false : closed_test nodes counts i ≡ false → IsClosed nodes counts i → ⊥
  closed_false e m = false≢true (sym e ∙ closed_test_lem m)

  -- a variable has no strength
  pub strength_variable : kind_of nodes i ≡ 0 → strength_of nodes counts i ≡ 0
  unfolding strength_of
  strength_variable e = rw (eq-eqb (kind_of nodes i) 0 e)

  -- an application whose arguments are looked at has some
  pub strength_open : (kind_of nodes i ≡ 0 → ⊥) → (word counts i ≡ 0 → ⊥) → strength_of nodes counts i ≡ 1
  unfolding strength_of
  strength_open k d = rw (ne_eqb (kind_of nodes i) 0 k, ne_eqb (word counts i) 0 d)

  -- a closed application has most
  pub strength_closed : (kind_of nodes i ≡ 0 → ⊥) → word counts i ≡ 0 → strength_of nodes counts i ≡ 2
  unfolding strength_of
  strength_closed k e = rw (ne_eqb (kind_of nodes i) 0 k, eq-eqb (word counts i) 0 e)

  -- any application has some
  pub strength_some : (kind_of nodes i ≡ 0 → ⊥) → 1 ≤ strength_of nodes counts i
  strength_some k = go (ℕ_discrete (word counts i) 0)
    where
      go : Dec (word counts i ≡ 0) → 1 ≤ strength_of nodes counts i
      go (yes e) = let r = strength_closed k e in omega (arith, r)
      go (no d) = let r = strength_open k d in omega (arith, r)

-- an argument that is looked at is one
pub looked_at : {nodes arguments counts : List ℕ} → Counts nodes arguments counts (node_count nodes) → (i j : ℕ) → i < node_count nodes →
    j < word counts i → j < count_of nodes i
looked_at {nodes} {arguments} {counts} k i j b l = go (k.some i b)
  where
    go : (word counts i ≡ 0) ⊎ (word counts i ≡ count_of nodes i) → j < count_of nodes i
    go (inl e) = absurd (omega (arith, e, l))
    go (inr e) = omega (arith, e, l)

-- where a variable stays, a variable goes
pub weaker_variable : (nodes counts : List ℕ) (g h : ℕ) → strength_of nodes counts g ≤ strength_of nodes counts h → kind_of nodes h ≡ 0 →
    kind_of nodes g ≡ 0
weaker_variable nodes counts g h l e = go (ℕ_discrete (kind_of nodes g) 0)
  where
    go : Dec (kind_of nodes g ≡ 0) → kind_of nodes g ≡ 0
    go (yes z) = z
    go (no z) =
        let x = strength_some nodes counts g z in
        let y = strength_variable nodes counts h e in
        absurd (omega (arith, l, x, y))

-- where a closed application goes, another stays
pub weaker_closed : (nodes counts : List ℕ) (g h : ℕ) → h < node_count nodes → strength_of nodes counts g ≤ strength_of nodes counts h →
    IsClosed nodes counts g → IsClosed nodes counts h
weaker_closed nodes counts g h p l m =
    let x = strength_closed nodes counts g m.applied m.none in
    go x (ℕ_discrete (kind_of nodes h) 0) (ℕ_discrete (word counts h) 0)
  where
    go : strength_of nodes counts g ≡ 2 → Dec (kind_of nodes h ≡ 0) → Dec (word counts h ≡ 0) → IsClosed nodes counts h
    go x (yes k) d = let y = strength_variable nodes counts h k in absurd (omega (arith, l, x, y))
    go x (no k) (yes d) = record { node = p; applied = k; none = d }
    go x (no k) (no d) = let y = strength_open nodes counts h k d in absurd (omega (arith, l, x, y))

-- closed applications that keep their heads have closed heads
pub closed_kept : (nodes arguments counts heads heads' : List ℕ) → ClosedHeads nodes arguments counts heads →
    KeepsClosed nodes counts heads heads' → ClosedHeads nodes arguments counts heads'
closed_kept nodes arguments counts heads heads' c k =
    record {
      closed = λ i m. rw (k i m) (c.closed i m);
      least = λ i m. rw (k i m) (c.least i m);
      valued = λ i m. rw (k i m) (c.valued i m);
      shared = λ i j m n e. k i m ∙ c.shared i j m n e ∙ sym (k j n);
    }
