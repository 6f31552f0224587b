-- The nodes of a circle that get a head one after the other all get it. Assumes nothing.
use Prim.Native.Nat.{ℕ, ◌<◌}
use mathlib.Core.List.{List}
use mathlib.Core.Logic.{◌⊎◌, inl, inr}
use mathlib.Core.Path.{◌≡◌, refl, ap, ◌∙◌}
use native.Mathlib.Decide.{ℕ_discrete}
use lib.ListN.{length, set, length-set}
use lib.Seq.{get_or-set_same, get_or-set_other}
use Rattle.table.specs.Layout.{word}
use Rattle.unification.specs.Computed.Classes.{class_of}
use Rattle.nodes.specs.Code.Circle.{Follows, here, onward}
use Rattle.nodes.specs.Code.Uniting.{Circling, Relabels}
use Rattle.nodes.proofs.CircleLaws.{follows_on, follows_still}

-- From node i, the next ones come to node k before they come to node g.
pub data Ahead (next : List ℕ) (g : ℕ) : ℕ → ℕ → Type 0 where
  this : {i : ℕ} → (i ≡ g → ⊥) → Ahead next g i i
  later : {i k : ℕ} → (i ≡ g → ⊥) → Ahead next g (word next i) k → Ahead next g i k

-- Heads ds come of `heads` when the circle of node g is gone around up to node i, and those passed get head h.
pub record Passing (next : List ℕ) (g h : ℕ) (heads : List ℕ) (i : ℕ) (ds : List ℕ) : Type 0 where
  pub circling : Circling (length heads) next g
  pub long : length ds ≡ length heads
  pub inside : i < length heads
  pub back : Follows next i g
  pub circle : Follows next g i
  pub others : (k : ℕ) → (Follows next g k → ⊥) → class_of ds k ≡ class_of heads k
  pub passed : (k : ℕ) → Follows next g k → (class_of ds k ≡ h) ⊎ Ahead next g i k

module _ (next : List ℕ) (g : ℕ) where
  -- none is ahead of g
  none_ahead : {i k : ℕ} → Ahead next g i k → i ≡ g → ⊥
  none_ahead (this d) = d
  none_ahead (later d a) = d

  -- the node after one that is ahead is g, or is ahead
  ahead_next : {i k : ℕ} → Ahead next g i k → (word next k ≡ g) ⊎ Ahead next g i (word next k)
  ahead_next (this {i} d) = go (ℕ_discrete (word next i) g)
    where
      go : Dec (word next i ≡ g) → (word next i ≡ g) ⊎ Ahead next g i (word next i)
      go (yes z) = inl z
      go (no z) = inr (later d (this z))
  ahead_next (later {i} {k} d a) = go (ahead_next a)
    where
      go : (word next k ≡ g) ⊎ Ahead next g (word next i) (word next k) → (word next k ≡ g) ⊎ Ahead next g i (word next k)
      go (inl z) = inl z
      go (inr b) = inr (later d b)

  -- what follows on g is g, or is ahead of the node after g
  ahead_all : {x k : ℕ} → Follows next x k → (x ≡ g) ⊎ Ahead next g (word next g) x → (k ≡ g) ⊎ Ahead next g (word next g) k
  ahead_all here r = r
  ahead_all (onward {i = x} f) r = ahead_all f (go r (ℕ_discrete (word next g) g))
    where
      go : (x ≡ g) ⊎ Ahead next g (word next g) x → Dec (word next g ≡ g) → (word next x ≡ g) ⊎ Ahead next g (word next g) (word next x)
      go (inl z) (yes e) = inl (ap (word next) z ∙ e)
      go (inl z) (no e) = inr (rw z (this e))
      go (inr a) e = ahead_next a

  module _ (h : ℕ) (heads : List ℕ) where
    -- at first g is passed
    pub passing_begun : (i : ℕ) → Circling (length heads) next g → i ≡ word next g → Passing next g h (set heads g h) i (set heads g h)
    passing_begun i c e =
        record {
          circling = rw (length-set heads g h) c;
          long = refl;
          inside = rw (length-set heads g h, e) (c.below g c.inside);
          back = rw e c.back;
          circle = rw e (onward {i = g} here);
          others = λ k d. refl;
          passed = λ k f. rw e (go k (ahead_all f (inl refl)));
        }
      where
        go : (k : ℕ) → (k ≡ g) ⊎ Ahead next g (word next g) k → (class_of (set heads g h) k ≡ h) ⊎ Ahead next g (word next g) k
        go k (inl z) = inl (rw z (get_or-set_same heads g h 0 c.inside))
        go k (inr a) = inr a

    module _ (i : ℕ) (ds : List ℕ) where
      -- one node more
      pub passing_next : Passing next g h heads i ds → (i ≡ g → ⊥) → Passing next g h heads (word next i) (set ds i h)
      passing_next p d =
          record {
            circling = p.circling;
            long = length-set ds i h ∙ p.long;
            inside = p.circling.below i p.inside;
            back = follows_still p.back d;
            circle = follows_on p.circle (onward {i = i} here);
            others = λ k e. get_or-set_other ds i k h 0 (λ z. e (rw z p.circle)) ∙ p.others k e;
            passed = λ k f. go k (ℕ_discrete k i) (p.passed k f);
          }
        where
          go : (k : ℕ) → Dec (k ≡ i) → (class_of ds k ≡ h) ⊎ Ahead next g i k → (class_of (set ds i h) k ≡ h) ⊎ Ahead next g (word next i) k
          go k (yes z) r = inl (rw z (get_or-set_same ds i h 0 (rw p.long p.inside)))
          go k (no z) (inl e) = inl (get_or-set_other ds i k h 0 z ∙ e)
          go k (no z) (inr (this e)) = absurd (z refl)
          go k (no z) (inr (later e a)) = inr a

      -- back at g all are passed
      pub passing_end : Passing next g h (set heads g h) i ds → i ≡ g → Relabels next g h heads ds
      passing_end p e =
          record {
            size = p.long ∙ length-set heads g h;
            circle = λ k f. go k (p.passed k f);
            others = λ k d. p.others k d ∙ get_or-set_other heads g k h 0 (λ z. d (rw z here));
          }
        where
          go : (k : ℕ) → (class_of ds k ≡ h) ⊎ Ahead next g i k → class_of ds k ≡ h
          go k (inl z) = z
          go k (inr a) = absurd (none_ahead a e)
