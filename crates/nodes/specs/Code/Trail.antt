-- Joins that can be undone: behind the circles stands how many heads have gone, and behind that which ones, in their order.
use Rattle.std.specs.Prelude.{ℕ, suc, ◌+◌, ◌<◌, ◌≤◌, List, map, ◌≡◌, length, set}
use Rattle.table.specs.Limits.{max_nodes}
use Rattle.table.specs.Layout.{word}
use Rattle.unification.specs.Computed.Classes.{renamed}
use Rattle.unification.specs.Code.Heads.{roots}
use Rattle.nodes.specs.Code.Circle.{Circles}
use Rattle.nodes.specs.Code.Uniting.{strength_of, TwoHeads, exchanged}

-- How many words the circles have, with what stands behind them.
abbrev pub links : ℕ
links = 512

-- How many heads have gone.
abbrev pub gone : List ℕ → ℕ
gone next = word next 256

-- Head g has gone as well.
unfoldable pub noted_gone : List ℕ → ℕ → List ℕ
noted_gone next g = set (set next 256 (suc (gone next))) (256 + suc (gone next)) g

-- The members of each class stand in a circle, there is room to note each head that can still go, and nothing stands behind those noted.
pub record Trailed (n : ℕ) (heads next : List ℕ) : Type 0 where
  pub circles : Circles n heads next
  pub few : n ≤ max_nodes
  pub size : length next ≡ links
  pub room : gone next + roots n heads ≤ 256
  pub clear : (k : ℕ) → 256 + gone next < k → word next k ≡ 0

-- The class of head g has become a part of that of head h, and g is noted.
pub record Merged (n : ℕ) (heads next : List ℕ) (g h : ℕ) (heads' next' : List ℕ) : Type 0 where
  pub two : TwoHeads n heads next g h
  pub trailed : Trailed n heads next
  pub renames : heads' ≡ map (renamed g h) heads
  pub linked : next' ≡ noted_gone (exchanged next g h) g

-- The same where h is as strong.
pub record Goes (nodes counts heads next : List ℕ) (g h : ℕ) (heads' next' : List ℕ) : Type 0 where
  pub merged : Merged (length heads) heads next g h heads' next'
  pub weaker : strength_of nodes counts g ≤ strength_of nodes counts h

-- One class has become a part of another.
abbrev pub OneMerged : ℕ → List ℕ → List ℕ → List ℕ → List ℕ → Type 0
OneMerged n heads next heads' next' = (g : ℕ) × (h : ℕ) × Merged n heads next g h heads' next'

-- One after the other has.
pub data Merges (n : ℕ) (heads next : List ℕ) : List ℕ → List ℕ → Type 0 where
  none : Merges n heads next heads next
  more : {heads₁ next₁ heads₂ next₂ : List ℕ} → Merges n heads next heads₁ next₁ → OneMerged n heads₁ next₁ heads₂ next₂ →
      Merges n heads next heads₂ next₂

-- Classes before the last head went.
pub record Last (n : ℕ) (heads' next' : List ℕ) : Type 0 where
  pub heads : List ℕ
  pub next : List ℕ
  pub merged : OneMerged n heads next heads' next'

-- Classes from which others come, when only so many heads had gone.
pub record ComesFrom (n mark : ℕ) (heads next heads' next' : List ℕ) : Type 0 where
  pub merges : Merges n heads next heads' next'
  pub marked : gone next ≡ mark

-- There are such classes.
pub record Since (n mark : ℕ) (heads' next' : List ℕ) : Type 0 where
  pub heads : List ℕ
  pub next : List ℕ
  pub before : ComesFrom n mark heads next heads' next'
