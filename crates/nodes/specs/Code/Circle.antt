-- The members of each class in a circle: each node has the next one.
use Rattle.std.specs.Prelude.{ℕ, ◌<◌, ◌≤◌, List, ◌≡◌, length}
use Rattle.table.specs.Limits.{max_nodes}
use Rattle.table.specs.Layout.{word}
use Rattle.unification.specs.Computed.Classes.{class_of}

-- From node i, the next ones come to node j.
pub data Follows (next : List ℕ) : ℕ → ℕ → Type 0 where
  here : {i : ℕ} → Follows next i i
  onward : {i j : ℕ} → Follows next (word next i) j → Follows next i j

-- The next of each of n nodes is of its class, and every node of its class follows.
pub record Circles (n : ℕ) (heads next : List ℕ) : Type 0 where
  pub size : n ≤ length next
  pub below : (i : ℕ) → i < n → word next i < n
  pub same : (i : ℕ) → i < n → class_of heads (word next i) ≡ class_of heads i
  pub around : (i j : ℕ) → i < n → j < n → class_of heads i ≡ class_of heads j → Follows next i j

-- Each of n nodes has a head that is not after it and is its own.
pub record HeadsFirst (n : ℕ) (heads : List ℕ) : Type 0 where
  pub first : (i : ℕ) → i < n → class_of heads i ≤ i
  pub own : (i : ℕ) → i < n → class_of heads (class_of heads i) ≡ class_of heads i

-- The nodes before node i are in circles, and nothing stands behind those of all nodes.
pub record CirclesBefore (heads next : List ℕ) (i : ℕ) : Type 0 where
  pub size : length next ≡ 512
  pub below : (k : ℕ) → k < i → word next k < i
  pub same : (k : ℕ) → k < i → class_of heads (word next k) ≡ class_of heads k
  pub around : (j k : ℕ) → j < i → k < i → class_of heads j ≡ class_of heads k → Follows next j k
  pub clear : (k : ℕ) → max_nodes ≤ k → word next k ≡ 0
