-- Classes as the code keeps them, and those that stand for a list of pairs.
use Rattle.std.specs.Prelude.{ℕ, ◌<◌, List, ◌≡◌}
use Rattle.table.specs.Layout.{word, kind_of, name_of, count_of, node_count}
use Rattle.unification.specs.Computed.Classes.{class_of}
use Rattle.unification.specs.Code.Given.{Inside}
use Rattle.unification.specs.Node.{nodes_from}
use Rattle.unification.specs.Code.Heads.{Partition}
use Rattle.unification.specs.Code.Solved.{IsClosure}
use Rattle.nodes.specs.Code.Open.{ClosedHeads}
use Rattle.nodes.specs.Code.Order.{Ordered}

-- Node i is a constant.
pub record IsConstant (nodes : List ℕ) (i : ℕ) : Type 0 where
  pub node : i < node_count nodes
  pub applied : kind_of nodes i ≡ 0 → ⊥
  pub bare : count_of nodes i ≡ 0

-- Constants of one name have one head.
abbrev pub OneConstant : List ℕ → List ℕ → Type 0
OneConstant nodes heads = (i j : ℕ) → IsConstant nodes i → IsConstant nodes j → name_of nodes i ≡ name_of nodes j → class_of heads i ≡ class_of heads j

-- Heads of classes of nodes: constants of one name have one, closed applications keep theirs, and those with arguments that are looked at
-- can be put in order.
pub record Formed (nodes arguments counts heads : List ℕ) : Type 0 where
  pub partition : Partition (node_count nodes) heads
  pub constants : OneConstant nodes heads
  pub closed : ClosedHeads nodes arguments counts heads
  pub order : List ℕ
  pub ordered : Ordered nodes arguments (word counts) heads order

-- They are the classes of a list of pairs.
pub record Stands (nodes arguments heads : List ℕ) (ps : List (ℕ × ℕ)) : Type 0 where
  pub inside : Inside (nodes_from nodes arguments) ps
  pub closure : IsClosure (nodes_from nodes arguments) ps (class_of heads)
