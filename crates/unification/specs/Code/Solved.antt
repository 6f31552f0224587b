-- Solved forms of a list of pairs: what the code finds.
use Rattle.std.specs.Prelude.{ℕ, ◌<◌, ◌≡◌, length}
use mathlib.Core.List.{List, Memᴰ, zip}
use Rattle.unification.specs.Node.{Node, variable, application, node_at}
use Rattle.unification.specs.Closure.{Joined}

-- Node i has a head with its symbol, and its arguments have the heads of the head's arguments.
pub record HeadFits (ns : List Node) (head : ℕ → ℕ) (i f : ℕ) (us : List ℕ) : Type 0 where
  pub arguments : List ℕ
  pub applied : node_at ns (head i) ≡ application f arguments
  pub as_long : length us ≡ length arguments
  pub one_head : (a b : ℕ) → Memᴰ (a, b) (zip us arguments) → head a ≡ head b

-- Heads that stand for the classes of the closure, where there is no clash.
pub record IsClosure (ns : List Node) (ps : List (ℕ × ℕ)) (head : ℕ → ℕ) : Type 0 where
  -- a head is joined with its node
  pub joined : (i : ℕ) → i < length ns → Joined ns ps i (head i)
  -- what the closure joins has one head
  pub given : (a b : ℕ) → Memᴰ (a, b) ps → head a ≡ head b
  pub one_variable : (i j x : ℕ) → i < length ns → j < length ns → node_at ns i ≡ variable x → node_at ns j ≡ variable x → head i ≡ head j
  pub applications : (i f : ℕ) (us : List ℕ) → i < length ns → node_at ns i ≡ application f us → HeadFits ns head i f us

-- A solved form: such heads, and an order in which the arguments of a head come before it.
pub record Solved (ns : List Node) (ps : List (ℕ × ℕ)) (head order : ℕ → ℕ) : Type 0 where
  pub closure : IsClosure ns ps head
  pub falls : (i f : ℕ) (us : List ℕ) → i < length ns → node_at ns (head i) ≡ application f us → (a : ℕ) → Memᴰ a us → order (head a) < order (head i)
