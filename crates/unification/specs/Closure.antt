-- "Failure is defined through a closure"
use Rattle.std.specs.Prelude.{ℕ, ◌<◌, ◌≡◌, length}
use mathlib.Core.List.{List, Memᴰ, zip}
use Rattle.unification.specs.Node.{Node, variable, application, node_at}

-- "Name and count together are its symbol": f applied to us and g applied to vs have one symbol.
abbrev pub OneSymbol : ℕ → List ℕ → ℕ → List ℕ → Type 0
OneSymbol f us g vs = (f ≡ g) × (length us ≡ length vs)

-- "the smallest equivalence on nodes that [..]"
pub data Joined (ns : List Node) (ps : List (ℕ × ℕ)) : ℕ → ℕ → Type 0 where
  -- "joins the two given nodes": here those of each given pair
  given : {a b : ℕ} → Memᴰ (a, b) ps → Joined ns ps a b
  -- "joins nodes of one variable"
  one_variable : {i j x : ℕ} → i < length ns → j < length ns → node_at ns i ≡ variable x → node_at ns j ≡ variable x → Joined ns ps i j
  -- "joins, position by position, the arguments of joined applications with one symbol"
  arguments : {i j f g a b : ℕ} {us vs : List ℕ} → node_at ns i ≡ application f us → node_at ns j ≡ application g vs → OneSymbol f us g vs → Joined ns ps i j → Memᴰ (a, b) (zip us vs) → Joined ns ps a b
  -- an equivalence
  same : {i : ℕ} → i < length ns → Joined ns ps i i
  back : {i j : ℕ} → Joined ns ps i j → Joined ns ps j i
  on : {i j k : ℕ} → Joined ns ps i j → Joined ns ps j k → Joined ns ps i k

-- "Clash: two applications of different symbols are joined."
pub data Clash (ns : List Node) (ps : List (ℕ × ℕ)) : Type 0 where
  different : {i j f g : ℕ} {us vs : List ℕ} → Joined ns ps i j → node_at ns i ≡ application f us → node_at ns j ≡ application g vs → (OneSymbol f us g vs → ⊥) → Clash ns ps

-- The class of i reaches the class of j through arguments, in one step or in more.
pub data Reaches (ns : List Node) (ps : List (ℕ × ℕ)) : ℕ → ℕ → Type 0 where
  step : {i j k f a : ℕ} {us : List ℕ} → Joined ns ps i j → node_at ns j ≡ application f us → Memᴰ a us → Joined ns ps a k → Reaches ns ps i k
  steps : {i j k : ℕ} → Reaches ns ps i j → Reaches ns ps j k → Reaches ns ps i k

-- "Occurs: there is no clash, and some class reaches itself through arguments."
pub record Occurs (ns : List Node) (ps : List (ℕ × ℕ)) : Type 0 where
  pub no_clash : Clash ns ps → ⊥
  pub class : ℕ
  pub itself : Reaches ns ps class class
