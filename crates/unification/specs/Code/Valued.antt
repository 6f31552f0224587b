-- Names for the values of nodes, so that values are compared and words are found with no term spelt out.
use Rattle.std.specs.Prelude.{ℕ, ◌<◌, ◌≡◌, length}
use mathlib.Core.List.{List, Memᴰ, zip}
use Rattle.unification.specs.Node.{Node, variable, application, node_at}
use Rattle.unification.specs.Closure.{OneSymbol}
use Rattle.unification.specs.Words.{Least}

-- The arguments have the same names, position by position.
abbrev pub SameNames : (ℕ → ℕ) → List ℕ → List ℕ → Type 0
SameNames name us vs = (a b : ℕ) → Memᴰ (a, b) (zip us vs) → name a ≡ name b

-- Names of nodes that stand for their values.
pub record Valued (ns : List Node) (head name : ℕ → ℕ) : Type 0 where
  -- one head, one name
  pub one_head : (i j : ℕ) → i < length ns → j < length ns → head i ≡ head j → name i ≡ name j
  -- variables that are heads have a name each
  pub variables : (i j x y : ℕ) → i < length ns → j < length ns → node_at ns (head i) ≡ variable x → node_at ns (head j) ≡ variable y → name i ≡ name j → x ≡ y
  -- which is no application's
  pub apart : (i j x f : ℕ) (us : List ℕ) → i < length ns → j < length ns → node_at ns (head i) ≡ variable x → node_at ns (head j) ≡ application f us → name i ≡ name j → ⊥
  -- applications have one name if they have one symbol and their arguments have the same names, and only then
  pub composed : (i j f g : ℕ) (us vs : List ℕ) → i < length ns → j < length ns → node_at ns (head i) ≡ application f us → node_at ns (head j) ≡ application g vs → OneSymbol f us g vs → SameNames name us vs → name i ≡ name j
  pub taken_apart : (i j f g : ℕ) (us vs : List ℕ) → i < length ns → j < length ns → node_at ns (head i) ≡ application f us → node_at ns (head j) ≡ application g vs → name i ≡ name j → OneSymbol f us g vs × SameNames name us vs

-- Node j is an application named n.
abbrev pub NamedApplication : List Node → (ℕ → ℕ) → ℕ → ℕ → Type 0
NamedApplication ns name n j = (f : ℕ) × (us : List ℕ) × (j < length ns) × (node_at ns j ≡ application f us) × (name j ≡ n)

-- A node of variable y is named n.
abbrev pub NamedVariable : List Node → (ℕ → ℕ) → ℕ → ℕ → Type 0
NamedVariable ns name n y = (j : ℕ) × (j < length ns) × (node_at ns j ≡ variable y) × (name j ≡ n)

-- The word of variable x, found by names.
pub data IsNamed (ns : List Node) (head name : ℕ → ℕ) (x : ℕ) : ℕ → Type 0 where
  bound : {i f w : ℕ} {us : List ℕ} → i < length ns → node_at ns i ≡ variable x → node_at ns (head i) ≡ application f us → Least (NamedApplication ns name (name i)) w → IsNamed ns head name x w
  free : {i z y w : ℕ} → i < length ns → node_at ns i ≡ variable x → node_at ns (head i) ≡ variable z → Least (NamedVariable ns name (name i)) y → Least (λ j. (j < length ns) × (node_at ns j ≡ variable y)) w → IsNamed ns head name x w
