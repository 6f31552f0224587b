-- "The unifier is given as one word for each variable present in the nodes section, in rising order of variable number."
use Rattle.std.specs.Prelude.{ℕ, ◌<◌, ◌≤◌, ◌↔◌, ◌≡◌, length}
use mathlib.Core.List.{List, [], ◌∷◌, Memᴰ}
use Rattle.terms.specs.Term.{Term, var, app, Terms}
use Rattle.terms.specs.Substitution.{Substitution}
use Rattle.unification.specs.Node.{Node, variable, application, node_at, Present}
use Rattle.unification.specs.Unifier.{value}
use Rattle.unification.specs.Computed.Variables.{variables_of}

-- "in rising order": each element is below all that come after it.
pub data Rising {A : Type 0} (Below : A → A → Type 0) : List A → Type 0 where
  end : Rising Below []
  before : {x : A} {xs : List A} → ((y : A) → Memᴰ y xs → Below x y) → Rising Below xs → Rising Below (x ∷ xs)

-- "each variable present in the nodes section, in rising order of variable number"
pub record AreVariables (ns : List Node) (xs : List ℕ) : Type 0 where
  pub rising : Rising ◌<◌ xs
  pub present : (x : ℕ) → Memᴰ x xs ↔ Present ns x

-- The least number with a property.
pub record Least (P : ℕ → Type 0) (n : ℕ) : Type 0 where
  pub holds : P n
  pub least : (m : ℕ) → P m → n ≤ m

-- Node i is an application with the value t.
abbrev pub BoundTo : List Node → Substitution → Term → ℕ → Type 0
BoundTo ns σ t i = (f : ℕ) × (us : List ℕ) × (i < length ns) × (node_at ns i ≡ application f us) × (value ns σ i ≡ t)

-- The word of variable x under the unifier σ.
pub data IsWord (ns : List Node) (σ : Substitution) (x : ℕ) : ℕ → Type 0 where
  -- "Where the variable's value is an application, the word is the least number of an application node whose value under the unifier is the same."
  bound : {f w : ℕ} {ts : Terms} → σ x ≡ app f ts → Least (BoundTo ns σ (σ x)) w → IsWord ns σ x w
  -- "Otherwise the word is the least node of the lowest-numbered variable that has the same value."
  free : {z y w : ℕ} → σ x ≡ var z → Least (λ u. Present ns u × (σ u ≡ σ x)) y → Least (λ i. (i < length ns) × (node_at ns i ≡ variable y)) w → IsWord ns σ x w

-- How a word is read: the value of variable x by its word w.
pub data IsRead (ns : List Node) (σ : Substitution) (x w : ℕ) : Type 0 where
  -- "a variable whose word is a variable node has that node's variable as its value"
  of_variable : {y : ℕ} → w < length ns → node_at ns w ≡ variable y → σ x ≡ var y → IsRead ns σ x w
  -- "one whose word is an application node has that node's term, with the variables in it replaced by their values in turn"
  of_application : {f : ℕ} {us : List ℕ} → w < length ns → node_at ns w ≡ application f us → σ x ≡ value ns σ w → IsRead ns σ x w

-- "one word for each variable": the relation holds of the numbers at one position.
pub data Matched (R : ℕ → ℕ → Type 0) : List ℕ → List ℕ → Type 0 where
  none : Matched R [] []
  next : {x w : ℕ} {xs ws : List ℕ} → R x w → Matched R xs ws → Matched R (x ∷ xs) (w ∷ ws)

-- The binding words of a unifier.
abbrev pub AreWords : List Node → Substitution → List ℕ → Type 0
AreWords ns σ ws = Matched (IsWord ns σ) (variables_of ns) ws

-- The substitution is read from the binding words.
abbrev pub Reads : List Node → List ℕ → Substitution → Type 0
Reads ns ws σ = Matched (IsRead ns σ) (variables_of ns) ws
