-- The binding words of a unifier (`words_computed`).
use Rattle.std.specs.Prelude.{ℕ, Bool, ◌&&◌, List, map}
use Rattle.terms.specs.Term.{Term, var, app, equal}
use Rattle.terms.specs.Substitution.{Substitution}
use Rattle.unification.specs.Node.{Node, node_at}
use Rattle.unification.specs.Unifier.{value}
use Rattle.unification.specs.Computed.Variables.{variables_of}
use Rattle.unification.specs.Computed.Solution.{first_with, least_node, is_application, node_of}

-- Node i is an application with the value t.
unfoldable pub is_bound_to : List Node → Substitution → Term → ℕ → Bool
is_bound_to ns σ t i = is_application (node_at ns i) && equal (value ns σ i) t

-- Variable y has the value t.
unfoldable pub has_value : Substitution → Term → ℕ → Bool
has_value σ t y = equal (σ y) t

-- The word of a variable whose value is t.
unfoldable pub word_for : List Node → Substitution → Term → ℕ
word_for ns σ (var z) = node_of ns (first_with (has_value σ (var z)) 0 (variables_of ns))
word_for ns σ (app f ts) = least_node ns (is_bound_to ns σ (app f ts))

-- The word of variable x.
unfoldable pub word_of : List Node → Substitution → ℕ → ℕ
word_of ns σ x = word_for ns σ (σ x)

-- One word for each variable present.
unfoldable pub binding_words : List Node → Substitution → List ℕ
binding_words ns σ = map (word_of ns σ) (variables_of ns)
