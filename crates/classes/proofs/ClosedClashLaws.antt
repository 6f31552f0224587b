-- Closed applications that are joined are of one term, or there is a clash. By induction: their arguments are joined in pairs.
-- Assumes nothing.
use Prim.Native.Nat.{ℕ, zero, suc, ◌<◌}
use mathlib.Core.Bool.{Bool, true, false}
use mathlib.Core.List.{List, Memᴰ, zip}
use mathlib.Core.Logic.{◌⊎◌, inl, inr}
use mathlib.Core.Path.{◌≡◌, refl, sym, ap, ◌∙◌}
use native.Mathlib.Decide.{ℕ_discrete}
use native.Mathlib.Omega.{arith}
use lib.ListN.{length}
use Rattle.table.specs.Layout.{name_of, count_of, node_count, argument_of}
use Rattle.terms.specs.Term.{var, app}
use Rattle.unification.specs.Node.{Node, application, node_at, each, nodes_from}
use Rattle.unification.specs.Unifier.{value}
use Rattle.unification.specs.Closure.{Joined, arguments as by-arguments, Clash, different}
use Rattle.unification.specs.Code.Sections.{Sections, symbol_test}
use Rattle.unification.proofs.NodeLaws.{each_equal, value_application}
use Rattle.unification.proofs.SectionLaws.{run, run_long, is_node, application_from, symbol_test_lem, symbols_differ, pair_place, sections_well_formed}
use Rattle.nodes.specs.Code.Open.{IsClosed, Counts}

-- Nodes i and j are of one term.
abbrev pub SameTerm : List ℕ → List ℕ → ℕ → ℕ → Type 0
SameTerm nodes arguments i j = value (nodes_from nodes arguments) var i ≡ value (nodes_from nodes arguments) var j

module _ (nodes arguments counts : List ℕ) (s : Sections nodes arguments) (r : Counts nodes arguments counts (node_count nodes))
    (ps : List (ℕ × ℕ)) where
  -- The nodes.
  abbrev ns : List Node
  ns = nodes_from nodes arguments

  module _ (i j : ℕ) (m : IsClosed nodes counts i) (n : IsClosed nodes counts j) (q : Joined ns ps i j) where
    -- the first is an application
    first_node : node_at ns i ≡ application (name_of nodes i) (run nodes arguments i)
    first_node = application_from nodes arguments i m.node m.applied

    -- so is the second
    second_node : node_at ns j ≡ application (name_of nodes j) (run nodes arguments j)
    second_node = application_from nodes arguments j n.node n.applied

    -- of different symbols they clash
    apart : symbol_test nodes i j ≡ false → Clash ns ps
    apart e = different q first_node second_node (symbols_differ nodes arguments s i j m.node n.node e)

    module _ (names : name_of nodes i ≡ name_of nodes j) (as_many : count_of nodes i ≡ count_of nodes j) where
      -- they have as many arguments
      long : length (run nodes arguments i) ≡ length (run nodes arguments j)
      long = run_long nodes arguments s i m.node ∙ as_many ∙ sym (run_long nodes arguments s j n.node)

      -- arguments at one place are joined
      paired : (k : ℕ) → k < count_of nodes i → Joined ns ps (argument_of nodes arguments i k) (argument_of nodes arguments j k)
      paired k l =
          by-arguments first_node second_node (names, long) q
          ((pair_place nodes arguments s i j m.node n.node (argument_of nodes arguments i k) (argument_of nodes arguments j k)).1
          (k, l, rw (← as_many) l, refl, refl))

      -- with arguments of one term each they are of one term
      made : ((k : ℕ) → k < count_of nodes i → SameTerm nodes arguments (argument_of nodes arguments i k) (argument_of nodes arguments j k)) →
          SameTerm nodes arguments i j
      made f =
          let w = sections_well_formed nodes arguments s in
          value_application ns w var i (name_of nodes i) (run nodes arguments i) (is_node nodes arguments i m.node) first_node
          ∙ ap (λ (x : ℕ). app x (each (value ns var) (run nodes arguments i))) names
          ∙ ap (app (name_of nodes j)) (each_equal (value ns var) (value ns var) (run nodes arguments i) (run nodes arguments j) long pairs)
          ∙ sym (value_application ns w var j (name_of nodes j) (run nodes arguments j) (is_node nodes arguments j n.node) second_node)
        where
          pairs : (a b : ℕ) → Memᴰ (a, b) (zip (run nodes arguments i) (run nodes arguments j)) → SameTerm nodes arguments a b
          pairs a b k = let p = (pair_place nodes arguments s i j m.node n.node a b).0 k in ap (value ns var) p.3 ∙ f p.0 p.1 ∙
              sym (ap (value ns var) p.4)

      -- the first k pairs of arguments are of one term each, or some clash
      firsts :
          ((a b : ℕ) → a < i → IsClosed nodes counts a → IsClosed nodes counts b → Joined ns ps a b → Clash ns ps ⊎ SameTerm nodes arguments a b) →
          (k : ℕ) → ((p : ℕ) → p < k → p < count_of nodes i) →
          Clash ns ps ⊎ ((p : ℕ) → p < k → SameTerm nodes arguments (argument_of nodes arguments i p) (argument_of nodes arguments j p))
      firsts f zero h = inr (λ p l. absurd (omega arith))
      firsts f (suc k) h =
          let l : k < count_of nodes i = h k (omega arith) in
          go (firsts f k (λ p b. h p (omega arith)))
          (f (argument_of nodes arguments i k) (argument_of nodes arguments j k) (s.smaller i k m.node l) (r.below i m.node m k l)
          (r.below j n.node n k (rw (← as_many) l)) (paired k l))
        where
          last : ((p : ℕ) → p < k → SameTerm nodes arguments (argument_of nodes arguments i p) (argument_of nodes arguments j p)) →
              SameTerm nodes arguments (argument_of nodes arguments i k) (argument_of nodes arguments j k) → (p : ℕ) → p < suc k → Dec (p ≡ k) →
              SameTerm nodes arguments (argument_of nodes arguments i p) (argument_of nodes arguments j p)
          last e d p b (yes z) = rw z d
          last e d p b (no z) = e p (omega (arith, b, z))

          go : Clash ns ps ⊎ ((p : ℕ) → p < k → SameTerm nodes arguments (argument_of nodes arguments i p) (argument_of nodes arguments j p)) →
              Clash ns ps ⊎ SameTerm nodes arguments (argument_of nodes arguments i k) (argument_of nodes arguments j k) →
              Clash ns ps ⊎ ((p : ℕ) → p < suc k → SameTerm nodes arguments (argument_of nodes arguments i p) (argument_of nodes arguments j p))
          go (inl c) d = inl c
          go (inr e) (inl c) = inl c
          go (inr e) (inr d) = inr (λ p b. last e d p b (ℕ_discrete p k))

      -- all pairs are of one term each, or some clash
      all :
          ((a b : ℕ) → a < i → IsClosed nodes counts a → IsClosed nodes counts b → Joined ns ps a b → Clash ns ps ⊎ SameTerm nodes arguments a b) →
          Clash ns ps ⊎ SameTerm nodes arguments i j
      all f = go (firsts f (count_of nodes i) (λ p l. l))
        where
          go :
              Clash ns ps ⊎ ((p : ℕ) → p < count_of nodes i →
              SameTerm nodes arguments (argument_of nodes arguments i p) (argument_of nodes arguments j p)) →
              Clash ns ps ⊎ SameTerm nodes arguments i j
          go (inl c) = inl c
          go (inr e) = inr (made e)

    -- the symbols are one or not
    step :
        ((a b : ℕ) → a < i → IsClosed nodes counts a → IsClosed nodes counts b → Joined ns ps a b → Clash ns ps ⊎ SameTerm nodes arguments a b) →
        Clash ns ps ⊎ SameTerm nodes arguments i j
    step f = pick (symbol_test nodes i j) refl
      where
        pick : (b : Bool) → symbol_test nodes i j ≡ b → Clash ns ps ⊎ SameTerm nodes arguments i j
        pick true e = let t = (symbol_test_lem nodes i j).0 e in all t.0 t.1 f
        pick false e = inl (apart e)

  -- by induction on a bound of the first
  within : (k i j : ℕ) → i < k → IsClosed nodes counts i → IsClosed nodes counts j → Joined ns ps i j → Clash ns ps ⊎ SameTerm nodes arguments i j
  within zero i j h m n q = absurd (omega arith)
  within (suc k) i j h m n q = step i j m n q (λ a b l. within k a b (omega arith))

  -- closed applications that are joined are of one term, or there is a clash
  pub closed_joined : (i j : ℕ) → IsClosed nodes counts i → IsClosed nodes counts j → Joined ns ps i j → Clash ns ps ⊎ SameTerm nodes arguments i j
  closed_joined i j m n q = within (suc i) i j (omega arith) m n q
