-- A solved form gives a most general unifier: each node stands for its head, and heads are spelt out in the order.
-- A unifier makes a node equal to its head, so it is itself what comes after. Assumes nothing.
use Prim.Native.Nat.{ℕ, zero, suc, ◌<◌}
use mathlib.Core.List.{List, Memᴰ, zip}
use mathlib.Core.Path.{◌≡◌, refl, sym, ap, ◌∙◌}
use native.Mathlib.Omega.{arith}
use lib.ListN.{length}
use Rattle.terms.specs.Term.{app}
use Rattle.terms.specs.Substitution.{Substitution, sub}
use Rattle.unification.specs.Node.{Node, variable, application, node_at, each, spell, Present}
use Rattle.unification.specs.Unifier.{value, Unifies, MostGeneral}
use Rattle.unification.specs.Code.Given.{WellFormed, Inside}
use Rattle.unification.specs.Closure.{Joined, given, one_variable, arguments, same, back, on, Clash, different}
use Rattle.unification.specs.Computed.Solution.{node_of, resolved, solution}
use Rattle.unification.specs.Code.Solved.{HeadFits, IsClosure, Solved}
use Rattle.unification.proofs.ListLaws.{zip_back, zip_through}
use Rattle.unification.proofs.NodeLaws.{each_same, each_equal, subs_each, spell_same, value_variable, value_application, values_same}
use Rattle.unification.proofs.JoinedLaws.{joined_inside, joined_equal}
use Rattle.unification.proofs.FirstLaws.{node_of_lem}

-- nodes with one head have one term
pub resolved_head : (k : ℕ) (ns : List Node) (head : ℕ → ℕ) (i j : ℕ) → head i ≡ head j → resolved k ns head i ≡ resolved k ns head j
unfolding resolved
resolved_head zero ns head i j e = refl
resolved_head (suc k) ns head i j e = ap (λ (c : ℕ). spell (resolved k ns head) (node_at ns c)) e

module _ (ns : List Node) (w : WellFormed ns) (ps : List (ℕ × ℕ)) (h : Inside ns ps) (head : ℕ → ℕ) (s : IsClosure ns ps head) where
  -- a head is a node
  pub closure_inside : (i : ℕ) → i < length ns → head i < length ns
  closure_inside i p = (joined_inside ns w ps h (s.joined i p)).1

  -- one head is one application
  one_application : (i j f g : ℕ) (us vs : List ℕ) → head i ≡ head j → (x : HeadFits ns head i f us) (y : HeadFits ns head j g vs) → (f ≡ g) ×
      (x.arguments ≡ y.arguments)
  one_application i j f g us vs z x y =
      let e : application f x.arguments ≡ application g y.arguments = sym x.applied ∙ ap (node_at ns) z ∙ y.applied in
      (cc, cc)

  -- joined nodes have one head
  pub joined_head : {i j : ℕ} → Joined ns ps i j → head i ≡ head j
  joined_head (given {a} {b} m) = s.given a b m
  joined_head (one_variable {i} {j} {x} p q d e) = s.one_variable i j x p q d e
  joined_head (arguments {i} {j} {f} {g} {a} {b} {us} {vs} d e l q m) =
      go (joined_head q) (s.applications i f us p.0 d) (s.applications j g vs p.1 e)
    where
      p : (i < length ns) × (j < length ns)
      p = joined_inside ns w ps h q

      go : head i ≡ head j → HeadFits ns head i f us → HeadFits ns head j g vs → head a ≡ head b
      go z x y = meet t.0 t.1 t.2
        where
          t : (c : ℕ) × Memᴰ (a, c) (zip us x.arguments) × Memᴰ (c, b) (zip x.arguments vs)
          t = zip_through us x.arguments vs x.as_long (sym x.as_long ∙ l.1) a b m

          meet : (c : ℕ) → Memᴰ (a, c) (zip us x.arguments) → Memᴰ (c, b) (zip x.arguments vs) → head a ≡ head b
          meet c k n =
              let r = one_application i j f g us vs z x y in
              x.one_head a c k ∙ sym (y.one_head b c (rw r.1 at (zip_back x.arguments vs c b n)))
  joined_head (same p) = refl
  joined_head (back q) = sym (joined_head q)
  joined_head (on p q) = joined_head p ∙ joined_head q

  -- heads leave no clash
  pub closure_no_clash : Clash ns ps → ⊥
  closure_no_clash (different {i} {j} {f} {g} {us} {vs} q d e n) =
      go (s.applications i f us p.0 d) (s.applications j g vs p.1 e)
    where
      p : (i < length ns) × (j < length ns)
      p = joined_inside ns w ps h q

      go : HeadFits ns head i f us → HeadFits ns head j g vs → ⊥
      go x y =
          let r = one_application i j f g us vs (joined_head q) x y in
          n (r.0, x.as_long ∙ ap length r.1 ∙ sym y.as_long)

module _ (ns : List Node) (w : WellFormed ns) (ps : List (ℕ × ℕ)) (h : Inside ns ps) (head order : ℕ → ℕ) (s : Solved ns ps head order) where
  inside : (i : ℕ) → i < length ns → head i < length ns
  inside = closure_inside ns w ps h head s.closure

  -- an argument of a head is a node
  pub argument_inside : (i f : ℕ) (us : List ℕ) → i < length ns → node_at ns (head i) ≡ application f us → (a : ℕ) → Memᴰ a us → a < length ns
  argument_inside i f us p e a m =
      let l : a < head i = w.smaller (head i) f us (inside i p) e a m in
      let q : head i < length ns = inside i p in
      omega arith

  -- more steps than the order asks for change nothing
  resolved_same : (k m i : ℕ) → i < length ns → order (head i) < k → order (head i) < m → resolved k ns head i ≡ resolved m ns head i
  unfolding resolved
  resolved_same zero m i p k< m< = absurd (omega arith)
  resolved_same (suc k) zero i p k< m< = absurd (omega arith)
  resolved_same (suc k) (suc m) i p k< m< =
      spell_same (resolved k ns head) (resolved m ns head) (node_at ns (head i))
      (λ f us e a d.
      let l : order (head a) < order (head i) = s.falls i f us p e a d in
      resolved_same k m a (argument_inside i f us p e a d) (omega arith) (omega arith))

  -- what comes after: a unifier τ makes what a node is resolved to equal to the node's value under τ
  after : (τ : Substitution) → Unifies ns ps τ → (k i : ℕ) → i < length ns → order (head i) < k → sub τ (resolved k ns head i) ≡ value ns τ i
  unfolding resolved spell sub
  after τ u zero i p l = absurd (omega arith)
  after τ u (suc k) i p l = go (λ a q m. after τ u k a q m) (node_at ns (head i)) refl
    where
      to_head : value ns τ (head i) ≡ value ns τ i
      to_head = sym (joined_equal ns w ps h τ u (s.closure.joined i p))

      go : ((a : ℕ) → a < length ns → order (head a) < k → sub τ (resolved k ns head a) ≡ value ns τ a) → (n : Node) → node_at ns (head i) ≡ n →
          sub τ (spell (resolved k ns head) (node_at ns (head i))) ≡ value ns τ i
      go r (variable y) e =
          ap (λ (n : Node). sub τ (spell (resolved k ns head) n)) e ∙ sym (value_variable ns w τ (head i) y (inside i p) e) ∙ to_head
      go r (application f us) e =
          ap (λ (n : Node). sub τ (spell (resolved k ns head) n)) e ∙ ap (app f) (subs_each τ (resolved k ns head) us) ∙
          ap (app f) (each_same (λ a. sub τ (resolved k ns head a)) (value ns τ) us
          (λ a m. let q : order (head a) < order (head i) = s.falls i f us p e a m in r a (argument_inside i f us p e a m) (omega arith))) ∙
          sym (value_application ns w τ (head i) f us (inside i p) e) ∙ to_head

  module _ (k : ℕ) (enough : (i : ℕ) → i < length ns → order (head i) < k) where
    -- a node is its head, spelt out
    pub resolved_node : (i : ℕ) → i < length ns → resolved k ns head i ≡ spell (resolved k ns head) (node_at ns (head i))
    unfolding resolved
    resolved_node i p = let l : order (head i) < k = enough i p in resolved_same k (suc k) i p l (omega arith)

    resolved_application : (i f : ℕ) (us : List ℕ) → i < length ns → node_at ns i ≡ application f us →
        app f (each (resolved k ns head) us) ≡ resolved k ns head i
    unfolding spell
    resolved_application i f us p e = go (s.closure.applications i f us p e)
      where
        go : HeadFits ns head i f us → app f (each (resolved k ns head) us) ≡ resolved k ns head i
        go x =
            ap (app f) (each_equal (resolved k ns head) (resolved k ns head) us x.arguments x.as_long
            (λ a b m. resolved_head k ns head a b (x.one_head a b m))) ∙ sym (resolved_node i p ∙ ap (spell (resolved k ns head)) x.applied)

    resolved_variable : (i x : ℕ) → i < length ns → node_at ns i ≡ variable x → solution k ns head x ≡ resolved k ns head i
    unfolding solution
    resolved_variable i x p e =
        let l = node_of_lem ns x (i, p, e) in
        resolved_head k ns head (node_of ns x) i (s.closure.one_variable (node_of ns x) i x l.holds.0 p l.holds.1 e)

    -- the value of a node under the solution is what it is resolved to
    pub value_resolved : (i : ℕ) → i < length ns → value ns (solution k ns head) i ≡ resolved k ns head i
    value_resolved = values_same ns w (solution k ns head) (resolved k ns head) resolved_variable resolved_application

    -- every unifier comes after the solution, and is itself what comes after
    pub solution_first : (τ : Substitution) → Unifies ns ps τ → (x : ℕ) → Present ns x → τ x ≡ sub τ (solution k ns head x)
    unfolding solution
    solution_first τ u x q =
        let l = node_of_lem ns x q in
        sym (after τ u k (node_of ns x) l.holds.0 (enough (node_of ns x) l.holds.0) ∙ value_variable ns w τ (node_of ns x) x l.holds.0 l.holds.1)

    -- so the solution is a most general unifier
    pub solution_most_general : MostGeneral ns ps (solution k ns head)
    solution_most_general =
        record {
          unifies =
              λ a b m. value_resolved a (h a b m).0
              ∙ resolved_head k ns head a b (s.closure.given a b m)
              ∙ sym (value_resolved b (h a b m).1);
          factors = λ τ u. (τ, solution_first τ u);
        }
