-- Nodes have one name exactly if they have one value, by induction on the order of a solved form. So the least nodes and variables by name
-- are the words.
-- Assumes nothing.
use Prim.Native.Nat.{ℕ, zero, suc, ◌<◌}
use mathlib.Core.List.{List, Memᴰ, zip}
use mathlib.Core.Logic.{◌↔◌}
use mathlib.Core.Path.{◌≡◌, refl, sym, ap, ◌∙◌}
use native.Mathlib.Omega.{arith}
use lib.ListN.{length}
use Rattle.terms.specs.Term.{var, app}
use Rattle.unification.specs.Node.{Node, variable, application, node_at, each, spell, Present}
use Rattle.unification.specs.Unifier.{value}
use Rattle.unification.specs.Code.Given.{WellFormed, Inside}
use Rattle.unification.specs.Words.{IsWord, Matched}
use Rattle.unification.specs.Computed.Variables.{variables_of}
use Rattle.unification.specs.Computed.Solution.{resolved, solution}
use Rattle.unification.specs.Computed.Unifying.{words_of}
use Rattle.unification.specs.Code.Solved.{Solved}
use Rattle.unification.specs.Code.Valued.{Valued, NamedApplication, NamedVariable, IsNamed}
use Rattle.unification.proofs.ListLaws.{zip_left, zip_right}
use Rattle.unification.proofs.MatchedLaws.{matched_map}
use Rattle.unification.proofs.NodeLaws.{each_long, each_at, each_equal, value_variable}
use Rattle.unification.proofs.SolvedLaws.{closure_inside, joined_head, argument_inside, resolved_node, value_resolved, solution_most_general}
use Rattle.unification.proofs.OutcomeLaws.{words_decided}

module _ (ns : List Node) (w : WellFormed ns) (ps : List (ℕ × ℕ)) (h : Inside ns ps) (head order : ℕ → ℕ) (s : Solved ns ps head order) (k : ℕ)
    (enough : (i : ℕ) → i < length ns → order (head i) < k) (name : ℕ → ℕ) (v : Valued ns head name) where
  spelt : (i : ℕ) → i < length ns → (n : Node) → node_at ns (head i) ≡ n → resolved k ns head i ≡ spell (resolved k ns head) n
  spelt i p n e = resolved_node ns w ps h head order s k enough i p ∙ ap (spell (resolved k ns head)) e

  own_head : (i : ℕ) → i < length ns → head i ≡ head (head i)
  own_head i p = joined_head ns w ps h head s.closure (s.closure.joined i p)

  inside : (i : ℕ) → i < length ns → head i < length ns
  inside = closure_inside ns w ps h head s.closure

  -- heads that are one variable are one head
  variable_head : (i j x : ℕ) → i < length ns → j < length ns → node_at ns (head i) ≡ variable x → node_at ns (head j) ≡ variable x → head i ≡ head j
  variable_head i j x p q d e =
      own_head i p ∙ s.closure.one_variable (head i) (head j) x (inside i p) (inside j q) d e ∙ sym (own_head j q)

  -- what is said of i and j below a bound on the order of i
  abbrev Said : ℕ → ℕ → Type 0
  Said i j = resolved k ns head i ≡ resolved k ns head j ↔ (name i ≡ name j)

  -- applications, where it is said of their arguments
  composed_same : (i j f g : ℕ) (us vs : List ℕ) → i < length ns → j < length ns → node_at ns (head i) ≡ application f us →
      node_at ns (head j) ≡ application g vs → ((a b : ℕ) → Memᴰ (a, b) (zip us vs) → Said a b) → Said i j
  unfolding spell
  composed_same i j f g us vs p q d e ih = (there, back_to)
    where
      there : resolved k ns head i ≡ resolved k ns head j → name i ≡ name j
      there c =
          let t : app f (each (resolved k ns head) us) ≡ app g (each (resolved k ns head) vs) = sym (spelt i p (application f us) d) ∙ c ∙
          spelt j q (application g vs) e in
          let l : each (resolved k ns head) us ≡ each (resolved k ns head) vs = cc in
          v.composed i j f g us vs p q d e (cc, each_long (resolved k ns head) (resolved k ns head) us vs l)
          (λ a b m. (ih a b m).0 (each_at (resolved k ns head) (resolved k ns head) us vs l a b m))

      back_to : name i ≡ name j → resolved k ns head i ≡ resolved k ns head j
      back_to c =
          let t = v.taken_apart i j f g us vs p q d e c in
          let l : each (resolved k ns head) us ≡ each (resolved k ns head) vs =
          each_equal (resolved k ns head) (resolved k ns head) us vs t.0.1 (λ a b m. (ih a b m).1 (t.1 a b m)) in
          let y : f ≡ g = t.0.0 in
          spelt i p (application f us) d ∙ ap (app f) l ∙ ap (λ (z : ℕ). app z (each (resolved k ns head) vs)) y ∙
          sym (spelt j q (application g vs) e)

  same : (n i j : ℕ) → i < length ns → j < length ns → order (head i) < n → Said i j
  unfolding spell
  same zero i j p q b = absurd (omega arith)
  same (suc n) i j p q b = go (λ a c x y z. same n a c x y z) (node_at ns (head i)) refl (node_at ns (head j)) refl
    where
      go : ((a c : ℕ) → a < length ns → c < length ns → order (head a) < n → Said a c) → (m : Node) → node_at ns (head i) ≡ m → (o : Node) →
          node_at ns (head j) ≡ o → Said i j
      go ih (variable x) d (variable y) e = (
        (λ c.
            let t : var x ≡ var y = sym (spelt i p (variable x) d) ∙ c ∙ spelt j q (variable y) e in
            let z : y ≡ x = cc in
            v.one_head i j p q (variable_head i j x p q d (e ∙ ap variable z))),
        (λ c. spelt i p (variable x) d ∙ ap var (v.variables i j x y p q d e c) ∙ sym (spelt j q (variable y) e)),
      )
      go ih (variable x) d (application g vs) e = (
        (λ c.
            let t : var x ≡ app g (each (resolved k ns head) vs) = sym (spelt i p (variable x) d) ∙ c ∙ spelt j q (application g vs) e in
            let z : ◌≡◌ {A = ℕ} 0 1 = cc in
            absurd (omega arith)),
        (λ c. absurd (v.apart i j x g vs p q d e c)),
      )
      go ih (application f us) d (variable y) e = (
        (λ c.
            let t : app f (each (resolved k ns head) us) ≡ var y = sym (spelt i p (application f us) d) ∙ c ∙ spelt j q (variable y) e in
            let z : ◌≡◌ {A = ℕ} 0 1 = cc in
            absurd (omega arith)),
        (λ c. absurd (v.apart j i y f us q p e d (sym c))),
      )
      go ih (application f us) d (application g vs) e =
          composed_same i j f g us vs p q d e
          (λ a c m.
          let l = zip_left us vs a c m in
          let r = zip_right us vs a c m in
          let o : order (head a) < order (head i) = s.falls i f us p d a l in
          ih a c (argument_inside ns w ps h head order s i f us p d a l) (argument_inside ns w ps h head order s j g vs q e c r) (omega arith))

  -- nodes have one name exactly if they have one value
  pub values_named : (i j : ℕ) → i < length ns → j < length ns → value ns (solution k ns head) i ≡ value ns (solution k ns head) j ↔ (name i ≡ name j)
  values_named i j p q =
      let r = value_resolved ns w ps h head order s k enough in
      let t = same k i j p q (enough i p) in
      ((λ e. t.0 (sym (r i p) ∙ e ∙ r j q)), (λ e. r i p ∙ t.1 e ∙ sym (r j q)))

  -- the value of a variable is that of its nodes
  at_node : (i x : ℕ) → i < length ns → node_at ns i ≡ variable x → value ns (solution k ns head) i ≡ solution k ns head x
  at_node i x p e = value_variable ns w (solution k ns head) i x p e

  by_head : (i x : ℕ) → i < length ns → node_at ns i ≡ variable x → (n : Node) → node_at ns (head i) ≡ n →
      solution k ns head x ≡ spell (resolved k ns head) n
  by_head i x p e n d =
      sym (at_node i x p e) ∙ value_resolved ns w ps h head order s k enough i p ∙ spelt i p n d

  -- a word that is found by names is the word
  named_word : (x u : ℕ) → IsNamed ns head name x u → IsWord ns (solution k ns head) x u
  unfolding spell
  named_word x u (IsNamed.bound {i} {f} {w} {us} p e d l) =
      IsWord.bound (by_head i x p e (application f us) d)
      (record {
        holds = named l.holds;
        least = λ m b. l.least m (b.0, b.1, b.2, b.3, (values_named m i b.2 p).0 (b.4 ∙ sym (at_node i x p e)));
      })
    where
      named : {j : ℕ} → NamedApplication ns name (name i) j → (g : ℕ) × (vs : List ℕ) × (j < length ns) × (node_at ns j ≡ application g vs) ×
          (value ns (solution k ns head) j ≡ solution k ns head x)
      named {j} (g, vs, q, c, n) = (g, vs, q, c, (values_named j i q p).1 n ∙ at_node i x p e)
  named_word x u (IsNamed.free {i} {z} {y} {w} p e d l m) =
      IsWord.free (by_head i x p e (variable z) d)
      (record {
        holds = named l.holds;
        least = λ t b. l.least t (unnamed b);
      })
      m
    where
      named : {t : ℕ} → NamedVariable ns name (name i) t → Present ns t × (solution k ns head t ≡ solution k ns head x)
      named {t} (j, q, c, n) = ((j, q, c), sym (at_node j t q c) ∙ (values_named j i q p).1 n ∙ at_node i x p e)

      unnamed : {t : ℕ} → Present ns t × (solution k ns head t ≡ solution k ns head x) → NamedVariable ns name (name i) t
      unnamed {t} ((j, q, c), n) = (j, q, c, (values_named j i q p).0 (at_node j t q c ∙ n ∙ sym (at_node i x p e)))

  -- heads, an order and names decide the words, and no term is spelt out
  pub names_decide : (ws : List ℕ) → Matched (IsNamed ns head name) (variables_of ns) ws → words_of ns ps ≡ ws
  names_decide ws m =
      words_decided ns w ps h (solution k ns head) (solution_most_general ns w ps h head order s k enough) ws
      (matched_map (λ x u b. named_word x u) m)
