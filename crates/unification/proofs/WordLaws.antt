-- The word of a variable is one number, the same under every most general unifier: two of them make the same nodes equal.
-- Under the solution of a solved form it exists, is what `word_of` computes, and is read back as the solution. Assumes nothing.
use Prim.Native.Nat.{ℕ, ◌<◌, ◌≤◌}
use mathlib.Core.Bool.{true}
use mathlib.Core.List.{List, Memᴰ}
use mathlib.Core.Path.{◌≡◌, refl, sym, ap, ◌∙◌}
use native.Mathlib.Omega.{arith}
use lib.ListN.{length}
use Rattle.table.proofs.BoolLaws.{and_true_left, and_true_right}
use Rattle.terms.specs.Term.{Term, var, app, Terms, equal}
use Rattle.terms.specs.Substitution.{Substitution, sub, subs}
use Rattle.terms.proofs.TermLaws.{equal_true, equal_refl}
use Rattle.unification.specs.Node.{Node, variable, application, node_at, spell, Present}
use Rattle.unification.specs.Unifier.{value, Unifies, MostGeneral}
use Rattle.unification.specs.Code.Given.{WellFormed, Inside}
use Rattle.unification.specs.Words.{Least, BoundTo, IsWord, bound, free, AreWords, IsRead, of_variable, of_application, Reads}
use Rattle.unification.specs.Computed.Variables.{variables_of}
use Rattle.unification.specs.Computed.Solution.{first_with, least_node, is_application, node_of, resolved, solution}
use Rattle.unification.specs.Computed.Binding.{is_bound_to, has_value, word_for, word_of, binding_words}
use Rattle.unification.specs.Code.Solved.{Solved}
use Rattle.unification.proofs.MatchedLaws.{matched_map, matched_one, matched_by}
use Rattle.unification.proofs.NodeLaws.{value_variable, value_after_lem}
use Rattle.unification.proofs.VariableLaws.{variables_rise, variables_present, present_variables}
use Rattle.unification.proofs.FirstLaws.{is_application_lem, first_in, first_has, first_least, least_below, least_has, least_least, node_of_lem}
use Rattle.unification.proofs.SolvedLaws.{closure_inside, resolved_head, joined_head, resolved_node, value_resolved}

-- there is one least number
least_one : {P : ℕ → Type 0} {m n : ℕ} → Least P m → Least P n → m ≡ n
least_one {P} {m} {n} a b =
    let p : m ≤ n = a.least n b.holds in
    let q : n ≤ m = b.least m a.holds in
    omega arith

-- no term is an application and a variable
not_both : {A : Type 0} (t : Term) (f z : ℕ) (ts : Terms) → t ≡ app f ts → t ≡ var z → A
not_both t f z ts p q = let e : app f ts ≡ var z = sym p ∙ q in let c : ◌≡◌ {A = ℕ} 0 1 = cc in absurd (omega arith)

-- a variable has one word
pub word_one : {ns : List Node} {σ : Substitution} {x v w : ℕ} → IsWord ns σ x v → IsWord ns σ x w → v ≡ w
word_one (bound d a) (bound e b) = least_one a b
word_one {ns} {σ} {x} (bound d a) (free e b c) = not_both (σ x) _ _ _ d e
word_one {ns} {σ} {x} (free d a b) (bound e c) = not_both (σ x) _ _ _ e d
word_one {ns} (free {w = v} d a b) (free {w = w} e c f) =
    least_one b (rw (least_one c a) at f)

-- a unifier has one list of words
pub words_one : (ns : List Node) (σ : Substitution) (vs ws : List ℕ) → AreWords ns σ vs → AreWords ns σ ws → vs ≡ ws
words_one ns σ vs ws = matched_one (λ x v w a b. word_one a b)

module _ (ns : List Node) (w : WellFormed ns) (ps : List (ℕ × ℕ)) where
  -- what is equal under a most general unifier is equal under every unifier
  module _ (σ τ : Substitution) (g : MostGeneral ns ps σ) (u : Unifies ns ps τ) (x : ℕ) (q : Present ns x) where
    bound_kept : {i : ℕ} → BoundTo ns σ (σ x) i → BoundTo ns τ (τ x) i
    bound_kept {i} (k, us, p, d, e) =
        let f = g.factors τ u in
        (k, us, p, d, value_after_lem ns w σ τ f.0 f.1 i p ∙ ap (sub f.0) e ∙ sym (f.1 x q))

    present_kept : {y : ℕ} → Present ns y × (σ y ≡ σ x) → Present ns y × (τ y ≡ τ x)
    present_kept {y} (p, e) =
        let f = g.factors τ u in
        (p, f.1 y p ∙ ap (sub f.0) e ∙ sym (f.1 x q))

    application_kept : (f : ℕ) (ts : Terms) → σ x ≡ app f ts → (us : Terms) × (τ x ≡ app f us)
    unfolding sub
    application_kept f ts e = let h = g.factors τ u in (subs h.0 ts, h.1 x q ∙ ap (sub h.0) e)

  -- a word is the same under every most general unifier
  word_same : (σ τ : Substitution) → MostGeneral ns ps σ → MostGeneral ns ps τ → (x v : ℕ) → Present ns x → IsWord ns σ x v → IsWord ns τ x v
  word_same σ τ g h x v q (bound {f = f} {ts = ts} e l) =
      bound (application_kept σ τ g h.unifies x q f ts e).1
      (record {
        holds = bound_kept σ τ g h.unifies x q l.holds;
        least = λ m b. l.least m (bound_kept τ σ h g.unifies x q b);
      })
  word_same σ τ g h x v q (free {z = z} {y = y} e l n) = go (τ x) refl
    where
      go : (t : Term) → τ x ≡ t → IsWord ns τ x v
      go (app f ts) d = not_both (σ x) f z _ (application_kept τ σ h g.unifies x q f ts d).1 e
      go (var z') d =
          free d
          (record {
            holds = present_kept σ τ g h.unifies x q l.holds;
            least = λ m b. l.least m (present_kept τ σ h g.unifies x q b);
          })
          n

  -- and so are all words
  pub words_same : (σ τ : Substitution) → MostGeneral ns ps σ → MostGeneral ns ps τ → (vs : List ℕ) → AreWords ns σ vs → AreWords ns τ vs
  words_same σ τ g h vs = matched_map (λ x v m a. word_same σ τ g h x v (variables_present ns x m) a)

-- The value of a variable that is an application is the value of an application node.
abbrev pub Held : List Node → Substitution → Type 0
Held ns σ = (x f : ℕ) (ts : Terms) → Present ns x → σ x ≡ app f ts → (i : ℕ) × BoundTo ns σ (σ x) i

-- A variable whose value is a variable has the lowest one with that value.
abbrev pub Lowest : List Node → Substitution → Type 0
Lowest ns σ = (x z : ℕ) → Present ns x → σ x ≡ var z → Least (λ y. Present ns y × (σ y ≡ σ x)) z

-- what the test of a bound node says
bound_true : (ns : List Node) (σ : Substitution) (t : Term) (i : ℕ) → BoundTo ns σ t i → is_bound_to ns σ t i ≡ true
unfolding is_bound_to is_application
bound_true ns σ t i b = rw (b.3, b.4) (equal_refl t)

true_bound : (ns : List Node) (σ : Substitution) (t : Term) (i : ℕ) → i < length ns → is_bound_to ns σ t i ≡ true → BoundTo ns σ t i
unfolding is_bound_to
true_bound ns σ t i p e =
    let a = is_application_lem (node_at ns i) (and_true_left (is_application (node_at ns i)) (equal (value ns σ i) t) e) in
    (a.0, a.1, p, a.2, equal_true (value ns σ i) t (and_true_right (is_application (node_at ns i)) (equal (value ns σ i) t) e))

module _ (ns : List Node) (σ : Substitution) (held : Held ns σ) where
  free_word : (x z : ℕ) → Present ns x → σ x ≡ var z → IsWord ns σ x (word_for ns σ (var z))
  unfolding word_for has_value
  free_word x z q e =
      free e
      (record {
        holds = (y_present, y_value);
        least = λ m b. first_least (has_value σ (var z)) 0 (variables_of ns) (variables_rise ns) m (present_variables ns m b.0)
            (ap (λ (t : Term). equal t (var z)) (b.1 ∙ e) ∙ equal_refl (var z));
      })
      (node_of_lem ns (first_with (has_value σ (var z)) 0 (variables_of ns)) y_present)
    where
      member : Memᴰ x (variables_of ns)
      member = present_variables ns x q

      has : has_value σ (var z) x ≡ true
      has = ap (λ (t : Term). equal t (var z)) e ∙ equal_refl (var z)

      y_present : Present ns (first_with (has_value σ (var z)) 0 (variables_of ns))
      y_present = variables_present ns _ (first_in (has_value σ (var z)) 0 (variables_of ns) x member has)

      y_value : σ (first_with (has_value σ (var z)) 0 (variables_of ns)) ≡ σ x
      y_value = equal_true _ _ (first_has (has_value σ (var z)) 0 (variables_of ns) x member has) ∙ sym e

  bound_word : (x f : ℕ) (ts : Terms) → Present ns x → σ x ≡ app f ts → IsWord ns σ x (word_for ns σ (app f ts))
  unfolding word_for
  bound_word x f ts q e =
      let h = held x f ts q e in
      let p = h.1.2 in
      let b : is_bound_to ns σ (app f ts) h.0 ≡ true = bound_true ns σ (app f ts) h.0 (rw e at h.1) in
      bound {w = least_node ns (is_bound_to ns σ (app f ts))} e
      (record {
        holds = rw e (true_bound ns σ (app f ts) _ (least_below ns (is_bound_to ns σ (app f ts)) h.0 p b)
            (least_has ns (is_bound_to ns σ (app f ts)) h.0 p b));
        least = λ m c. least_least ns (is_bound_to ns σ (app f ts)) m c.2 (bound_true ns σ (app f ts) m (rw e at c));
      })

  word_computed : (x : ℕ) → Present ns x → IsWord ns σ x (word_of ns σ x)
  unfolding word_of
  word_computed x q = go (σ x) refl
    where
      go : (t : Term) → σ x ≡ t → IsWord ns σ x (word_for ns σ t)
      go (var z) e = free_word x z q e
      go (app f ts) e = bound_word x f ts q e

  -- what `binding_words` computes are the words
  pub words_computed : AreWords ns σ (binding_words ns σ)
  unfolding binding_words
  words_computed = matched_by (word_of ns σ) (variables_of ns) (λ x m. word_computed x (variables_present ns x m))

  -- and where its variables are the lowest, the substitution is read from them
  reads_word : Lowest ns σ → (x v : ℕ) → Present ns x → IsWord ns σ x v → IsRead ns σ x v
  reads_word low x v q (bound e l) = of_application l.holds.2 l.holds.3 (sym l.holds.4)
  reads_word low x v q (free {z = z} {y = y} e l m) =
      of_variable m.holds.0 m.holds.1 (e ∙ ap var (sym (least_one l (low x z q e))))

  -- so it is of all words
  pub words_read : Lowest ns σ → Reads ns (binding_words ns σ) σ
  words_read low = matched_map (λ x v m a. reads_word low x v (variables_present ns x m) a) words_computed

module _ (ns : List Node) (w : WellFormed ns) (ps : List (ℕ × ℕ)) (h : Inside ns ps) (head order : ℕ → ℕ) (s : Solved ns ps head order) (k : ℕ)
    (enough : (i : ℕ) → i < length ns → order (head i) < k) where
  -- the variable's node, and what its head is
  at : (x : ℕ) → Present ns x → node_of ns x < length ns
  at x q = (node_of_lem ns x q).holds.0

  spelt : (x : ℕ) → Present ns x → solution k ns head x ≡ spell (resolved k ns head) (node_at ns (head (node_of ns x)))
  unfolding solution
  spelt x q = resolved_node ns w ps h head order s k enough (node_of ns x) (at x q)

  -- a head has the value of its node
  head_value : (x : ℕ) → Present ns x → value ns (solution k ns head) (head (node_of ns x)) ≡ solution k ns head x
  unfolding solution
  head_value x q =
      value_resolved ns w ps h head order s k enough (head (node_of ns x)) (closure_inside ns w ps h head s.closure (node_of ns x) (at x q))
      ∙ sym (resolved_head k ns head _ _ (joined_head ns w ps h head s.closure (s.closure.joined (node_of ns x) (at x q))))

  head_variable : (x z : ℕ) → Present ns x → solution k ns head x ≡ var z → node_at ns (head (node_of ns x)) ≡ variable z
  unfolding spell
  head_variable x z q e = go (node_at ns (head (node_of ns x))) refl
    where
      go : (o : Node) → node_at ns (head (node_of ns x)) ≡ o → node_at ns (head (node_of ns x)) ≡ variable z
      go (variable y) d =
          let c : var y ≡ var z = sym (spelt x q ∙ ap (spell (resolved k ns head)) d) ∙ e in
          let b : y ≡ z = cc in
          d ∙ ap variable b
      go (application f us) d = not_both (solution k ns head x) f z _ (spelt x q ∙ ap (spell (resolved k ns head)) d) e

  head_application : (x f : ℕ) (ts : Terms) → Present ns x → solution k ns head x ≡ app f ts →
      BoundTo ns (solution k ns head) (solution k ns head x) (head (node_of ns x))
  unfolding spell
  head_application x f ts q e = go (node_at ns (head (node_of ns x))) refl
    where
      go : (o : Node) → node_at ns (head (node_of ns x)) ≡ o → BoundTo ns (solution k ns head) (solution k ns head x) (head (node_of ns x))
      go (variable y) d = not_both (solution k ns head x) f y ts e (spelt x q ∙ ap (spell (resolved k ns head)) d)
      go (application g us) d = (g, us, closure_inside ns w ps h head s.closure (node_of ns x) (at x q), d, head_value x q)

  -- what the words ask of the solution of a solved form
  pub solution_held : Held ns (solution k ns head)
  solution_held x f ts q e = (head (node_of ns x), head_application x f ts q e)

  -- and what reading them asks, where a variable that is a head is the lowest of its class
  pub solution_lowest : ((i x y : ℕ) → i < length ns → node_at ns i ≡ variable x → node_at ns (head i) ≡ variable y → y ≤ x) →
      Lowest ns (solution k ns head)
  solution_lowest lowest x z q e =
      let d = head_variable x z q e in
      let i = closure_inside ns w ps h head s.closure (node_of ns x) (at x q) in
      record {
        holds = ((head (node_of ns x), i, d), sym (value_variable ns w (solution k ns head) (head (node_of ns x)) z i d) ∙ head_value x q);
        least = λ y b. lowest (node_of ns y) y z (at y b.0) (node_of_lem ns y b.0).holds.1 (head_variable y z b.0 (b.1 ∙ e));
      }
