-- A walk of k + 1 steps is a step and a walk of k steps. One of as many steps as there are nodes comes to a node twice,
-- and a class that reaches itself has walks of every length. By induction on the length. Assumes nothing.
use Prim.Native.Nat.{ℕ, zero, suc, ◌<◌, ◌≤◌}
use mathlib.Core.Bool.{Bool, true, false, cond, ◌&&◌, or-true, false≢true}
use mathlib.Core.List.Memᴰ
use mathlib.Core.List.{List, [], ◌∷◌, Memᴰ}
use mathlib.Core.Path.{◌≡◌, refl, sym, ap, ◌∙◌}
use native.Mathlib.Decide.{dec_lt}
use native.Mathlib.Omega.{arith}
use borrow.Author.Tests.{eqb-true, eq-eqb}
use lib.Dec.{eqb}
use lib.ListN.{length}
use Rattle.table.specs.Some.{some_below}
use Rattle.table.proofs.BoolLaws.{and_true_left, and_true_right}
use Rattle.table.proofs.SomeLaws.{some_means, some_here, none_some}
use Rattle.unification.specs.Node.{Node, variable, application, node_at}
use Rattle.unification.specs.Code.Given.{WellFormed}
use Rattle.unification.specs.Closure.{Joined, same, Reaches, step, steps}
use Rattle.unification.specs.Computed.Classes.{class_of}
use Rattle.unification.specs.Computed.Walks.{marked, some_marked, leads, leads_at, leads_from, walks, cyclic}
use Rattle.unification.proofs.ListLaws.{tabulate_at}
use Rattle.unification.proofs.PigeonLaws.{pigeons}

-- Node a is an argument of a node in the class of node i.
record Step (ns : List Node) (cs : List ℕ) (i a : ℕ) : Type 0 where
  node : ℕ
  node_inside : node < length ns
  same_class : class_of cs i ≡ class_of cs node
  name : ℕ
  arguments : List ℕ
  applied : node_at ns node ≡ application name arguments
  member : Memᴰ a arguments

-- The nodes that a walk of k steps from node i comes to.
record Visits (ns : List Node) (cs : List ℕ) (k i : ℕ) : Type 0 where
  visited : ℕ → ℕ
  start : visited 0 ≡ i
  nodes : (m : ℕ) → m ≤ k → visited m < length ns
  goes : (m : ℕ) → m < k → Step ns cs (visited m) (visited (suc m))

abbrev after : ℕ → (ℕ → ℕ) → ℕ → ℕ
after i g zero = i
after i g (suc m) = g m

some_marked_lem : (ms : List Bool) (us : List ℕ) → some_marked ms us ≡ true → (a : ℕ) × Memᴰ a us × (marked ms a ≡ true)
unfolding some_marked
some_marked_lem ms [] e = absurd (false≢true e)
some_marked_lem ms (u ∷ us) e = pick (marked ms u) refl (some_marked_lem ms us)
  where
    pick : (b : Bool) → marked ms u ≡ b → (some_marked ms us ≡ true → (a : ℕ) × Memᴰ a us × (marked ms a ≡ true)) → (a : ℕ) × Memᴰ a (u ∷ us) ×
        (marked ms a ≡ true)
    pick true z r = (u, Memᴰ.head refl, z)
    pick false z r = let s = r (rw z at e) in (s.0, Memᴰ.tail s.1, s.2)

marked_some : (ms : List Bool) (us : List ℕ) (a : ℕ) → Memᴰ a us → marked ms a ≡ true → some_marked ms us ≡ true
unfolding some_marked
marked_some ms [] a m e = absurd (Memᴰ.not-nil m)
marked_some ms (u ∷ us) a (Memᴰ.head q) e = let z : marked ms u ≡ true = ap (marked ms) (sym q) ∙ e in rw z
marked_some ms (u ∷ us) a (Memᴰ.tail m) e = rw (marked_some ms us a m e) (or-true (marked ms u))

leads_where : (ms : List Bool) (n : Node) → leads ms n ≡ true → (f : ℕ) × (us : List ℕ) × (n ≡ application f us) × (some_marked ms us ≡ true)
unfolding leads
leads_where ms (variable x) e = absurd (false≢true e)
leads_where ms (application f us) e = (f, us, refl, e)

-- The greatest number up to n with a property; 0 where there is none.
greatest : (ℕ → Bool) → ℕ → ℕ
greatest p zero = zero
greatest p (suc n) = cond (p (suc n)) (suc n) (greatest p n)

greatest_bound : (p : ℕ → Bool) (n : ℕ) → greatest p n ≤ n
unfolding greatest
greatest_bound p zero = omega arith
greatest_bound p (suc n) = pick (p (suc n)) (greatest_bound p n)
  where
    pick : (b : Bool) → greatest p n ≤ n → cond b (suc n) (greatest p n) ≤ suc n
    pick true h = omega arith
    pick false h = omega arith

greatest_holds : (p : ℕ → Bool) (n : ℕ) → p 0 ≡ true → p (greatest p n) ≡ true
unfolding greatest
greatest_holds p zero e = e
greatest_holds p (suc n) e = pick (p (suc n)) refl (greatest_holds p n e)
  where
    pick : (b : Bool) → p (suc n) ≡ b → p (greatest p n) ≡ true → p (cond b (suc n) (greatest p n)) ≡ true
    pick true z h = z
    pick false z h = h

greatest_over : (p : ℕ → Bool) (n k : ℕ) → k ≤ n → p k ≡ true → k ≤ greatest p n
unfolding greatest
greatest_over p zero k h e = h
greatest_over p (suc n) k h e = pick (p (suc n)) refl (λ q. greatest_over p n k q e)
  where
    pick : (b : Bool) → p (suc n) ≡ b → (k ≤ n → k ≤ greatest p n) → k ≤ cond b (suc n) (greatest p n)
    pick true z r = h
    pick false z r =
        let d : k ≡ suc n → ⊥ = λ q. false≢true (sym z ∙ ap p (sym q) ∙ e) in
        r (omega (arith, d))

greatest_same : (p q : ℕ → Bool) (n : ℕ) → ((k : ℕ) → p k ≡ q k) → greatest p n ≡ greatest q n
unfolding greatest
greatest_same p q zero e = refl
greatest_same p q (suc n) e = rw (e (suc n), greatest_same p q n e)

-- the length of the longest walk from the class of node i, at most the number of nodes
pub longest : List Node → List ℕ → ℕ → ℕ
longest ns cs i = greatest (λ (k : ℕ). marked (walks k ns cs) i) (length ns)

module _ (ns : List Node) (w : WellFormed ns) (cs : List ℕ) where
  -- A walk of k steps goes out from the class of node i.
  abbrev Walk : ℕ → ℕ → Type 0
  Walk k i = marked (walks k ns cs) i ≡ true

  step_inside : (i a : ℕ) → Step ns cs i a → a < length ns
  step_inside i a s =
      let l : a < s.node = w.smaller s.node s.name s.arguments s.node_inside s.applied a s.member in
      let k : s.node < length ns = s.node_inside in
      omega arith

  walk_none : (i : ℕ) → i < length ns → Walk 0 i
  unfolding walks
  walk_none i h = tabulate_at (length ns) (λ (j : ℕ). true) false i h

  -- a walk of k + 1 steps is a step and a walk of k steps
  walk_step : (k i : ℕ) → i < length ns → Walk (suc k) i → (a : ℕ) × Step ns cs i a × Walk k a
  unfolding walks leads_from leads_at
  walk_step k i h e =
      let ms : List Bool = walks k ns cs in
      let l : leads_from ns cs ms i ≡ true = sym (tabulate_at (length ns) (leads_from ns cs ms) false i h) ∙ e in
      let r = (some_means (leads_at ns cs ms i) (length ns)).0 l in
      let t : Bool = eqb (class_of cs i) (class_of cs r.0) in
      let u : Bool = leads ms (node_at ns r.0) in
      let p = leads_where ms (node_at ns r.0) (and_true_right t u r.2) in
      let m = some_marked_lem ms p.1 p.3 in (
        m.0,
        record {
          node = r.0;
          node_inside = r.1;
          same_class = eqb-true _ _ (and_true_left t u r.2);
          name = p.0;
          arguments = p.1;
          applied = p.2;
          member = m.1;
        },
        m.2,
      )

  step_walk : (k i a : ℕ) → i < length ns → Step ns cs i a → Walk k a → Walk (suc k) i
  unfolding walks leads_from leads_at leads
  step_walk k i a h s e =
      let ms : List Bool = walks k ns cs in
      let l : leads ms (node_at ns s.node) ≡ true = rw s.applied (marked_some ms s.arguments a s.member e) in
      let t : leads_at ns cs ms i s.node ≡ true = rw (eq-eqb _ _ s.same_class, l) in
      tabulate_at (length ns) (leads_from ns cs ms) false i h ∙ some_here (leads_at ns cs ms i) s.node (length ns) s.node_inside t

  walks_same : (k i j : ℕ) → i < length ns → j < length ns → class_of cs i ≡ class_of cs j → marked (walks k ns cs) i ≡ marked (walks k ns cs) j
  unfolding walks leads_from leads_at
  walks_same zero i j h l e = walk_none i h ∙ sym (walk_none j l)
  walks_same (suc k) i j h l e =
      let ms : List Bool = walks k ns cs in
      let q : leads_from ns cs ms i ≡ leads_from ns cs ms j =
      ap (λ (c : ℕ). some_below (length ns) (λ (m : ℕ). eqb c (class_of cs m) && leads ms (node_at ns m))) e in
      tabulate_at (length ns) (leads_from ns cs ms) false i h ∙ q ∙ sym (tabulate_at (length ns) (leads_from ns cs ms) false j l)

  -- a walk without its last step
  walk_less : (k i : ℕ) → i < length ns → Walk (suc k) i → Walk k i
  walk_less zero i h e = walk_none i h
  walk_less (suc k) i h e =
      let r = walk_step (suc k) i h e in
      step_walk k i r.0 h r.1 (walk_less k r.0 (step_inside i r.0 r.1) r.2)

  one_more : (k i a : ℕ) → i < length ns → Step ns cs i a → Visits ns cs k a → Visits ns cs (suc k) i
  one_more k i a h s v = record { visited = after i v.visited; start = refl; nodes = nodes; goes = goes }
    where
      nodes : (m : ℕ) → m ≤ suc k → after i v.visited m < length ns
      nodes zero l = h
      nodes (suc m) l = v.nodes m (omega arith)

      goes : (m : ℕ) → m < suc k → Step ns cs (after i v.visited m) (after i v.visited (suc m))
      goes zero l = rw v.start s
      goes (suc m) l = v.goes m (omega arith)

  visits : (k i : ℕ) → i < length ns → Walk k i → Visits ns cs k i
  visits zero i h e = record { visited = λ m. i; start = refl; nodes = λ m l. h; goes = λ m l. absurd (omega arith) }
  visits (suc k) i h e =
      let r = walk_step k i h e in
      one_more k i r.0 h r.1 (visits k r.0 (step_inside i r.0 r.1) r.2)

  -- no walk counts for more than there are nodes
  pub longest_bound : (i : ℕ) → longest ns cs i ≤ length ns
  unfolding longest
  longest_bound i = greatest_bound (λ (k : ℕ). marked (walks k ns cs) i) (length ns)

  -- nodes of one class have the same walks
  pub longest_same : (i j : ℕ) → i < length ns → j < length ns → class_of cs i ≡ class_of cs j → longest ns cs i ≡ longest ns cs j
  unfolding longest
  longest_same i j h l e =
      greatest_same (λ (k : ℕ). marked (walks k ns cs) i) (λ (k : ℕ). marked (walks k ns cs) j) (length ns) (λ k. walks_same k i j h l e)

  -- where there is no cycle, an argument's walks are shorter
  pub argument_shorter : cyclic ns cs ≡ false → (i j f : ℕ) (us : List ℕ) → i < length ns → j < length ns → class_of cs i ≡ class_of cs j →
      node_at ns j ≡ application f us → (a : ℕ) → Memᴰ a us → longest ns cs a < longest ns cs i
  unfolding longest cyclic
  argument_shorter c i j f us h l e q a m =
      let k : ℕ = longest ns cs a in
      let s : Step ns cs i a = record { node = j; node_inside = l; same_class = e; name = f; arguments = us; applied = q; member = m } in
      let n : a < length ns = step_inside i a s in
      let t : Walk k a = greatest_holds (λ (k : ℕ). marked (walks k ns cs) a) (length ns) (walk_none a n) in
      let z : marked (walks (length ns) ns cs) a ≡ false = none_some (marked (walks (length ns) ns cs)) (length ns) c a n in
      let d : k ≡ length ns → ⊥ = λ y. false≢true (sym z ∙ ap (λ (k : ℕ). marked (walks k ns cs) a) (sym y) ∙ t) in
      let b : suc k ≤ length ns = omega (arith, longest_bound a, d) in
      greatest_over (λ (k : ℕ). marked (walks k ns cs) i) (length ns) (suc k) b (step_walk k i a h s t)

module _ (ns : List Node) (w : WellFormed ns) (ps : List (ℕ × ℕ)) (cs : List ℕ)
    (to : (i j : ℕ) → i < length ns → j < length ns → class_of cs i ≡ class_of cs j → Joined ns ps i j)
    (from : (i j : ℕ) → Joined ns ps i j → class_of cs i ≡ class_of cs j)
    (inside : (i j : ℕ) → Joined ns ps i j → (i < length ns) × (j < length ns)) where
  step_reaches : (i a : ℕ) → i < length ns → Step ns cs i a → Reaches ns ps i a
  step_reaches i a h s = step (to i s.node h s.node_inside s.same_class) s.applied s.member (same (step_inside ns w cs i a s))

  visits_reach : (k i : ℕ) (v : Visits ns cs k i) (m n : ℕ) → m < n → n ≤ k → Reaches ns ps (v.visited m) (v.visited n)
  visits_reach k i v m zero l h = absurd (omega arith)
  visits_reach k i v m (suc n) l h = go (λ q. visits_reach k i v m n q (omega arith)) (dec_lt m n)
    where
      last : Reaches ns ps (v.visited n) (v.visited (suc n))
      last = step_reaches (v.visited n) (v.visited (suc n)) (v.nodes n (omega arith)) (v.goes n (omega arith))

      go : (m < n → Reaches ns ps (v.visited m) (v.visited n)) → Dec (m < n) → Reaches ns ps (v.visited m) (v.visited (suc n))
      go r (yes q) = steps (r q) last
      go r (no q) = let e : m ≡ n = omega arith in rw e last

  -- a walk of as many steps as there are nodes comes to a node twice
  pub cycle_found : cyclic ns cs ≡ true → (i : ℕ) × Reaches ns ps i i
  unfolding cyclic
  cycle_found e =
      let s = (some_means (marked (walks (length ns) ns cs)) (length ns)).0 e in
      let v : Visits ns cs (length ns) s.0 = visits ns w cs (length ns) s.0 s.1 s.2 in
      let p = pigeons (length ns) v.visited v.nodes in
      let r : Reaches ns ps (v.visited p.0) (v.visited p.1) = visits_reach (length ns) s.0 v p.0 p.1 p.2 p.3 in
      (v.visited p.0, rw (← p.4) at r)

  reaches_inside : {i j : ℕ} → Reaches ns ps i j → i < length ns
  reaches_inside (step {i = i} {j = j} p q m r) = (inside i j p).0
  reaches_inside (steps p q) = reaches_inside p

  -- one more step than the walk from where i reaches
  reaches_walk : (k : ℕ) {i j : ℕ} → Reaches ns ps i j → marked (walks k ns cs) j ≡ true → marked (walks (suc k) ns cs) i ≡ true
  reaches_walk k (step {i = i} {j = j} {k = n} {f = f} {a = a} {us = us} p q m r) e =
      let s : Step ns cs i a = record {
        node = j;
        node_inside = (inside i j p).1;
        same_class = from i j p;
        name = f;
        arguments = us;
        applied = q;
        member = m;
      } in
      let b = inside a n r in
      step_walk ns w cs k i a (inside i j p).0 s (walks_same ns w cs k a n b.0 b.1 (from a n r) ∙ e)
  reaches_walk k (steps {j = j} p q) e = reaches_walk k p (walk_less ns w cs k j (reaches_inside q) (reaches_walk k q e))

  every_length : (i : ℕ) → Reaches ns ps i i → (k : ℕ) → marked (walks k ns cs) i ≡ true
  every_length i r zero = walk_none ns w cs i (reaches_inside r)
  every_length i r (suc k) = reaches_walk k r (every_length i r k)

  -- a class that reaches itself has walks of every length
  pub found_cycle : (i : ℕ) → Reaches ns ps i i → cyclic ns cs ≡ true
  unfolding cyclic
  found_cycle i r =
      some_here (marked (walks (length ns) ns cs)) i (length ns) (reaches_inside r) (every_length i r (length ns))
