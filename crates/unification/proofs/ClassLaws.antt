-- The list `classes` computes the closure: only joined nodes are put in one class, and the last round asks for nothing more, as every round
-- before it lowers the number of classes or is stable.
-- Assumes nothing.
use Prim.Native.Nat.{ℕ, zero, suc, ◌<◌, ◌≤◌}
use mathlib.Core.Bool.{Bool, true, false, not, ◌&&◌, false≢true}
use mathlib.Core.List.Memᴰ
use mathlib.Core.List.{List, [], ◌∷◌, Memᴰ, zip}
use mathlib.Core.Logic.{inl, inr, ◌↔◌}
use mathlib.Core.Path.{◌≡◌, refl, sym, ap, ◌∙◌}
use native.Mathlib.Omega.{arith}
use borrow.Author.Tests.{eqb-true, eq-eqb}
use lib.Dec.{eqb}
use lib.ListN.{length}
use Rattle.table.proofs.BoolLaws.{and_true_left, and_true_right, both_equal}
use Rattle.table.proofs.SomeLaws.{some_means, some_here}
use Rattle.unification.specs.Node.{Node, variable, application, node_at, tabulate}
use Rattle.unification.specs.Closure.{OneSymbol, Joined, given, one_variable, arguments, same, back, on, Clash, different}
use Rattle.unification.specs.Code.Given.{WellFormed, Inside}
use Rattle.unification.specs.Computed.Classes.{class_of, join, join_all, same_symbol, asks, gather, asked, round, rounds, classes, differ, clash_at, clash_with, clashes}
use Rattle.unification.specs.Code.Heads.{Partition, roots, Unites}
use Rattle.unification.proofs.ListLaws.{tabulate_length, tabulate_at, gathered, gathered_from}
use Rattle.unification.proofs.JoinedLaws.{joined_inside, classes_stay}
use Rattle.unification.proofs.CountLaws.{Lowers, roots_most, roots_some, join_length, join_first, join_second, join_stays, join_keeps, join_all_lowers}

-- the test of symbols
pub symbol_means : (f : ℕ) (us : List ℕ) (g : ℕ) (vs : List ℕ) → same_symbol f us g vs ≡ true ↔ OneSymbol f us g vs
unfolding same_symbol
symbol_means f us g vs = both_equal f g (length us) (length vs)

join_all_keeps : (P : List ℕ → Type 0) (qs : List (ℕ × ℕ)) → ((cs : List ℕ) (a b : ℕ) → Memᴰ (a, b) qs → P cs → P (join cs (a, b))) → (cs : List ℕ) →
    P cs → P (join_all cs qs)
unfolding join_all
join_all_keeps P [] f cs x = x
join_all_keeps P (q ∷ qs) f cs x =
    join_all_keeps P qs (λ ds a b m. f ds a b (Memᴰ.tail m)) (join cs q) (f cs q.0 q.1 (Memᴰ.head refl) x)

rounds_keep : (P : List ℕ → Type 0) (ns : List Node) → ((cs : List ℕ) → P cs → P (round ns cs)) → (k : ℕ) (cs : List ℕ) → P cs → P (rounds k ns cs)
unfolding rounds
rounds_keep P ns f zero cs x = x
rounds_keep P ns f (suc k) cs x = rounds_keep P ns f k (round ns cs) (f cs x)

rounds_stay : (ns : List Node) (k : ℕ) (cs : List ℕ) → round ns cs ≡ cs → rounds k ns cs ≡ cs
unfolding rounds
rounds_stay ns zero cs e = refl
rounds_stay ns (suc k) cs e = ap (rounds k ns) e ∙ rounds_stay ns k cs e

-- Nodes i and j of n are in one class.
abbrev OneClass : ℕ → ℕ → ℕ → List ℕ → Type 0
OneClass n i j cs = (length cs ≡ n) × (class_of cs i ≡ class_of cs j)

join_all_stays : (n i j : ℕ) → i < n → j < n → (qs : List (ℕ × ℕ)) (cs : List ℕ) → OneClass n i j cs → OneClass n i j (join_all cs qs)
join_all_stays n i j hi hj qs =
    join_all_keeps (OneClass n i j) qs (λ cs a b m r. (join_length cs (a, b) ∙ r.0, join_stays cs a b i j (rw r.0 hi) (rw r.0 hj) r.1))

join_all_joins : (n a b : ℕ) → a < n → b < n → (qs : List (ℕ × ℕ)) (cs : List ℕ) → length cs ≡ n → Memᴰ (a, b) qs → OneClass n a b (join_all cs qs)
unfolding join_all
join_all_joins n a b ha hb [] cs l m = absurd (Memᴰ.not-nil m)
join_all_joins n a b ha hb (q ∷ qs) cs l (Memᴰ.head z) =
    let e : class_of (join cs (a, b)) a ≡ class_of (join cs (a, b)) b = join_first cs a b a (rw l ha) refl ∙
    sym (join_second cs a b b (rw l hb) refl) in
    join_all_stays n a b ha hb qs (join cs q) (join_length cs q ∙ l, rw z at e)
join_all_joins n a b ha hb (q ∷ qs) cs l (Memᴰ.tail m) =
    join_all_joins n a b ha hb qs (join cs q) (join_length cs q ∙ l) m

-- All that the closure asks of any two nodes.
abbrev wanted : List Node → List ℕ → List (ℕ × ℕ)
wanted ns cs = gather (length ns) (λ i. gather (length ns) (asked ns cs i))

round_stays : (ns : List Node) (n i j : ℕ) → i < n → j < n → (cs : List ℕ) → OneClass n i j cs → OneClass n i j (round ns cs)
unfolding round
round_stays ns n i j hi hj cs = join_all_stays n i j hi hj (wanted ns cs) cs

wanted_here : (ns : List Node) (cs : List ℕ) (i j : ℕ) → i < length ns → j < length ns → (a b : ℕ) → Memᴰ (a, b) (asked ns cs i j) →
    Memᴰ (a, b) (wanted ns cs)
wanted_here ns cs i j hi hj a b m =
    gathered (length ns) (λ k. gather (length ns) (asked ns cs k)) (a, b) i hi
    (gathered (length ns) (asked ns cs i) (a, b) j hj m)

asked_variable : (ns : List Node) (cs : List ℕ) (i j x : ℕ) → node_at ns i ≡ variable x → node_at ns j ≡ variable x → Memᴰ (i, j) (asked ns cs i j)
unfolding asked asks
asked_variable ns cs i j x d e = rw (d, e, eq-eqb x x refl) (Memᴰ.head refl)

asked_arguments : (ns : List Node) (cs : List ℕ) (i j f g : ℕ) (us vs : List ℕ) → node_at ns i ≡ application f us → node_at ns j ≡ application g vs →
    OneSymbol f us g vs → class_of cs i ≡ class_of cs j → (a b : ℕ) → Memᴰ (a, b) (zip us vs) → Memᴰ (a, b) (asked ns cs i j)
unfolding asked asks
asked_arguments ns cs i j f g us vs d e l c a b m =
    rw (d, e, eq-eqb (class_of cs i) (class_of cs j) c, (symbol_means f us g vs).1 l) m

module _ (ns : List Node) (w : WellFormed ns) (ps : List (ℕ × ℕ)) (h : Inside ns ps) where
  -- The classes are a partition, and each node is joined with the one that names its class.
  record Sound (cs : List ℕ) : Type 0 where
    partition : Partition (length ns) cs
    named : (i : ℕ) → i < length ns → Joined ns ps i (class_of cs i)

  sound_joined : (cs : List ℕ) → Sound cs → (i j : ℕ) → i < length ns → j < length ns → class_of cs i ≡ class_of cs j → Joined ns ps i j
  sound_joined cs s i j hi hj e = on (rw e at (s.named i hi)) (back (s.named j hj))

  join_sound : (cs : List ℕ) (a b : ℕ) → Joined ns ps a b → Sound cs → Sound (join cs (a, b))
  join_sound cs a b q s = record {
    partition = join_keeps (length ns) cs a b r.0 r.1 s.partition;
    named =
        classes_stay ns ps cs a b s.partition.size r.0 r.1 q s.named;
  }
    where
      r : (a < length ns) × (b < length ns)
      r = joined_inside ns w ps h q

  join_all_sound : (qs : List (ℕ × ℕ)) → ((a b : ℕ) → Memᴰ (a, b) qs → Joined ns ps a b) → (cs : List ℕ) → Sound cs → Sound (join_all cs qs)
  join_all_sound qs f = join_all_keeps Sound qs (λ cs a b m. join_sound cs a b (f a b m))

  asks_joined : (t : Bool) (i j : ℕ) (m n : Node) → node_at ns i ≡ m → node_at ns j ≡ n → i < length ns → j < length ns →
      (t ≡ true → Joined ns ps i j) → (a b : ℕ) → Memᴰ (a, b) (asks t i j m n) → Joined ns ps a b
  unfolding asks
  asks_joined t i j (variable x) (variable y) d e hi hj f a b q = pick (eqb x y) refl
    where
      pick : (u : Bool) → eqb x y ≡ u → Joined ns ps a b
      pick true z =
          let s : ◌≡◌ {A = ℕ × ℕ} (a, b) (i, j) = Memᴰ.eq_of_singleton (rw z at q) in
          let sa : a ≡ i = ap (λ (v : ℕ × ℕ). v.0) s in
          let sb : b ≡ j = ap (λ (v : ℕ × ℕ). v.1) s in
          rw (sa, sb) (one_variable hi hj d (e ∙ ap variable (sym (eqb-true x y z))))
      pick false z = absurd (Memᴰ.not-nil (rw z at q))
  asks_joined t i j (variable x) (application g vs) d e hi hj f a b q = absurd (Memᴰ.not-nil q)
  asks_joined t i j (application k us) (variable y) d e hi hj f a b q = absurd (Memᴰ.not-nil q)
  asks_joined t i j (application k us) (application g vs) d e hi hj f a b q =
      pick (t && same_symbol k us g vs) refl
    where
      pick : (u : Bool) → (t && same_symbol k us g vs) ≡ u → Joined ns ps a b
      pick true z =
          let s = (symbol_means k us g vs).0 (and_true_right t (same_symbol k us g vs) z) in
          arguments d e s (f (and_true_left t (same_symbol k us g vs) z)) (rw z at q)
      pick false z = absurd (Memᴰ.not-nil (rw z at q))

  wanted_joined : (cs : List ℕ) → Sound cs → (a b : ℕ) → Memᴰ (a, b) (wanted ns cs) → Joined ns ps a b
  unfolding asked
  wanted_joined cs s a b m =
      let r = gathered_from (length ns) (λ k. gather (length ns) (asked ns cs k)) (a, b) m in
      let i = r.0 in
      let q = gathered_from (length ns) (asked ns cs i) (a, b) r.2 in
      let j = q.0 in
      asks_joined (eqb (class_of cs i) (class_of cs j)) i j (node_at ns i) (node_at ns j) refl refl r.1 q.1
      (λ e. sound_joined cs s i j r.1 q.1 (eqb-true _ _ e)) a b q.2

  round_sound : (cs : List ℕ) → Sound cs → Sound (round ns cs)
  unfolding round
  round_sound cs s = join_all_sound (wanted ns cs) (wanted_joined cs s) cs s

  -- with as many rounds as there are classes all that is asked is of one class
  settles : (k : ℕ) (cs : List ℕ) → Sound cs → roots (length ns) cs ≤ k → Unites (rounds k ns cs) (wanted ns (rounds k ns cs))
  unfolding rounds round
  settles zero cs s l =
      λ a b m.
      let r = gathered_from (length ns) (λ k. gather (length ns) (asked ns cs k)) (a, b) m in
      let q = roots_some (length ns) cs s.partition r.0 r.1 in
      absurd (omega (arith, q))
  settles (suc k) cs s l =
      go (λ q. settles k (round ns cs) (round_sound cs s) q)
      (join_all_lowers (length ns) (wanted ns cs) cs s.partition (λ a b m. joined_inside ns w ps h (wanted_joined cs s a b m)))
    where
      go : (roots (length ns) (round ns cs) ≤ k → Unites (rounds k ns (round ns cs)) (wanted ns (rounds k ns (round ns cs)))) →
          Lowers (length ns) (wanted ns cs) cs → Unites (rounds (suc k) ns cs) (wanted ns (rounds (suc k) ns cs))
      go f (inl q) = f (omega arith)
      go f (inr r) = rw (rounds_stay ns (suc k) cs r.0) r.1

  -- Each node in a class of its own.
  abbrev alone : List ℕ
  alone = tabulate (length ns) (λ i. i)

  alone_sound : Sound alone
  alone_sound =
      record {
        partition = record {
          size = tabulate_length (length ns) (λ i. i);
          below = λ i hi. rw (at i hi) hi;
          own = λ i hi. ap (class_of alone) (at i hi);
        };
        named = λ i hi. rw (at i hi) (same hi);
      }
    where
      at : (i : ℕ) → i < length ns → class_of alone i ≡ i
      at i hi = tabulate_at (length ns) (λ i. i) 0 i hi

  given_sound : Sound (join_all alone ps)
  given_sound = join_all_sound ps (λ a b m. given m) alone alone_sound

  classes_sound : Sound (classes ns ps)
  unfolding classes
  classes_sound = rounds_keep Sound ns round_sound (length ns) (join_all alone ps) given_sound

  classes_settled : Unites (classes ns ps) (wanted ns (classes ns ps))
  unfolding classes
  classes_settled = settles (length ns) (join_all alone ps) given_sound (roots_most (length ns) (join_all alone ps))

  classes_given : (a b : ℕ) → Memᴰ (a, b) ps → class_of (classes ns ps) a ≡ class_of (classes ns ps) b
  unfolding classes
  classes_given a b m =
      let r = h a b m in
      let g = join_all_joins (length ns) a b r.0 r.1 ps alone alone_sound.partition.size m in
      (rounds_keep (OneClass (length ns) a b) ns (round_stays ns (length ns) a b r.0 r.1) (length ns) (join_all alone ps) g).1

  -- nodes of one class are joined
  pub class_joined : (i j : ℕ) → i < length ns → j < length ns → class_of (classes ns ps) i ≡ class_of (classes ns ps) j → Joined ns ps i j
  class_joined = sound_joined (classes ns ps) classes_sound

  -- joined nodes are of one class
  pub joined_class : {i j : ℕ} → Joined ns ps i j → class_of (classes ns ps) i ≡ class_of (classes ns ps) j
  joined_class (given {a} {b} m) = classes_given a b m
  joined_class (one_variable {i} {j} {x} p q d e) =
      classes_settled i j (wanted_here ns (classes ns ps) i j p q i j (asked_variable ns (classes ns ps) i j x d e))
  joined_class (arguments {i} {j} {f} {g} {a} {b} {us} {vs} d e l q m) =
      let r = joined_inside ns w ps h q in
      classes_settled a b (wanted_here ns (classes ns ps) i j r.0 r.1 a b
      (asked_arguments ns (classes ns ps) i j f g us vs d e l (joined_class q) a b m))
  joined_class (same p) = refl
  joined_class (back q) = sym (joined_class q)
  joined_class (on p q) = joined_class p ∙ joined_class q

  differ_clash : (i j : ℕ) → Joined ns ps i j → (m n : Node) → node_at ns i ≡ m → node_at ns j ≡ n → differ m n ≡ true → Clash ns ps
  unfolding differ
  differ_clash i j q (variable x) n d e z = absurd (false≢true z)
  differ_clash i j q (application f us) (variable y) d e z = absurd (false≢true z)
  differ_clash i j q (application f us) (application g vs) d e z =
      different q d e (λ l. false≢true (rw ((symbol_means f us g vs).1 l) at z))

  -- a clash that is computed is one
  pub clash_found : clashes ns (classes ns ps) ≡ true → Clash ns ps
  unfolding clashes clash_with clash_at
  clash_found e =
      let cs = classes ns ps in
      let r = (some_means (clash_with ns cs) (length ns)).0 e in
      let i = r.0 in
      let s = (some_means (clash_at ns cs i) (length ns)).0 r.2 in
      let j = s.0 in
      let c = and_true_left (eqb (class_of cs i) (class_of cs j)) (differ (node_at ns i) (node_at ns j)) s.2 in
      let d = and_true_right (eqb (class_of cs i) (class_of cs j)) (differ (node_at ns i) (node_at ns j)) s.2 in
      differ_clash i j (class_joined i j r.1 s.1 (eqb-true _ _ c)) (node_at ns i) (node_at ns j) refl refl d

  -- every clash is computed
  pub found_clash : Clash ns ps → clashes ns (classes ns ps) ≡ true
  unfolding clashes clash_with clash_at differ
  found_clash (different {i} {j} {f} {g} {us} {vs} q d e n) =
      some_here (clash_with ns (classes ns ps)) i (length ns) r.0 (some_here (clash_at ns (classes ns ps) i) j (length ns) r.1 at)
    where
      r : (i < length ns) × (j < length ns)
      r = joined_inside ns w ps h q

      symbols : (t : Bool) → same_symbol f us g vs ≡ t → not t ≡ true
      symbols true z = absurd (n ((symbol_means f us g vs).0 z))
      symbols false z = refl

      at : clash_at ns (classes ns ps) i j ≡ true
      at = rw (d, e, eq-eqb _ _ (joined_class q)) (symbols _ refl)
