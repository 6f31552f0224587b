-- Classes without clash and cycle are a solved form: heads by `head_in`, ordered by the longest walk. Assumes nothing.
use Prim.Native.Nat.{ℕ, ◌<◌, ◌≤◌}
use mathlib.Core.Bool.{Bool, true, false, cond, ◌&&◌, false≢true}
use mathlib.Core.List.{List}
use mathlib.Core.Path.{◌≡◌, refl, sym, ap, ◌∙◌}
use native.Mathlib.Decide.{ℕ_discrete}
use native.Mathlib.Omega.{arith}
use borrow.Author.Tests.{eqb-true, eq-eqb}
use lib.Dec.{eqb}
use lib.ListN.{length}
use Rattle.table.specs.Some.{some_below}
use Rattle.table.proofs.SomeLaws.{some_means, none_some}
use Rattle.table.proofs.BoolLaws.{and_true_left, and_true_right}
use Rattle.unification.specs.Node.{Node, variable, application, node_at}
use Rattle.unification.specs.Code.Given.{WellFormed}
use Rattle.unification.specs.Closure.{OneSymbol, Joined, given, one_variable, arguments, Clash, different}
use Rattle.unification.specs.Computed.Variables.{variables_of}
use Rattle.unification.specs.Computed.Classes.{class_of}
use Rattle.unification.specs.Computed.Walks.{cyclic}
use Rattle.unification.specs.Computed.Solution.{first_with, least_node, is_application, node_of, is_application_in, is_variable_in, head_in}
use Rattle.unification.specs.Code.Solved.{HeadFits, Solved}
use Rattle.unification.proofs.VariableLaws.{variables_rise, variables_present, present_variables}
use Rattle.unification.proofs.FirstLaws.{is_application_lem, first_in, first_has, first_least, least_below, least_has, node_of_lem}
use Rattle.unification.proofs.WalkLaws.{longest, longest_same, argument_shorter}

-- The head of node i is h: an application of its class, or where there is none, a node of the lowest variable of its class.
data HeadIs (ns : List Node) (cs : List ℕ) (i h : ℕ) : Type 0 where
  applied : (f : ℕ) (us : List ℕ) → h < length ns → class_of cs i ≡ class_of cs h → node_at ns h ≡ application f us → HeadIs ns cs i h
  free : (y : ℕ) → h < length ns → class_of cs i ≡ class_of cs h → node_at ns h ≡ variable y →
      ((j x : ℕ) → j < length ns → class_of cs i ≡ class_of cs j → node_at ns j ≡ variable x → y ≤ x) →
      ((j f : ℕ) (us : List ℕ) → j < length ns → class_of cs i ≡ class_of cs j → node_at ns j ≡ application f us → ⊥) → HeadIs ns cs i h

-- what a head has: it is a node of the class, the lowest if it is a variable, and an application if its node is one
head_inside : {ns : List Node} {cs : List ℕ} {i h : ℕ} → HeadIs ns cs i h → h < length ns
head_inside (applied f us p c e) = p
head_inside (free y p c e l n) = p

head_class : {ns : List Node} {cs : List ℕ} {i h : ℕ} → HeadIs ns cs i h → class_of cs i ≡ class_of cs h
head_class (applied f us p c e) = c
head_class (free y p c e l n) = c

lowest_of : {ns : List Node} {cs : List ℕ} {i h : ℕ} (x y : ℕ) → i < length ns → HeadIs ns cs i h → node_at ns i ≡ variable x →
    node_at ns h ≡ variable y → y ≤ x
lowest_of x y p (applied f us q c e) d g =
    let z : application f us ≡ variable y = sym e ∙ g in
    let o : ◌≡◌ {A = ℕ} 0 1 = cc in
    absurd (omega arith)
lowest_of {i = i} x y p (free v q c e l n) d g =
    let z : variable v ≡ variable y = sym e ∙ g in
    let o : v ≡ y = cc in
    let b : v ≤ x = l i x p refl d in
    omega arith

head_applied : {ns : List Node} {cs : List ℕ} {i h : ℕ} (f : ℕ) (us : List ℕ) → i < length ns → HeadIs ns cs i h → node_at ns i ≡ application f us →
    (g : ℕ) × (vs : List ℕ) × (node_at ns h ≡ application g vs)
head_applied f us p (applied g vs q c e) d = (g, vs, e)
head_applied {i = i} f us p (free y q c e l n) d = absurd (n i f us p refl d)

-- nodes of one class have one head
head_same : (ns : List Node) (cs : List ℕ) (i j : ℕ) → class_of cs i ≡ class_of cs j → head_in ns cs i ≡ head_in ns cs j
unfolding head_in is_application_in is_variable_in
head_same ns cs i j e =
    ap
    (λ (c : ℕ).
    cond (some_below (length ns) (λ k. eqb c (class_of cs k) && is_application (node_at ns k)))
    (least_node ns (λ k. eqb c (class_of cs k) && is_application (node_at ns k)))
    (node_of ns (first_with (λ x. eqb c (class_of cs (node_of ns x))) 0 (variables_of ns))))
    e

module _ (ns : List Node) (ps : List (ℕ × ℕ)) (cs : List ℕ) (from : (i j : ℕ) → Joined ns ps i j → class_of cs i ≡ class_of cs j) where
  -- an application in the class of i, as the test has it
  in_class : (i j f : ℕ) (us : List ℕ) → class_of cs i ≡ class_of cs j → node_at ns j ≡ application f us → is_application_in ns cs i j ≡ true
  unfolding is_application_in is_application
  in_class i j f us e d = rw (eq-eqb (class_of cs i) (class_of cs j) e, d)

  in_class_of : (i j : ℕ) → is_application_in ns cs i j ≡ true → class_of cs i ≡ class_of cs j
  unfolding is_application_in
  in_class_of i j e = eqb-true _ _ (and_true_left (eqb (class_of cs i) (class_of cs j)) (is_application (node_at ns j)) e)

  application_of : (i j : ℕ) → is_application_in ns cs i j ≡ true → (f : ℕ) × (us : List ℕ) × (node_at ns j ≡ application f us)
  unfolding is_application_in
  application_of i j e =
      is_application_lem (node_at ns j) (and_true_right (eqb (class_of cs i) (class_of cs j)) (is_application (node_at ns j)) e)

  variable_class : (i j x : ℕ) → i < length ns → j < length ns → node_at ns j ≡ variable x → class_of cs i ≡ class_of cs j →
      is_variable_in ns cs i x ≡ true
  unfolding is_variable_in
  variable_class i j x p q d e =
      let n = node_of_lem ns x (j, q, d) in
      eq-eqb _ _ (e ∙ from j (node_of ns x) (one_variable q n.holds.0 d n.holds.1))

  class_of_variable : (i x : ℕ) → is_variable_in ns cs i x ≡ true → class_of cs i ≡ class_of cs (node_of ns x)
  unfolding is_variable_in
  class_of_variable i x e = eqb-true _ _ e

  -- what `head_in` finds
  head_is : (i : ℕ) → i < length ns → HeadIs ns cs i (head_in ns cs i)
  unfolding head_in
  head_is i p = pick (some_below (length ns) (is_application_in ns cs i)) refl
    where
      pick : (b : Bool) → some_below (length ns) (is_application_in ns cs i) ≡ b →
          HeadIs ns cs i (cond b (least_node ns (is_application_in ns cs i)) (node_of ns (first_with (is_variable_in ns cs i) 0 (variables_of ns))))
      pick true e =
          let m = (some_means (is_application_in ns cs i) (length ns)).0 e in
          let t : is_application_in ns cs i (least_node ns (is_application_in ns cs i)) ≡ true =
          least_has ns (is_application_in ns cs i) m.0 m.1 m.2 in
          let a = application_of i (least_node ns (is_application_in ns cs i)) t in
          applied a.0 a.1 (least_below ns (is_application_in ns cs i) m.0 m.1 m.2) (in_class_of i _ t) a.2
      pick false e = lone (node_at ns i) refl
        where
          none : (j f : ℕ) (us : List ℕ) → j < length ns → class_of cs i ≡ class_of cs j → node_at ns j ≡ application f us → ⊥
          none j f us q c d = false≢true (sym (none_some (is_application_in ns cs i) (length ns) e j q) ∙ in_class i j f us c d)

          lone : (o : Node) → node_at ns i ≡ o → HeadIs ns cs i (node_of ns (first_with (is_variable_in ns cs i) 0 (variables_of ns)))
          lone (application f us) d = absurd (none i f us p refl d)
          lone (variable x) d =
              let m = present_variables ns x (i, p, d) in
              let t = variable_class i i x p p d refl in
              let q = variables_present ns _ (first_in (is_variable_in ns cs i) 0 (variables_of ns) x m t) in
              let n = node_of_lem ns (first_with (is_variable_in ns cs i) 0 (variables_of ns)) q in
              free (first_with (is_variable_in ns cs i) 0 (variables_of ns)) n.holds.0
              (class_of_variable i _ (first_has (is_variable_in ns cs i) 0 (variables_of ns) x m t)) n.holds.1
              (λ j y l c g. first_least (is_variable_in ns cs i) 0 (variables_of ns) (variables_rise ns) y (present_variables ns y (j, l, g))
              (variable_class i j y p l g c))
              none

  -- a variable that is a head is the lowest of its class
  pub head_lowest : (i x y : ℕ) → i < length ns → node_at ns i ≡ variable x → node_at ns (head_in ns cs i) ≡ variable y → y ≤ x
  head_lowest i x y p d e = lowest_of x y p (head_is i p) d e

module _ (ns : List Node) (w : WellFormed ns) (ps : List (ℕ × ℕ)) (cs : List ℕ)
    (to : (i j : ℕ) → i < length ns → j < length ns → class_of cs i ≡ class_of cs j → Joined ns ps i j)
    (from : (i j : ℕ) → Joined ns ps i j → class_of cs i ≡ class_of cs j) (no_clash : Clash ns ps → ⊥) (no-cycle : cyclic ns cs ≡ false) where
  is : (i : ℕ) → i < length ns → HeadIs ns cs i (head_in ns cs i)
  is = head_is ns ps cs from

  joined_to : (i : ℕ) → i < length ns → Joined ns ps i (head_in ns cs i)
  joined_to i p = to i (head_in ns cs i) p (head_inside (is i p)) (head_class (is i p))

  -- joined applications have one symbol
  one_symbol : (i j f g : ℕ) (us vs : List ℕ) → Joined ns ps i j → node_at ns i ≡ application f us → node_at ns j ≡ application g vs →
      OneSymbol f us g vs
  one_symbol i j f g us vs q d e = go (ℕ_discrete f g) (ℕ_discrete (length us) (length vs))
    where
      go : Dec (f ≡ g) → Dec (length us ≡ length vs) → OneSymbol f us g vs
      go (yes a) (yes b) = (a, b)
      go (yes a) (no b) = absurd (no_clash (different q d e (λ r. b r.1)))
      go (no a) (yes b) = absurd (no_clash (different q d e (λ r. a r.0)))
      go (no a) (no b) = absurd (no_clash (different q d e (λ r. a r.0)))

  fits : (i f : ℕ) (us : List ℕ) → i < length ns → node_at ns i ≡ application f us → HeadFits ns (head_in ns cs) i f us
  fits i f us p e =
      let a = head_applied f us p (is i p) e in
      let s = one_symbol i (head_in ns cs i) f a.0 us a.1 (joined_to i p) e a.2 in
      let d : node_at ns (head_in ns cs i) ≡ application f a.1 = a.2 ∙ ap (λ (g : ℕ). application g a.1) (sym s.0) in
      record {
        arguments = a.1;
        applied = d;
        as_long = s.1;
        one_head = λ b c m. head_same ns cs b c (from b c (arguments e d (refl, s.1) (joined_to i p) m));
      }

  -- the classes are a solved form
  pub classes_solved : Solved ns ps (head_in ns cs) (longest ns cs)
  classes_solved =
      record {
        closure = record {
          joined = joined_to;
          given = λ a b m. head_same ns cs a b (from a b (given m));
          one_variable = λ i j x p q d e. head_same ns cs i j (from i j (one_variable p q d e));
          applications = fits;
        };
        falls = λ i f us p e a m.
            let q = head_inside (is i p) in
            let l : a < head_in ns cs i = w.smaller (head_in ns cs i) f us q e a m in
            let b : a < length ns = omega arith in
            let g : longest ns cs a < longest ns cs (head_in ns cs i) =
            argument_shorter ns w cs no-cycle (head_in ns cs i) (head_in ns cs i) f us q q refl e a m in
            let c : longest ns cs a ≡ longest ns cs (head_in ns cs a) =
            longest_same ns w cs a (head_in ns cs a) b (head_inside (is a b)) (head_class (is a b)) in
            omega arith;
      }
