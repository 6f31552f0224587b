-- What unifies the given pairs makes joined nodes equal, by induction on how they are joined. Assumes nothing.
use Prim.Native.Nat.{ℕ, suc, ◌<◌, ◌≤◌}
use mathlib.Core.List.Memᴰ
use mathlib.Core.List.{List, [], ◌∷◌, Memᴰ, zip}
use mathlib.Core.Path.{◌≡◌, refl, sym, ap, ◌∙◌}
use native.Mathlib.Omega.{arith}
use native.Mathlib.Decide.{ℕ_discrete}
use lib.ListN.{length}
use Rattle.terms.specs.Term.{app}
use Rattle.terms.specs.Substitution.{Substitution}
use Rattle.terms.proofs.SizeLaws.{size, sizes}
use Rattle.unification.specs.Node.{Node, variable, application, node_at, each}
use Rattle.unification.specs.Unifier.{value, Unifies}
use Rattle.unification.specs.Code.Given.{WellFormed, Inside}
use Rattle.unification.specs.Closure.{OneSymbol, Joined, given, one_variable, arguments, same, back, on, Clash, different, Reaches, step, steps}
use Rattle.unification.specs.Computed.Classes.{class_of, join}
use Rattle.unification.proofs.ListLaws.{zip_left, zip_right}
use Rattle.unification.proofs.NodeLaws.{each_long, each_at, each_size, value_variable, value_application}
use Rattle.unification.proofs.CountLaws.{join_second, join_other}

-- The three rules of the closure, and those of an equivalence, for a relation R.
pub record Rules (ns : List Node) (ps : List (ℕ × ℕ)) (R : ℕ → ℕ → Type 0) : Type 0 where
  pub has_given : (a b : ℕ) → Memᴰ (a, b) ps → R a b
  pub has_variable : (i j x : ℕ) → i < length ns → j < length ns → node_at ns i ≡ variable x → node_at ns j ≡ variable x → R i j
  pub has_arguments : (i j f g : ℕ) (us vs : List ℕ) → node_at ns i ≡ application f us → node_at ns j ≡ application g vs → OneSymbol f us g vs →
      R i j → (a b : ℕ) → Memᴰ (a, b) (zip us vs) → R a b
  pub has_same : (i : ℕ) → i < length ns → R i i
  pub has_back : (i j : ℕ) → R i j → R j i
  pub has_on : (i j k : ℕ) → R i j → R j k → R i k

-- the closure is the smallest equivalence with its rules
pub smallest : {ns : List Node} {ps : List (ℕ × ℕ)} (R : ℕ → ℕ → Type 0) → Rules ns ps R → {i j : ℕ} → Joined ns ps i j → R i j
smallest R r (given {a} {b} m) = r.has_given a b m
smallest R r (one_variable {i} {j} {x} p q d e) = r.has_variable i j x p q d e
smallest R r (arguments {i} {j} {f} {g} {a} {b} {us} {vs} d e l q m) =
    r.has_arguments i j f g us vs d e l (smallest R r q) a b m
smallest R r (same {i} p) = r.has_same i p
smallest R r (back {i} {j} q) = r.has_back i j (smallest R r q)
smallest R r (on {i} {j} {k} p q) = r.has_on i j k (smallest R r p) (smallest R r q)

-- The pairs of the first list are all in the second.
abbrev pub Among : List (ℕ × ℕ) → List (ℕ × ℕ) → Type 0
Among ps qs = (p : ℕ × ℕ) → Memᴰ p ps → Memᴰ p qs

-- the closure of some pairs has the rules for any of them
pub closure_rules : {ns : List Node} (ps qs : List (ℕ × ℕ)) → Among ps qs → Rules ns ps (Joined ns qs)
closure_rules ps qs h =
    record {
      has_given = λ a b m. given (h (a, b) m);
      has_variable = λ i j x p q d e. one_variable p q d e;
      has_arguments = λ i j f g us vs d e l r a b m. arguments d e l r m;
      has_same = λ i p. same p;
      has_back = λ i j r. back r;
      has_on = λ i j k r s. on r s;
    }

-- with more pairs more is joined
pub more_joined : {ns : List Node} {ps : List (ℕ × ℕ)} (qs : List (ℕ × ℕ)) → Among ps qs → {i j : ℕ} → Joined ns ps i j → Joined ns qs i j
more_joined {ns} {ps} qs h = smallest (Joined ns qs) (closure_rules ps qs h)

-- no pairs are of nodes
pub inside_none : (ns : List Node) → Inside ns []
inside_none ns a b m = absurd (Memᴰ.not-nil m)

-- and so are pairs of nodes with a further one
pub inside_more : (ns : List Node) (a b : ℕ) (ps : List (ℕ × ℕ)) → a < length ns → b < length ns → Inside ns ps → Inside ns ((a, b) ∷ ps)
inside_more ns a b ps p q h x y (Memᴰ.head e) =
    (rw (ap (λ (z : ℕ × ℕ). z.0) e) p, rw (ap (λ (z : ℕ × ℕ). z.1) e) q)
inside_more ns a b ps p q h x y (Memᴰ.tail m) = h x y m

module _ (ns : List Node) (w : WellFormed ns) (ps : List (ℕ × ℕ)) (h : Inside ns ps) where
  -- only nodes are joined
  pub joined_inside : {i j : ℕ} → Joined ns ps i j → (i < length ns) × (j < length ns)
  joined_inside =
      smallest (λ i j. (i < length ns) × (j < length ns))
      (record {
        has_given = h;
        has_variable = λ i j x p q d e. (p, q);
        has_arguments = λ i j f g us vs d e l r a b m.
            let p : a < i = w.smaller i f us r.0 d a (zip_left us vs a b m) in
            let q : b < j = w.smaller j g vs r.1 e b (zip_right us vs a b m) in
            let pi : i < length ns = r.0 in
            let qi : j < length ns = r.1 in
            (omega arith, omega arith);
        has_same = λ i p. (p, p);
        has_back = λ i j r. (r.1, r.0);
        has_on = λ i j k r s. (r.0, s.1);
      })

  module _ (σ : Substitution) (u : Unifies ns ps σ) where
    equal_arguments : (i j f g : ℕ) (us vs : List ℕ) → i < length ns → j < length ns → node_at ns i ≡ application f us →
        node_at ns j ≡ application g vs → value ns σ i ≡ value ns σ j → (f ≡ g) × (each (value ns σ) us ≡ each (value ns σ) vs)
    equal_arguments i j f g us vs p q d e r =
        let s : app f (each (value ns σ) us) ≡ app g (each (value ns σ) vs) = sym (value_application ns w σ i f us p d) ∙ r ∙
        value_application ns w σ j g vs q e in
        (cc, cc)

    -- whatever makes the given pairs equal makes joined nodes equal
    pub joined_equal : {i j : ℕ} → Joined ns ps i j → value ns σ i ≡ value ns σ j
    joined_equal (given {a} {b} m) = u a b m
    joined_equal (one_variable {i} {j} {x} p q d e) = value_variable ns w σ i x p d ∙ sym (value_variable ns w σ j x q e)
    joined_equal (arguments {i} {j} {f} {g} {a} {b} {us} {vs} d e l q m) =
        let p = joined_inside q in
        each_at (value ns σ) (value ns σ) us vs (equal_arguments i j f g us vs p.0 p.1 d e (joined_equal q)).1 a b m
    joined_equal (same p) = refl
    joined_equal (back q) = sym (joined_equal q)
    joined_equal (on p q) = joined_equal p ∙ joined_equal q

    -- so a clash stands only where there is no unifier
    pub clash_none : Clash ns ps → ⊥
    clash_none (different {i} {j} {f} {g} {us} {vs} q d e n) =
        let p = joined_inside q in
        let r = equal_arguments i j f g us vs p.0 p.1 d e (joined_equal q) in
        n (r.0, each_long (value ns σ) (value ns σ) us vs r.1)

    -- what a class reaches is smaller
    reaches_smaller : {i j : ℕ} → Reaches ns ps i j → size (value ns σ j) < size (value ns σ i)
    unfolding size
    reaches_smaller (step {i} {j} {k} {f} {a} {us} p e m q) =
        let d : value ns σ i ≡ app f (each (value ns σ) us) = joined_equal p ∙ value_application ns w σ j f us (joined_inside p).1 e in
        let s : size (value ns σ i) ≡ suc (sizes (each (value ns σ) us)) = ap size d in
        let l : size (value ns σ a) ≤ sizes (each (value ns σ) us) = each_size (value ns σ) us a m in
        let t : size (value ns σ a) ≡ size (value ns σ k) = ap size (joined_equal q) in
        omega arith
    reaches_smaller (steps {i} {j} {k} p q) =
        let a : size (value ns σ j) < size (value ns σ i) = reaches_smaller p in
        let b : size (value ns σ k) < size (value ns σ j) = reaches_smaller q in
        omega arith

    -- so a class that reaches itself leaves none either
    pub cycle_none : (i : ℕ) → Reaches ns ps i i → ⊥
    cycle_none i r = let l : size (value ns σ i) < size (value ns σ i) = reaches_smaller r in omega arith

-- nodes stay joined with those that name their classes, where joined nodes are put in one class
pub classes_stay : (ns : List Node) (ps : List (ℕ × ℕ)) (cs : List ℕ) (a b : ℕ) → length cs ≡ length ns → a < length ns → b < length ns →
    Joined ns ps a b → ((i : ℕ) → i < length ns → Joined ns ps i (class_of cs i)) → (i : ℕ) → i < length ns →
    Joined ns ps i (class_of (join cs (a, b)) i)
classes_stay ns ps cs a b l p q d named i h = go (ℕ_discrete (class_of cs i) (class_of cs b))
  where
    go : Dec (class_of cs i ≡ class_of cs b) → Joined ns ps i (class_of (join cs (a, b)) i)
    go (yes z) =
        rw (join_second cs a b i (rw l h) z)
        (on (on (on (rw z at (named i h)) (back (named b q))) (back d)) (named a p))
    go (no z) = rw (join_other cs a b i (rw l h) z) (named i h)
