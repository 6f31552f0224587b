-- The test `right_node` says what `RightNode` says, by cases on the kind and on whether the count is 0. Assumes nothing.
use Prim.Native.Nat.{ℕ, ◌≤◌}
use mathlib.Core.Bool.{Bool, true, false, ◌&&◌}
use mathlib.Core.Path.{◌≡◌, refl, ◌∙◌}
use native.Mathlib.Omega.{arith}
use borrow.Author.Tests.{eq-eqb, ne_eqb, le-leb, leb-true, eqb-true, eqb-false}
use lib.Dec.{eqb, leb}
use Rattle.table.specs.Limits.{max_variable, max_name, max_count}
use Rattle.table.specs.Conditions.{start_of, right_variable, right_application, right_node}
use Rattle.table.specs.Code.Accepted.{RightNode, variable, constant, application}
use Rattle.table.proofs.BoolLaws.{and_true_left, and_true_right}

variable_means : (n f c : ℕ) → right_variable n f c ≡ true → (n ≤ max_variable) × (f ≡ 0) × (c ≡ 0)
unfolding right_variable
variable_means n f c h =
    let l = and_true_left (leb n max_variable && eqb f 0) (eqb c 0) h in (
      leb-true _ _ (and_true_left _ (eqb f 0) l),
      eqb-true _ _ (and_true_right (leb n max_variable) _ l),
      eqb-true _ _ (and_true_right (leb n max_variable && eqb f 0) _ h),
    )

application_means : (n f c e : ℕ) → right_application n f c e ≡ true → (n ≤ max_name) × (c ≤ max_count) × (f ≡ start_of c e)
unfolding right_application
application_means n f c e h =
    let l = and_true_left (leb n max_name && leb c max_count) (eqb f (start_of c e)) h in (
      leb-true _ _ (and_true_left _ (leb c max_count) l),
      leb-true _ _ (and_true_right (leb n max_name) _ l),
      eqb-true _ _ (and_true_right (leb n max_name && leb c max_count) _ h),
    )

of_application : (k n f c e : ℕ) → k ≡ 1 → right_application n f c e ≡ true → RightNode k n f c e
unfolding start_of
of_application k n f c e q h = pick (eqb c 0) refl
  where
    m : (n ≤ max_name) × (c ≤ max_count) × (f ≡ start_of c e)
    m = application_means n f c e h

    pick : (b : Bool) → eqb c 0 ≡ b → RightNode k n f c e
    pick true z = constant q m.0 (m.2 ∙ rw z) (eqb-true _ _ z)
    pick false z =
        let d : c ≡ 0 → ⊥ = eqb-false _ _ z in
        application q m.0 (m.2 ∙ rw z) (omega (arith, d)) m.1

-- the test holds: the node is right
pub right_node_means : (k n f c e : ℕ) → right_node k n f c e ≡ true → RightNode k n f c e
unfolding right_node
right_node_means k n f c e h = pick (eqb k 0) refl (eqb k 1) refl
  where
    pick : (a : Bool) → eqb k 0 ≡ a → (b : Bool) → eqb k 1 ≡ b → RightNode k n f c e
    pick true y b z =
        let m = variable_means n f c (rw y at h) in
        variable (eqb-true _ _ y) m.0 m.1 m.2
    pick false y true z = of_application k n f c e (eqb-true _ _ z) (rw (y, z) at h)
    pick false y false z = let x : false ≡ true = rw (y, z) at h in let w : ◌≡◌ {A = ℕ} 0 1 = cc in absurd (omega arith)

-- the node is right: the test holds
pub right_node_holds : (k n f c e : ℕ) → RightNode k n f c e → right_node k n f c e ≡ true
unfolding right_node right_variable right_application start_of
right_node_holds k n f c e (variable q a b d) = rw (q, b, d, le-leb _ _ a)
right_node_holds k n f c e (constant q a b d) = rw (q, b, d, le-leb _ _ a)
right_node_holds k n f c e (application q a b d g) =
    let z : eqb c 0 ≡ false = ne_eqb _ _ (λ (x : c ≡ 0). omega arith) in
    rw (q, z, b, le-leb _ _ a, le-leb _ _ g, eq-eqb e e refl)

pub right_count_lem : {k n f c e : ℕ} → RightNode k n f c e → c ≤ max_count
right_count_lem (variable q a b d) = omega arith
right_count_lem (constant q a b d) = omega arith
right_count_lem (application q a b d g) = g
