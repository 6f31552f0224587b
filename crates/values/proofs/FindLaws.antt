-- The search for a representative that is alike: along those with the node's key, which are just those on the way. Assumes nothing.
use Prim.Native.Nat.{ℕ, ◌<◌, ◌≤◌}
use mathlib.Core.Bool.{true, false}
use mathlib.Core.List.{List}
use mathlib.Core.Path.{◌≡◌, refl, sym, ◌∙◌}
use native.Mathlib.Decide.{dec_lt}
use native.Mathlib.Omega.{arith}
use lib.ListN.{length}
use Rattle.table.specs.Layout.{word, node_count}
use Rattle.unification.proofs.PigeonLaws.{pigeons}
use Rattle.nodes.specs.Code.Named.{Alike}
use Rattle.values.specs.declared.applications.Applications.{Applications}
use Rattle.values.specs.Code.Applications.{OnWay}
use Rattle.values.specs.Code.Naming.{Nameable, key_of, key_at, Compared, Representative, Naming}
use Rattle.values.proofs.AlikeLaws.{key_alike}

-- no node stands twice in the order, so it is no longer than there are nodes
pub order_short : (nodes arguments heads order : List ℕ) → Nameable nodes arguments heads order → length order ≤ node_count nodes
order_short nodes arguments heads order o = go (dec_lt (node_count nodes) (length order))
  where
    go : Dec (node_count nodes < length order) → length order ≤ node_count nodes
    go (no n) = omega (arith, n)
    go (yes l) =
        let r = pigeons (node_count nodes) (word order) (λ i h. o.node i (omega (arith, h, l))) in
        absurd (o.once r.0 r.1 r.2 (omega (arith, r.3, l)) r.4)

-- The search for the node at place p, whose key is k.
module _ (nodes arguments heads order names : List ℕ) (t : Applications) (p : ℕ) (s : Naming nodes arguments heads order names t p) (k : ℕ)
    (inside : p < length order) where
  -- a place on the way is one of the order, at which stands a node
  pub way_inside : (q : ℕ) → OnWay t k q → (q < length order) × (word order q < node_count nodes)
  way_inside q w =
      let l : q < length order = let u = s.chained.only k q w in omega (arith, u.0, inside) in
      (l, s.ordered.node q l)

  -- what is alike on it is a representative before p
  pub way_alike : (q : ℕ) → OnWay t k q → Compared nodes arguments heads names (word order q) (word order p) true →
      (q < p) × Representative nodes order names q × Alike nodes arguments heads names (word order q) (word order p)
  way_alike q w c =
      let u = s.chained.only k q w in
      (u.0, u.1, c.alike refl)

  -- where nothing on it is, no representative before p is
  pub way_passed : k ≡ key_of nodes arguments heads names (word order p) →
      ((q : ℕ) → OnWay t k q → Compared nodes arguments heads names (word order q) (word order p) false) →
      (q : ℕ) → q < p → Representative nodes order names q → Alike nodes arguments heads names (word order q) (word order p) → ⊥
  unfolding key_at
  way_passed e f q l r a = (f q (rw (e ∙ sym (key_alike a)) (s.chained.whole q l r))).different refl a
