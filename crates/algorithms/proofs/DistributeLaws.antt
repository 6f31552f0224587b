-- What unify_distribute goes over: an ordered partition of the right terms that are left, for the left labels, with one of the left terms,
-- for the right labels.
-- A substitution tells its partition: each label's terms are its part. Assumes nothing.
use Prim.Native.Nat.{ℕ, suc}
use mathlib.Core.Bool.{Bool, true, false}
use mathlib.Core.List.Memᴰ
use mathlib.Core.List.{List, [], ◌∷◌, ◌++◌, map, product, zip_with, Memᴰ}
use mathlib.Core.Path.{◌≡◌, refl, sym, ap, ◌∙◌}
use native.Mathlib.Omega.{arith}
use lib.Dec.{eqb, eqb-suc-zero}
use lib.ListN.{length, take, drop}
use lib.Seq.{take_at, drop_at}
use Rattle.unification.specs.Node.{tabulate}
use Rattle.unification.proofs.ListLaws.{tabulate_length}
use Rattle.multiset_unification.specs.Choice.{with_digit}
use Rattle.algorithms.specs.Mmset.{Mmset}
use Rattle.algorithms.specs.Algorithms.{ordered_partitions, Contexts, context, distribute, unify_distribute}
use Rattle.algorithms.specs.Sides.{contexts_of}
use Rattle.algorithms.specs.Code.Placing.{Distinct, Placing, parts}
use Rattle.algorithms.proofs.ProductLaws.{in_product, product_distinct, map_product}
use Rattle.algorithms.proofs.DistinctLaws.{map_distinct}
use Rattle.algorithms.proofs.PartitionLaws.{partitions_are, partitions_distinct}

-- the first case of Algorithm 5 is no exception
distribute_all : (ts Ms : List ℕ) (exact : Bool) →
    distribute ts Ms exact ≡ map (λ p. zip_with (context exact) Ms p) (ordered_partitions ts (length Ms))
unfolding distribute ordered_partitions tabulate zip_with
distribute_all [] [] exact = refl
distribute_all [] (M ∷ Ms) exact = rw (eqb-suc-zero (length Ms)) refl
distribute_all (a ∷ ts) Ms exact = rw (eqb-suc-zero (length ts)) refl

partition_long : (ts : List ℕ) (k : ℕ) (p : List (List ℕ)) → Memᴰ p (ordered_partitions ts k) → length p ≡ k
unfolding parts
partition_long ts k p m =
    let s = (partitions_are ts k p).0 m in
    ap length s.2 ∙ tabulate_length k (λ q. with_digit q ts s.0)

-- a label's terms are its part
pub context_terms : (exact : Bool) (M : ℕ) (ts : List ℕ) → (context exact M ts).1.terms ≡ ts
unfolding context
context_terms true M ts = refl
context_terms false M [] = refl
context_terms false M (a ∷ ts) = refl

contexts_terms : (exact : Bool) (Ms : List ℕ) (p : List (List ℕ)) → length p ≡ length Ms →
    map (λ (c : ℕ × Mmset ℕ). c.1.terms) (zip_with (context exact) Ms p) ≡ p
unfolding zip_with
contexts_terms exact [] [] e = refl
contexts_terms exact [] (ts ∷ p) e = absurd (omega (arith, e))
contexts_terms exact (M ∷ Ms) [] e = absurd (omega (arith, e))
contexts_terms exact (M ∷ Ms) (ts ∷ p) e = rw (context_terms exact M ts, contexts_terms exact Ms p (omega (arith, e))) refl

contexts_long : (exact : Bool) (Ms : List ℕ) (p : List (List ℕ)) → length p ≡ length Ms → length (zip_with (context exact) Ms p) ≡ length Ms
unfolding zip_with
contexts_long exact [] p e = refl
contexts_long exact (M ∷ Ms) [] e = absurd (omega (arith, e))
contexts_long exact (M ∷ Ms) (ts ∷ p) e = ap suc (contexts_long exact Ms p (omega (arith, e)))

-- so a substitution tells both partitions
pub contexts_tell : (Ms Ns : List ℕ) (p p' q q' : List (List ℕ)) → length p ≡ length Ms → length p' ≡ length Ms → length q ≡ length Ns →
    length q' ≡ length Ns → contexts_of Ms Ns p q ≡ contexts_of Ms Ns p' q' → (p ≡ p') × (q ≡ q')
contexts_tell Ms Ns p p' q q' a b c d e =
    let x = eqb (length Ns) 0 in
    let y = eqb (length Ms) 0 in
    let k = length Ms in
    let f = sym (take_at (zip_with (context x) Ms p) (zip_with (context y) Ns q) k (contexts_long x Ms p a)) ∙ ap (take k) e ∙
    take_at (zip_with (context x) Ms p') (zip_with (context y) Ns q') k (contexts_long x Ms p' b) in
    let g = sym (drop_at (zip_with (context x) Ms p) (zip_with (context y) Ns q) k (contexts_long x Ms p a)) ∙ ap (drop k) e ∙
    drop_at (zip_with (context x) Ms p') (zip_with (context y) Ns q') k (contexts_long x Ms p' b) in (
      sym (contexts_terms x Ms p a) ∙ ap (map (λ (s : ℕ × Mmset ℕ). s.1.terms)) f ∙ contexts_terms x Ms p' b,
      sym (contexts_terms y Ns q c) ∙
          ap (map (λ (s : ℕ × Mmset ℕ). s.1.terms)) g ∙ contexts_terms y Ns q' d,
    )

module _ (R Ms Q Ns : List ℕ) where
  -- The partitions of the terms of both sides that are left.
  abbrev partitions : List (List (List ℕ) × List (List ℕ))
  partitions = product (ordered_partitions Q (length Ms)) (ordered_partitions R (length Ns))

  -- unify_distribute goes over the pairs of partitions
  distribution : unify_distribute R Ms Q Ns ≡ map (λ s. contexts_of Ms Ns s.0 s.1) partitions
  unfolding unify_distribute
  distribution =
      rw (distribute_all R Ns (eqb (length Ms) 0), distribute_all Q Ms (eqb (length Ns) 0))
      (map_product (λ p. zip_with (context (eqb (length Ns) 0)) Ms p) (λ q. zip_with (context (eqb (length Ms) 0)) Ns q) (λ σ. σ.0 ++ σ.1)
      (ordered_partitions Q (length Ms)) (ordered_partitions R (length Ns)))

  -- each of them is gone over
  pub in_distribution : (ps qs : List ℕ) → Placing (length Ms) Q ps → Placing (length Ns) R qs →
      Memᴰ (contexts_of Ms Ns (parts (length Ms) Q ps) (parts (length Ns) R qs)) (unify_distribute R Ms Q Ns)
  in_distribution ps qs a b =
      let x = (partitions_are Q (length Ms) (parts (length Ms) Q ps)).1 (ps, a, refl) in
      let y = (partitions_are R (length Ns) (parts (length Ns) R qs)).1 (qs, b, refl) in
      rw distribution (Memᴰ.map (λ s. contexts_of Ms Ns s.0 s.1) ((in_product _ _ (parts (length Ms) Q ps) (parts (length Ns) R qs)).1 (x, y)))

  -- and nothing else
  pub distribution_from : (σ : Contexts) → Memᴰ σ (unify_distribute R Ms Q Ns) → (ps : List ℕ) × (qs : List ℕ) × Placing (length Ms) Q ps ×
      Placing (length Ns) R qs × (σ ≡ contexts_of Ms Ns (parts (length Ms) Q ps) (parts (length Ns) R qs))
  distribution_from σ m =
      let s = Memᴰ.of_map (λ s. contexts_of Ms Ns s.0 s.1) partitions (rw distribution at m) in
      let b = (in_product (ordered_partitions Q (length Ms)) (ordered_partitions R (length Ns)) s.0.0 s.0.1).0 s.1 in
      let x = (partitions_are Q (length Ms) s.0.0).0 b.0 in
      let y = (partitions_are R (length Ns) s.0.1).0 b.1 in
      (x.0, y.0, x.1, y.1, sym s.2 ∙ ap (λ (p : List (List ℕ)). contexts_of Ms Ns p s.0.1) x.2 ∙ ap (contexts_of Ms Ns (parts (length Ms) Q x.0)) y.2)

  -- none twice
  pub distribution_distinct : Distinct R → Distinct Q → Distinct (unify_distribute R Ms Q Ns)
  distribution_distinct dR dQ =
      rw distribution
      (map_distinct (λ s. contexts_of Ms Ns s.0 s.1) partitions tell
      (product_distinct _ _ (partitions_distinct Q (length Ms) dQ) (partitions_distinct R (length Ns) dR)))
    where
      long : (x : List (List ℕ) × List (List ℕ)) → Memᴰ x partitions → (length x.0 ≡ length Ms) × (length x.1 ≡ length Ns)
      long x m =
          let b = (in_product (ordered_partitions Q (length Ms)) (ordered_partitions R (length Ns)) x.0 x.1).0 m in
          (partition_long Q (length Ms) x.0 b.0, partition_long R (length Ns) x.1 b.1)

      tell : (x y : List (List ℕ) × List (List ℕ)) → Memᴰ x partitions → Memᴰ y partitions → contexts_of Ms Ns x.0 x.1 ≡ contexts_of Ms Ns y.0 y.1 →
          x ≡ y
      tell x y m n e =
          let a = long x m in
          let b = long y n in
          let r = contexts_tell Ms Ns x.0 y.0 x.1 y.1 a.0 b.0 a.1 b.1 e in
          rw (r.0, r.1) refl
