-- Algorithms 1 to 5 of document 000, over tags that stand for terms, each for one: "Equal terms at different positions give different choices."
-- Lists stand in place of its sets. A number at the end of a line is that of the paper's line.
use Rattle.std.specs.Prelude.{ℕ, zero, suc, min, Bool, true, false, cond, ◌&&◌, eqb, leb, length}
use mathlib.Core.List.{List, [], ◌∷◌, ◌++◌, map, flat_map, product, zip, zip_with}
use Rattle.unification.specs.Node.{tabulate}
use Rattle.unification.specs.Outcome.{Outcome}
use Rattle.multiset_unification.specs.Computed.Listing.{kept}
use Rattle.algorithms.specs.Mmset.{given, fresh, Mmset}

-- So many numbers, from a first one on.
unfoldable pub numbers : ℕ → ℕ → List ℕ
numbers a zero = []
numbers a (suc n) = a ∷ numbers (suc a) n

-- "choose(F, c) returns a set of tuples (F_c, F_r), where F_c is the multiset with the chosen c elements (thus |F_c| = c), and F_r = F \ F_c."
unfoldable pub choose : List ℕ → ℕ → List (List ℕ × List ℕ)
choose F zero = ([], F) ∷ []
choose [] (suc c) = []
choose (a ∷ F) (suc c) = map (λ p. (a ∷ p.0, p.1)) (choose F c) ++ map (λ p. (p.0, a ∷ p.1)) (choose F (suc c))

-- An element at each place of a list.
unfoldable pub at_each : ℕ → List ℕ → List (List ℕ)
at_each a [] = (a ∷ []) ∷ []
at_each a (b ∷ S) = (a ∷ b ∷ S) ∷ map (b ∷◌) (at_each a S)

-- "all possible permutations"
unfoldable pub permutations : List ℕ → List (List ℕ)
permutations [] = [] ∷ []
permutations (a ∷ S) = flat_map (at_each a) (permutations S)

-- An element in each of some parts.
unfoldable pub in_each : ℕ → List (List ℕ) → List (List (List ℕ))
in_each a [] = []
in_each a (ts ∷ p) = ((a ∷ ts) ∷ p) ∷ map (ts ∷◌) (in_each a p)

-- "all ordered l-partitions of the multiset": each element is in one of k parts. "If there are no terms, then there is only the trivial partition."
unfoldable pub ordered_partitions : List ℕ → ℕ → List (List (List ℕ))
ordered_partitions [] k = tabulate k (λ i. []) ∷ []
ordered_partitions (a ∷ ts) k = flat_map (in_each a) (ordered_partitions ts k)

-- A substitution of multiset variables: M ↦ {ts | ..} for each label M.
abbrev pub Contexts : Type 0
Contexts = List (ℕ × Mmset ℕ)

-- Algorithm 5, lines 9 to 12: what M is mapped to.
unfoldable pub context : Bool → ℕ → List ℕ → ℕ × Mmset ℕ
context true M ts = (M, record { terms = ts; variables = [] })  -- 10
context false M [] = (M, record { terms = []; variables = given M ∷ [] })  -- 11
context false M (a ∷ ts) = (M, record { terms = a ∷ ts; variables = fresh M ∷ [] })  -- 12

-- Algorithm 5: distribute({t_1, .., t_n}, {M_1, .., M_k}, exact)
unfoldable pub distribute : List ℕ → List ℕ → Bool → List Contexts
distribute ts Ms exact =
    cond (eqb (length ts) 0 && eqb (length Ms) 0)  -- 1
    ([] ∷ [])  -- 2
    (map (λ p. zip_with (context exact) Ms p) (ordered_partitions ts (length Ms)))  -- 4 to 16

-- Algorithm 4: unify_distribute(({t_1, .., t_n}, {M_1, .., M_k}), ({s_1, .., s_m}, {N_1, .., N_l}))
unfoldable pub unify_distribute : List ℕ → List ℕ → List ℕ → List ℕ → List Contexts
unify_distribute ts Ms ss Ns =
    let ΣN = distribute ts Ns (eqb (length Ms) 0) in  -- 1
    let ΣM = distribute ss Ms (eqb (length Ns) 0) in  -- 2
    map (λ σ. σ.0 ++ σ.1) (product ΣM ΣN)  -- 3

-- What stands for σ_M σ_t: the pairs whose most general unifier is σ_t, and σ_M.
pub record Result : Type 0 where
  pub pairing : List (ℕ × ℕ)
  pub contexts : Contexts

-- Algorithm 2, lines 7 to 11.
unfoldable pub composed : List (List (ℕ × ℕ)) → List Contexts → List Result
composed [] ΣM = []
composed (ps ∷ Σt) ΣM = map (λ σ. record { pairing = σ.0; contexts = σ.1 }) (product (ps ∷ Σt) ΣM)

-- unify_lists is handed in, as what unifying pairs comes to: where that is not unified, it is None.
module _ (unifyLists : List (ℕ × ℕ) → Outcome) where
  -- Algorithm 3: unify_terms([t_1, .., t_n], [s_1, .., s_n])
  unfoldable pub unify_terms : List ℕ → List ℕ → List (List (ℕ × ℕ))
  unify_terms ts ss =
      let P = product (ts ∷ []) (permutations ss) in  -- 2, 3
      flat_map (λ p. kept (unifyLists (zip p.0 p.1)) (zip p.0 p.1)) P  -- 4 to 7

  -- Algorithm 2: unify_c(c, {t_1, .., t_n | M_1, .., M_k}, {s_1, .., s_m | N_1, .., N_l})
  unfoldable pub unify_c : ℕ → List ℕ → List ℕ → List ℕ → List ℕ → List Result
  unify_c c ts Ms ss Ns =
      let Tc = choose ts c in  -- 2
      let Sc = choose ss c in  -- 3
      flat_map (λ T. flat_map (λ S. composed (unify_terms T.0 S.0) (unify_distribute T.1 Ms S.1 Ns)) Sc) Tc  -- 4 to 14

  -- Algorithm 1: unify({t_1, .., t_n | M_1, .., M_k}, {s_1, .., s_m | N_1, .., N_l})
  unfoldable pub unify : List ℕ → List ℕ → List ℕ → List ℕ → List Result
  unify ts Ms ss Ns =
      let n = length ts in
      let k = length Ms in
      let m = length ss in
      let l = length Ns in
      cond (eqb k 0 && eqb l 0)  -- 1
      (cond (eqb n m) (composed (unify_terms ts ss) ([] ∷ [])) [])  -- 2, 3
      (cond (eqb k 0)  -- 4
      (cond (leb m n) (unify_c m ts Ms ss Ns) [])  -- 5, 6
      (cond (eqb l 0)  -- 7
      (cond (leb n m) (unify_c n ts Ms ss Ns) [])  -- 8, 9
      (flat_map (λ i. unify_c i ts Ms ss Ns) (numbers 0 (suc (min n m))))))  -- 11 to 17
