-- Laws of multisets: how often a term occurs in two lists adds up, and all else is arithmetic.
-- By induction on the list, and by cases on whether its first is the term. Assumes nothing.
use Prim.Native.Nat.{◌+◌, ◌<◌}
use mathlib.Core.Bool.{Bool, true, false}
use mathlib.Core.List.Memᴰ
use mathlib.Core.List.{List, [], ◌∷◌, ◌++◌, Memᴰ}
use mathlib.Core.Logic.{◌↔◌}
use mathlib.Core.Path.{◌≡◌, refl, sym, ap, ◌∙◌}
use native.Mathlib.Omega.{arith}
use Rattle.terms.specs.Term.{Term, equal}
use Rattle.terms.specs.Multiset.{occurrences, Same}
use Rattle.terms.proofs.TermLaws.{equal_true, equal_refl}

-- how often a term occurs in two lists adds up
pub occurrences_append : (t : Term) (us vs : List Term) → occurrences t (us ++ vs) ≡ occurrences t us + occurrences t vs
unfolding occurrences
occurrences_append t [] vs = omega arith
occurrences_append t (u ∷ us) vs = let r = occurrences_append t us vs in omega (arith, r)

-- every multiset is equal to itself
pub same_refl : (us : List Term) → Same us us
same_refl us t = refl

-- from right to left
pub same_sym : (us vs : List Term) → Same us vs → Same vs us
same_sym us vs h t = sym (h t)

-- from one to the next
pub same_trans : (us vs ws : List Term) → Same us vs → Same vs ws → Same us ws
same_trans us vs ws h k t = h t ∙ k t

-- the order does not matter
pub same_swap : (us vs : List Term) → Same (us ++ vs) (vs ++ us)
same_swap us vs t =
    let l = occurrences_append t us vs in
    let r = occurrences_append t vs us in
    omega (arith, l, r)

-- multisets that are equal stay equal with equal ones added
pub same_append : (us us' vs vs' : List Term) → Same us us' → Same vs vs' → Same (us ++ vs) (us' ++ vs')
same_append us us' vs vs' h k t =
    let l = occurrences_append t us vs in
    let r = occurrences_append t us' vs' in
    omega (arith, l, r, h t, k t)

member : (t : Term) (us : List Term) → 0 < occurrences t us → Memᴰ t us
unfolding occurrences
member t [] h = absurd (omega arith)
member t (u ∷ us) h = pick (equal t u) refl (member t us)
  where
    pick : (b : Bool) → equal t u ≡ b → (0 < occurrences t us → Memᴰ t us) → Memᴰ t (u ∷ us)
    pick true e r = Memᴰ.head (equal_true t u e)
    pick false e r = let k = rw e at h in Memᴰ.tail (r (omega (arith, k)))

occurs : (t : Term) (us : List Term) → Memᴰ t us → 0 < occurrences t us
unfolding occurrences
occurs t [] m = absurd (Memᴰ.not-nil m)
occurs t (u ∷ us) (Memᴰ.head e) = rw (← e) (rw (equal_refl t) (omega arith))
occurs t (u ∷ us) (Memᴰ.tail m) = let r = occurs t us m in omega (arith, r)

-- a term occurs in a list exactly if it is in it
pub occurs_member : (t : Term) (us : List Term) → (0 < occurrences t us) ↔ Memᴰ t us
occurs_member t us = (member t us, occurs t us)

-- a term by itself occurs once
pub occurs_once : (t : Term) → occurrences t (t ∷ []) ≡ 1
unfolding occurrences
occurs_once t = rw (equal_refl t)

-- equal multisets have the same terms
pub same_member : (us vs : List Term) → Same us vs → (t : Term) → Memᴰ t us → Memᴰ t vs
same_member us vs h t m = let k = occurs t us m in member t vs (omega (arith, h t, k))

-- how often matters: what is added to both can be taken away again
pub same_cancel : (ws us vs : List Term) → Same (ws ++ us) (ws ++ vs) → Same us vs
same_cancel ws us vs h t =
    let a = occurrences_append t ws us in
    let b = occurrences_append t ws vs in
    omega (arith, a, b, h t)

-- The first list in another order.
pub data Reordered : List Term → List Term → Type 0 where
  empty : Reordered [] []
  placed : {t : Term} {us : List Term} (vs ws : List Term) → Reordered us (vs ++ ws) → Reordered (t ∷ us) (vs ++ t ∷ ws)

-- a term can be put anywhere
same_placed : (t : Term) (us vs ws : List Term) → Same us (vs ++ ws) → Same (t ∷ us) (vs ++ t ∷ ws)
unfolding occurrences
same_placed t us vs ws h u =
    let a = occurrences_append u vs ws in
    let b = occurrences_append u vs (t ∷ ws) in
    omega (arith, a, b, h u)

-- a list in another order is the same multiset
pub reordered_same : {us vs : List Term} → Reordered us vs → Same us vs
reordered_same empty t = refl
reordered_same (placed {t} {us} vs ws r) u = same_placed t us vs ws (λ v. reordered_same r v) u

split : (t : Term) (us : List Term) → Memᴰ t us → (vs : List Term) × (ws : List Term) × (us ≡ vs ++ t ∷ ws)
split t [] x = elim x [ ]
split t (u ∷ us) (Memᴰ.head e) = ([], us, ap (λ (x : Term). x ∷ us) (sym e))
split t (u ∷ us) (Memᴰ.tail m) = let r = split t us m in (u ∷ r.0, r.1, ap (u ∷◌) r.2)

nothing : (vs : List Term) → Same [] vs → vs ≡ []
nothing [] h = refl
nothing (v ∷ vs) h = absurd (Memᴰ.not-nil (same_member (v ∷ vs) [] (same_sym [] (v ∷ vs) h) v (Memᴰ.head refl)))

-- the same multiset is the list in another order
pub same_reordered : (us vs : List Term) → Same us vs → Reordered us vs
same_reordered [] vs h = rw (nothing vs h) empty
same_reordered (t ∷ us) vs h = go (split t vs (same_member (t ∷ us) vs h t (Memᴰ.head refl))) (λ ws. same_reordered us ws)
  where
    go : (ws : List Term) × (xs : List Term) × (vs ≡ ws ++ t ∷ xs) → ((ws : List Term) → Same us ws → Reordered us ws) → Reordered (t ∷ us) vs
    go (ws, xs, e) r = rw e (placed ws xs (r (ws ++ xs) (rest ws xs (rw e at h))))
      where
        rest : (ws xs : List Term) → Same (t ∷ us) (ws ++ t ∷ xs) → Same us (ws ++ xs)
        rest ws xs k = same_cancel (t ∷ []) us (ws ++ xs)
            (same_trans (t ∷ us) (ws ++ t ∷ xs) (t ∷ (ws ++ xs)) k
            (same_sym (t ∷ (ws ++ xs)) (ws ++ t ∷ xs) (same_placed t (ws ++ xs) ws xs (same_refl (ws ++ xs)))))
