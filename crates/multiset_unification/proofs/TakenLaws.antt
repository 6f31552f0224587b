-- A term can be taken out of lists that stand at places, and digits then put it back. Assumes nothing.
use Prim.Native.Nat.{ℕ, zero, suc, ◌+◌, ◌<◌}
use mathlib.Core.Bool.{cond}
use mathlib.Core.List.{List, [], ◌∷◌, ◌++◌, map, Memᴰ}
use mathlib.Core.Path.{◌≡◌, refl, sym, ap, ◌∙◌}
use native.Mathlib.Decide.{dec_lt, ℕ_discrete}
use native.Mathlib.Omega.{arith}
use borrow.Author.Tests.{eq-eqb, ne_eqb}
use lib.Dec.{eqb}
use Rattle.terms.specs.Term.{Term}
use Rattle.terms.specs.Multiset.{occurrences, Same}
use Rattle.terms.proofs.MultisetLaws.{occurrences_append, occurs_member}
use Rattle.multiset_unification.specs.Choice.{with_digit}
use Rattle.multiset_unification.proofs.CountLaws.{total, total_one}
use Rattle.multiset_unification.proofs.PutLaws.{with_digit_lem, without_digit}

-- a list without one of its terms
without : (u : Term) (us : List Term) → Memᴰ u us → (vs : List Term) × ((t : Term) → occurrences t us ≡ occurrences t (u ∷ []) + occurrences t vs)
without u [] x = elim x [ ]
without u (x ∷ us) (Memᴰ.head e) = (us, λ t. ap (λ (y : Term). occurrences t (y ∷ us)) (sym e) ∙ occurrences_append t (u ∷ []) us)
without u (x ∷ us) (Memᴰ.tail m) =
    let r = without u us m in (
      x ∷ r.0,
      λ t.
          let a = occurrences_append t (x ∷ []) us in
          let b = occurrences_append t (x ∷ []) r.0 in
          let c = r.1 t in
          omega (arith, a, b, c),
    )

-- some place has what is counted at all places
somewhere : (k : ℕ) (n : ℕ → ℕ) → 0 < total k n → (p : ℕ) × (p < k) × (0 < n p)
unfolding total
somewhere zero n h = absurd (omega arith)
somewhere (suc k) n h = go (dec_lt 0 (n k)) (somewhere k n)
  where
    go : Dec (0 < n k) → (0 < total k n → (p : ℕ) × (p < k) × (0 < n p)) → (p : ℕ) × (p < suc k) × (0 < n p)
    go (yes q) r = (k, omega arith, q)
    go (no q) r = let s = r (omega arith) in (s.0, omega (arith, s.1), s.2)

-- Lists at k places, with a term taken out at one of them.
pub record TakenOut (k : ℕ) (f : ℕ → List Term) (u : Term) : Type 0 where
  pub place : ℕ
  pub below : place < k
  pub rest : ℕ → List Term
  pub here : (t : Term) → occurrences t (f place) ≡ occurrences t (u ∷ []) + occurrences t (rest place)
  pub elsewhere : (p : ℕ) → (p ≡ place → ⊥) → f p ≡ rest p

-- a term that occurs can be taken out
pub take_out : (k : ℕ) (f : ℕ → List Term) (u : Term) → 0 < total k (λ p. occurrences u (f p)) → TakenOut k f u
take_out k f u h = go (somewhere k (λ p. occurrences u (f p)) h)
  where
    go : (p : ℕ) × (p < k) × (0 < occurrences u (f p)) → TakenOut k f u
    go (p, b, o) = found (without u (f p) ((occurs_member u (f p)).0 o))
      where
        found : (vs : List Term) × ((t : Term) → occurrences t (f p) ≡ occurrences t (u ∷ []) + occurrences t vs) → TakenOut k f u
        found (vs, c) =
            record {
              place = p;
              below = b;
              rest = λ q. cond (eqb q p) vs (f q);
              here = λ t. rw (eq-eqb p p refl) (c t);
              elsewhere = λ q n. rw (ne_eqb q p n) refl;
            }

-- and is then missing once
pub taken_count : (k : ℕ) (f : ℕ → List Term) (u : Term) (o : TakenOut k f u) (t : Term) →
    total k (λ p. occurrences t (f p)) ≡ occurrences t (u ∷ []) + total k (λ p. occurrences t (o.rest p))
taken_count k f u o t =
    total_one k (λ p. occurrences t (f p)) (λ p. occurrences t (o.rest p)) (occurrences t (u ∷ [])) o.place o.below (o.here t)
    (λ q h n. ap (occurrences t) (o.elsewhere q n))

module _ (digit : ℕ → ℕ) (v : ℕ → Term) (k : ℕ) where
  -- The lists at k places are what the digits put there, and rests.
  abbrev pub Holds : (ℕ → List Term) → List ℕ → List ℕ → (ℕ → List Term) → Type 0
  Holds f ts ds rest = (p : ℕ) → p < k → Same (f p) (map v (with_digit (digit p) ts ds) ++ rest p)

  -- a digit of no place changes nothing
  pub holds_on : (f rest : ℕ → List Term) (d a : ℕ) (ts ds : List ℕ) → ((p : ℕ) → p < k → d ≡ digit p → ⊥) → Holds f ts ds rest →
      Holds f (a ∷ ts) (d ∷ ds) rest
  holds_on f rest d a ts ds n h p b = rw (without_digit (digit p) d a ts ds (n p b)) (h p b)

  -- the digit of the place where a term was taken out puts it back
  pub holds_back : ((p q : ℕ) → digit p ≡ digit q → p ≡ q) → (f rest : ℕ → List Term) (a : ℕ) (o : TakenOut k f (v a)) (ts ds : List ℕ) →
      Holds o.rest ts ds rest → Holds f (a ∷ ts) (digit o.place ∷ ds) rest
  holds_back one f rest a o ts ds h p b = go (ℕ_discrete p o.place)
    where
      go : Dec (p ≡ o.place) → Same (f p) (map v (with_digit (digit p) (a ∷ ts) (digit o.place ∷ ds)) ++ rest p)
      go (yes e) t =
          let x = with_digit_lem (digit o.place) a ts ds in
          let g : occurrences t (o.rest o.place) ≡ occurrences t (map v (with_digit (digit o.place) ts ds) ++ rest o.place) = rw e at (h p b t) in
          let y = o.here t in
          let z = occurrences_append t (v a ∷ []) (map v (with_digit (digit o.place) ts ds) ++ rest o.place) in
          rw (e, x) (omega (arith, g, y, z))
      go (no n) t =
          rw (without_digit (digit p) (digit o.place) a ts ds (λ e. n (one p o.place (sym e))), o.elsewhere p n) (h p b t)
