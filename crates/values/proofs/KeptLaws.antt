-- What stays in a list where numbers are written from the last place down: one law for each way on. Assumes nothing.
use Prim.Native.Nat.{ℕ, suc, ◌<◌, ◌≤◌}
use mathlib.Core.List.{List}
use mathlib.Core.Path.{◌≡◌, sym, ap, ◌∙◌}
use native.Mathlib.Decide.{ℕ_discrete}
use native.Mathlib.Omega.{arith}
use lib.ListN.{length, set}
use lib.Seq.{get_or-set_same, get_or-set_other}
use Rattle.table.specs.Layout.{word}
use Rattle.unification.specs.Words.{Least}
use Rattle.values.specs.Code.Kept.{WrittenAt, Kept}

module _ (P : ℕ → Type 0) (slot value : ℕ → ℕ) (n : ℕ) where
  -- nothing is written yet
  pub kept_none : (i : ℕ) → n ≤ i → (by : List ℕ) → Kept P slot value i n by
  kept_none i h by = record { kept = λ j a b p. absurd (omega (arith, a, b)) }

  wider : (i s k : ℕ) → WrittenAt P slot (suc i) n s k → WrittenAt P slot i n s k
  wider i s k (a, b, p, e) = (omega arith, b, p, e)

  -- place i is passed over
  pub kept_skip : (i : ℕ) (by : List ℕ) → (P i → ⊥) → Kept P slot value (suc i) n by → Kept P slot value i n by
  kept_skip i by never r =
      record {
        kept = λ j a b p.
            let q = r.kept j (after j a p) b p in
            (q.0, record { holds = wider i (slot j) q.0 q.1.holds; least = λ k w. q.1.least k (after k w.0 w.2, w.1, w.2, w.3) }, q.2);
      }
    where
      after : (j : ℕ) → i ≤ j → P j → suc i ≤ j
      after j a p = let d : j ≡ i → ⊥ = λ e. never (rw e at p) in omega (arith, d)

  -- place i is written
  pub kept_set : (i : ℕ) (by : List ℕ) → i < n → P i → slot i < length by → Kept P slot value (suc i) n by →
      Kept P slot value i n (set by (slot i) (value i))
  kept_set i by h p l r = record { kept = λ j a b q. go j a b q (ℕ_discrete (slot j) (slot i)) }
    where
      here : (s : ℕ) → s ≡ slot i → word (set by (slot i) (value i)) s ≡ value i
      here s e = rw e (get_or-set_same by (slot i) (value i) 0 l)

      after : (j : ℕ) → i ≤ j → (slot j ≡ slot i → ⊥) → suc i ≤ j
      after j a d = let n : j ≡ i → ⊥ = λ e. d (ap slot e) in omega (arith, n)

      go : (j : ℕ) → i ≤ j → j < n → P j → Dec (slot j ≡ slot i) →
          (k : ℕ) × Least (WrittenAt P slot i n (slot j)) k × (word (set by (slot i) (value i)) (slot j) ≡ value k)
      go j a b q (yes e) =
          (i, record { holds = (omega arith, h, p, sym e); least = λ k w. w.0 }, here (slot j) e)
      go j a b q (no d) =
          let t = r.kept j (after j a d) b q in (
            t.0,
            record { holds = wider i (slot j) t.0 t.1.holds; least = λ k w. t.1.least k (after k w.0 (λ e. d (sym w.3 ∙ e)), w.1, w.2, w.3) },
            get_or-set_other by (slot i) (slot j) (value i) 0 d ∙ t.2,
          )
