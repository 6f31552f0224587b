-- What digits have, digit by digit: none where no digit has an entry, and the same for one half of the digits after the other.
-- By induction on how many digits there are. Assumes nothing.
use Prim.Native.Nat.{ℕ, zero, suc, ◌+◌, ◌-◌, ◌≤◌, ◌<◌}
use mathlib.Core.Bool.{Bool, true, false, cond}
use mathlib.Core.List.{List, [], ◌∷◌, ◌++◌, map, map-append}
use mathlib.Core.Path.{◌≡◌, refl, sym, ap, ◌∙◌}
use native.Mathlib.Numerals.{add-one}
use native.Mathlib.Omega.{arith}
use borrow.Author.Tests.{eqb-false, leb-true, leb-false, lt-leb, le-leb, eq-eqb, ne_eqb}
use lib.Dec.{eqb, leb}
use lib.ListN.{length, set}
use Rattle.table.specs.Layout.{word}
use Rattle.unification.specs.Node.{Node}
use Rattle.unification.specs.Outcome.{Outcome, unified, clash, occurs}
use Rattle.unification.specs.Computed.Unifying.{outcome}
use Rattle.branches.specs.Code.Walk.{over, if_unified, on_digit}

-- digits of which none has an entry have none together
pub over_none : (d c : ℕ) (f : ℕ → List (List ℕ)) → ((e : ℕ) → d ≤ e → e < d + c → f e ≡ []) → over d c f ≡ []
unfolding over
over_none d zero f h = refl
over_none d (suc c) f h =
    rw (h d (omega arith) (omega arith), over_none (suc d) c f (λ e p q. h e (omega arith) (omega arith)))

-- pairs have no entries if they have none where they are unified
if_empty : (o : Outcome) (es : List (List ℕ)) → (o ≡ unified → es ≡ []) → if_unified o es ≡ []
unfolding if_unified
if_empty unified es h = h refl
if_empty clash es h = refl
if_empty occurs es h = refl

-- a digit has no entry if neither the label that it may stand for has one, nor its pair where that is unified
pub digit_empty :
    (ns : List Node) (rs : List ℕ) (f : List ℕ → List (ℕ × ℕ) → List ℕ → List (List ℕ)) (ds : List ℕ) (ps : List (ℕ × ℕ)) (marks : List ℕ) (a d : ℕ) →
    (d ≤ length rs → (word marks (d - 1) ≡ 0 → ⊥) → outcome ns ((a, word rs (d - 1)) ∷ ps) ≡ unified →
    f (ds ++ d ∷ []) ((a, word rs (d - 1)) ∷ ps) (set marks (d - 1) 0) ≡ []) →
    (length rs < d → f (ds ++ d ∷ []) ps marks ≡ []) → on_digit ns rs f ds ps marks a d ≡ []
unfolding on_digit
digit_empty ns rs f ds ps marks a d h k =
    pick (leb d (length rs)) refl (eqb (word marks (d - 1)) 0) refl
  where
    pick : (b : Bool) → leb d (length rs) ≡ b → (c : Bool) → eqb (word marks (d - 1)) 0 ≡ c →
        cond b (cond c [] (if_unified (outcome ns ((a, word rs (d - 1)) ∷ ps)) (f (ds ++ d ∷ []) ((a, word rs (d - 1)) ∷ ps) (set marks (d - 1) 0))))
        (f (ds ++ d ∷ []) ps marks) ≡ []
    pick true p true q = refl
    pick true p false q = if_empty _ _ (h (leb-true d (length rs) p) (eqb-false (word marks (d - 1)) 0 q))
    pick false p c q = k (leb-false d (length rs) p)

-- a digit above the right terms puts the next left term in a right label
pub digit_label : (ns : List Node) (rs : List ℕ) (f : List ℕ → List (ℕ × ℕ) → List ℕ → List (List ℕ)) (ds : List ℕ) (ps : List (ℕ × ℕ))
    (marks : List ℕ) (a d : ℕ) → length rs < d → on_digit ns rs f ds ps marks a d ≡ f (ds ++ d ∷ []) ps marks
unfolding on_digit
digit_label ns rs f ds ps marks a d h = rw (lt-leb d (length rs) h)

-- a right term that is paired already takes no other
pub digit_taken : (ns : List Node) (rs : List ℕ) (f : List ℕ → List (ℕ × ℕ) → List ℕ → List (List ℕ)) (ds : List ℕ) (ps : List (ℕ × ℕ))
    (marks : List ℕ) (a d : ℕ) → d ≤ length rs → word marks (d - 1) ≡ 0 → on_digit ns rs f ds ps marks a d ≡ []
unfolding on_digit
digit_taken ns rs f ds ps marks a d h e = rw (le-leb d (length rs) h, eq-eqb (word marks (d - 1)) 0 e)

-- otherwise the pair decides
pub digit_pair : (ns : List Node) (rs : List ℕ) (f : List ℕ → List (ℕ × ℕ) → List ℕ → List (List ℕ)) (ds : List ℕ) (ps : List (ℕ × ℕ))
    (marks : List ℕ) (a d : ℕ) → d ≤ length rs → (word marks (d - 1) ≡ 0 → ⊥) →
    on_digit ns rs f ds ps marks a d ≡ if_unified (outcome ns ((a, word rs (d - 1)) ∷ ps))
    (f (ds ++ d ∷ []) ((a, word rs (d - 1)) ∷ ps) (set marks (d - 1) 0))
unfolding on_digit
digit_pair ns rs f ds ps marks a d h n = rw (le-leb d (length rs) h, ne_eqb (word marks (d - 1)) 0 n)

-- one digit more
pub over_next : (f : ℕ → List (List ℕ)) (d n : ℕ) → d < n → over d (n - d) f ≡ f d ++ over (d + 1) (n - (d + 1)) f
unfolding over
over_next f d n h =
    let e : n - d ≡ suc (n - (d + 1)) = omega (arith, h) in
    ap (λ (c : ℕ). over d c f) e ∙ ap (λ (j : ℕ). f d ++ over j (n - (d + 1)) f) (sym (add-one d))

-- none are left
pub over_end : (f : ℕ → List (List ℕ)) (d n : ℕ) → n ≤ d → over d (n - d) f ≡ []
unfolding over
over_end f d n h =
    let e : n - d ≡ 0 = omega (arith, h) in
    ap (λ (c : ℕ). over d c f) e

-- what digits have depends on them alone
pub over_within : (d c : ℕ) (f g : ℕ → List (List ℕ)) → ((e : ℕ) → d ≤ e → e < d + c → f e ≡ g e) → over d c f ≡ over d c g
unfolding over
over_within d zero f g h = refl
over_within d (suc c) f g h =
    rw (h d (omega arith) (omega arith), over_within (suc d) c f g (λ e p q. h e (omega arith) (omega arith)))

-- what is made of each entry of digits is made digit by digit
pub map_over : (f : List ℕ → List ℕ) (d c : ℕ) (g : ℕ → List (List ℕ)) → map f (over d c g) ≡ over d c (λ e. map f (g e))
unfolding over
map_over f d zero g = refl
map_over f d (suc c) g = map-append f (g d) (over (suc d) c g) ∙ ap (map f (g d) ++◌) (map_over f (suc d) c g)
