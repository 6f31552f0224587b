-- What holds position by position of two lists. By induction on it. Assumes nothing.
use Prim.Native.Nat.{ℕ}
use mathlib.Core.List.{List, [], ◌∷◌, map, Memᴰ}
use mathlib.Core.Path.{◌≡◌, refl}
use Rattle.unification.specs.Words.{Matched, none, next}

-- from one relation to another
pub matched_map : {R S : ℕ → ℕ → Type 0} {xs ws : List ℕ} → ((x w : ℕ) → Memᴰ x xs → R x w → S x w) → Matched R xs ws → Matched S xs ws
matched_map f none = none
matched_map f (next {x = x} {w = w} r m) =
    next (f x w (Memᴰ.head refl) r) (matched_map (λ y v k. f y v (Memᴰ.tail k)) m)

-- a relation of one number each is one list
pub matched_one : {R : ℕ → ℕ → Type 0} {xs vs ws : List ℕ} → ((x v w : ℕ) → R x v → R x w → v ≡ w) → Matched R xs vs → Matched R xs ws → vs ≡ ws
matched_one f none none = refl
matched_one f (next {x = x} {w = v} r m) (next {w = w} s n) =
    let e : v ≡ w = f x v w r s in
    let d = matched_one f m n in
    rw (e, d)

-- a function that the relation holds of
pub matched_by : {R : ℕ → ℕ → Type 0} (f : ℕ → ℕ) (xs : List ℕ) → ((x : ℕ) → Memᴰ x xs → R x (f x)) → Matched R xs (map f xs)
matched_by f [] h = none
matched_by f (x ∷ xs) h = next (h x (Memᴰ.head refl)) (matched_by f xs (λ y k. h y (Memᴰ.tail k)))

-- two relations at the place of one number
pub matched_both : {R S : ℕ → ℕ → Type 0} {xs ws : List ℕ} → Matched R xs ws → Matched S xs ws → (x : ℕ) → Memᴰ x xs → (w : ℕ) × R x w × S x w
matched_both {R = R} {S = S} none _ x x12 = elim x12 [ ]
matched_both {R} {S} (next {x = y} {w = w} r m) (next s n) x (Memᴰ.head e) =
    (w, rw (← e) at r, rw (← e) at s)
matched_both (next r m) (next s n) x (Memᴰ.tail k) = matched_both m n x k
