-- The numbers tell the answers apart: each answer can be read back from its number. What holds of the number of every refusal is
-- told by a list of all refusals. By cases on the refusal. Assumes nothing.
use Prim.Native.Nat.{ℕ, ◌<◌}
use mathlib.Core.Bool.{Bool, true, false, cond, not}
use mathlib.Core.Path.{◌≡◌, refl, sym, ap, ◌∙◌}
use mathlib.Core.Logic.{◌↔◌}
use mathlib.Core.List.Memᴰ
use mathlib.Core.List.{List, [], ◌∷◌, map, Memᴰ}
use native.Mathlib.Omega.{arith}
use borrow.Author.Tests.{ltb-true, eqb-false, not-true}
use lib.Dec.{eqb, ltb}
use lib.ListN.{drop}
use Rattle.std.specs.Prelude.{Result, Ok, Err}
use Rattle.table.specs.declared.Refusal.{Refusal}
use Rattle.table.specs.declared.Refusal.TheVariants.{TooFewWords, BrokenPair, OverLimit, WrongNode, WrongArgument, WrongTerm, WrongLabel, NotANode, TooFewLent}
use Rattle.table.specs.Answer.{told, number_of}
use Rattle.table.specs.Refusal.{conditions, refusal}
use Rattle.table.proofs.SomeLaws.{every, every_has}
use Rattle.table.proofs.RefusalLaws.{condition_numbers, held_number}

-- All refusals.
abbrev pub refusals : List Refusal
refusals =
    TooFewWords ∷ BrokenPair ∷ OverLimit ∷ WrongNode ∷ WrongArgument ∷ WrongTerm ∷ WrongLabel ∷ NotANode ∷ TooFewLent ∷ []

-- The answer with a number, among these refusals.
answer_at : List Refusal → ℕ → Result (Unit {0}) Refusal
answer_at [] n = Ok tt
answer_at (r ∷ rs) n = cond (eqb n (number_of r)) (Err r) (answer_at rs n)

-- every refusal is found by its number
read_refusal : (r : Refusal) → answer_at refusals (number_of r) ≡ Err r
unfolding answer_at
read_refusal TooFewWords = refl
read_refusal BrokenPair = refl
read_refusal OverLimit = refl
read_refusal WrongNode = refl
read_refusal WrongArgument = refl
read_refusal WrongTerm = refl
read_refusal WrongLabel = refl
read_refusal NotANode = refl
read_refusal TooFewLent = refl

read_back : (a : Result (Unit {0}) Refusal) → answer_at refusals (told a) ≡ a
unfolding answer_at
read_back (Ok u) = refl
read_back (Err r) = read_refusal r

-- answers with one number are one answer
pub told_apart : (a b : Result (Unit {0}) Refusal) → told a ≡ told b → a ≡ b
told_apart a b e = sym (read_back a) ∙ ap (answer_at refusals) e ∙ read_back b

-- and refusals with one number are one refusal
pub number_apart : (r s : Refusal) → number_of r ≡ number_of s → r ≡ s
number_apart r s e = let q : Err r ≡ Err s = told_apart (Err r) (Err s) e in cc

found_listed : (rs : List Refusal) (n : ℕ) (r : Refusal) → answer_at rs n ≡ Err r → Memᴰ r rs
unfolding answer_at
found_listed [] n r e = let z : ◌≡◌ {A = ℕ} 0 1 = cc in absurd (omega arith)
found_listed (s ∷ rs) n r e = pick (eqb n (number_of s)) e (found_listed rs n r)
  where
    pick : (b : Bool) → cond b (Err s) (answer_at rs n) ≡ Err r → (answer_at rs n ≡ Err r → Memᴰ r rs) → Memᴰ r (s ∷ rs)
    pick true q f = let i : r ≡ s = cc in Memᴰ.head i
    pick false q f = Memᴰ.tail (f q)

-- every refusal stands in the list
all_listed : (r : Refusal) → Memᴰ r refusals
all_listed r = found_listed refusals (number_of r) r (read_refusal r)

-- a number is a refusal's exactly if it is among theirs
pub numbered : (n : ℕ) → Memᴰ n (map number_of refusals) ↔ ((r : Refusal) × (number_of r ≡ n))
numbered n =
    ((λ m. let r = Memᴰ.of_map number_of refusals m in (r.0, r.2)), (λ r. Memᴰ.cast (sym r.1) (Memᴰ.map number_of (all_listed r.0))))

-- what holds of all of these holds of each refusal's number
pub number_has : (p : ℕ → Bool) → every p (map number_of refusals) ≡ true → (r : Refusal) → p (number_of r) ≡ true
number_has p e r = every_has p e (Memᴰ.map number_of (all_listed r))

-- so none is 0
pub number_above : (r : Refusal) → 0 < number_of r
number_above r = ltb-true 0 (number_of r) (number_has (ltb 0) refl r)

-- nor any other number that is not among them
pub number_not : (n : ℕ) → every (λ (m : ℕ). not (eqb m n)) (map number_of refusals) ≡ true → (r : Refusal) → number_of r ≡ n → ⊥
number_not n e r = eqb-false (number_of r) n (not-true _ (number_has (λ (m : ℕ). not (eqb m n)) e r))

-- what a table gets is the number of a refusal, where it is not 0: one of the first seven
pub refusal_numbered : (t : List ℕ) → 0 < refusal t → (r : Refusal) × (number_of r ≡ refusal t)
unfolding refusal conditions
refusal_numbered t h = go (refusal t) h (held_number (conditions t))
  where
    go : (n : ℕ) → 0 < n → Memᴰ n (0 ∷ condition_numbers (conditions t)) → (r : Refusal) × (number_of r ≡ n)
    go n h (Memᴰ.head e) = absurd (omega arith)
    go n h (Memᴰ.tail m) = (numbered n).0 (Memᴰ.append_left (map number_of (drop 7 refusals)) m)
