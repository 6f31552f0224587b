-- What the numbers of answers say: each is the number of one answer only. Assumes nothing.
use Prim.Native.Nat.{ℕ}
use mathlib.Core.Path.{◌≡◌, refl, sym, ap, ◌∙◌}
use mathlib.Core.Logic.{◌⊎◌, inl, inr}
use mathlib.Core.List.{List, ◌∷◌, map, Memᴰ}
use native.Mathlib.Omega.{arith}
use Rattle.std.specs.Prelude.{Result, Ok, Err}
use Rattle.table.specs.declared.Refusal.{Refusal}
use Rattle.table.specs.Answer.{number_of as refusal_number}
use Rattle.table.proofs.AnswerLaws.{refusals, numbered, number_apart, number_above, number_not}
use Rattle.unification.specs.declared.Unification.{Unification}
use Rattle.unification.specs.declared.Unification.TheVariants.{Unified, Clash, Occurs}
use Rattle.unification.specs.Outcome.{Outcome, unified, clash, occurs}
use Rattle.unification.specs.Answer.{told, unification, Answer, ended, refused}
use Rattle.unification.specs.Decided.{Decided}
use Rattle.unification.proofs.AnswerLaws.{told_there}
use Rattle.pallihun.specs.Numbers.{number_of}

-- answers of unifying that have one number are one answer
pub number_of_one : (u w : Result Unification Refusal) → number_of (told u) ≡ number_of (told w) → u ≡ w
number_of_one (Ok Unified) (Ok Unified) e = refl
number_of_one (Ok Unified) (Ok Clash) e = absurd (omega (arith, e))
number_of_one (Ok Unified) (Ok Occurs) e = absurd (omega (arith, e))
number_of_one (Ok Unified) (Err s) e = absurd (omega (arith, e, number_above s))
number_of_one (Ok Clash) (Ok Unified) e = absurd (omega (arith, e))
number_of_one (Ok Clash) (Ok Clash) e = refl
number_of_one (Ok Clash) (Ok Occurs) e = absurd (omega (arith, e))
number_of_one (Ok Clash) (Err s) e = absurd (number_not 1000 refl s (sym e))
number_of_one (Ok Occurs) (Ok Unified) e = absurd (omega (arith, e))
number_of_one (Ok Occurs) (Ok Clash) e = absurd (omega (arith, e))
number_of_one (Ok Occurs) (Ok Occurs) e = refl
number_of_one (Ok Occurs) (Err s) e = absurd (number_not 1001 refl s (sym e))
number_of_one (Err r) (Ok Unified) e = absurd (omega (arith, e, number_above r))
number_of_one (Err r) (Ok Clash) e = absurd (number_not 1000 refl r e)
number_of_one (Err r) (Ok Occurs) e = absurd (number_not 1001 refl r e)
number_of_one (Err r) (Err s) e = ap Err (number_apart r s e)

-- so what an answer decides is decided by its number: a refusal decides nothing
pub decided_number : {t words : List ℕ} {a b : ℕ} (u : Result Unification Refusal) (n : ℕ) → n ≡ number_of (told u) → Decided t a b (told u) words →
    (o : Answer) → n ≡ number_of o → Decided t a b o words
decided_number u n e d (ended unified) z = rw (ap told (number_of_one u (Ok Unified) (sym e ∙ z))) at d
decided_number u n e d (ended clash) z = rw (ap told (number_of_one u (Ok Clash) (sym e ∙ z))) at d
decided_number u n e d (ended occurs) z = rw (ap told (number_of_one u (Ok Occurs) (sym e ∙ z))) at d
decided_number u n e d (refused k) z =
    record {
      readable = λ q. nothing unified q;
      most_general = λ q. nothing unified q;
      none_equal = λ q. fails q;
    }
  where
    nothing : {A : Type 0} (o : Outcome) → refused k ≡ ended o → A
    nothing o q = let y : ◌≡◌ {A = ℕ} 0 1 = cc in absurd (omega arith)

    fails : {A : Type 0} → (refused k ≡ ended clash) ⊎ (refused k ≡ ended occurs) → A
    fails (inl q) = nothing clash q
    fails (inr q) = nothing occurs q

-- The numbers that unifying answers.
abbrev pub Known : ℕ → Type 0
Known n = Memᴰ n (0 ∷ 1000 ∷ 1001 ∷ map refusal_number refusals)

number_told : (u : Result Unification Refusal) → Known (number_of (told u))
number_told (Ok Unified) = Memᴰ.head refl
number_told (Ok Clash) = Memᴰ.tail (Memᴰ.head refl)
number_told (Ok Occurs) = Memᴰ.tail (Memᴰ.tail (Memᴰ.head refl))
number_told (Err r) = Memᴰ.tail (Memᴰ.tail (Memᴰ.tail ((numbered (refusal_number r)).1 (r, refl))))

-- no other number is answered
pub number_known : (t : List ℕ) (a b lent : ℕ) → Known (number_of (unification t a b lent))
number_known t a b lent = let r = told_there t a b lent in rw (sym r.1) (number_told r.0)
