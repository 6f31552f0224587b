-- What a call answers and leaves in the lent words, for any table: whether it is refused is settled by the conditions, and the rest by what
-- unifying the two nodes comes to.
-- By cases on the answer. Assumes nothing.
use Prim.Native.Nat.{ℕ, zero, suc, ◌+◌, ◌<◌, ◌≤◌}
use mathlib.Core.List.Memᴰ
use mathlib.Core.List.{List, [], ◌∷◌, ◌++◌, map, Memᴰ}
use mathlib.Core.Logic.{⊎_elim, ◌↔◌}
use mathlib.Core.Path.{◌≡◌, refl, sym, ap, ◌∙◌}
use native.Mathlib.Omega.{arith}
use borrow.Author.Tests.{ltb-false, leb-false, lt-leb, le-ltb}
use lib.Dec.{leb}
use lib.ListN.{length, take, drop, length-map, length-append, length-drop}
use Rattle.std.specs.Prelude.{Result, Ok, Err}
use lib.Seq.{take_at, drop_at}
use Rattle.table.specs.declared.Refusal.{Refusal}
use Rattle.table.specs.Limits.{max_variable}
use Rattle.table.specs.Answer.{number_of}
use Rattle.table.specs.Refusal.{conditions, first_held, refusal}
use Rattle.table.specs.Code.Accepted.{Accepted}
use Rattle.table.proofs.BoolLaws.{or_false_left, or_false_right, or_both_false}
use Rattle.table.proofs.RefusalLaws.{First, later, none, first_means, pass, held_number}
use Rattle.table.proofs.AcceptedLaws.{accepted, accepted_first}
use Rattle.table.proofs.AnswerLaws.{refusals, number_apart, numbered}
use Rattle.terms.specs.Substitution.{Substitution}
use Rattle.unification.specs.declared.Unification.{Unification}
use Rattle.unification.specs.Node.{Node, nodes_in, Present}
use Rattle.unification.specs.Unifier.{value, Unifies, MostGeneral}
use Rattle.unification.specs.Code.Given.{Inside}
use Rattle.unification.specs.Closure.{Clash, Occurs}
use Rattle.unification.specs.Words.{AreWords, Reads}
use Rattle.unification.specs.Computed.Variables.{variables_of}
use Rattle.unification.specs.Computed.Binding.{word_of, binding_words}
use Rattle.unification.specs.Outcome.{Outcome, unified, clash, occurs}
use Rattle.unification.specs.Computed.Unifying.{outcome, unifier, words_of}
use Rattle.unification.specs.Answer.{told, outcome_of, variable_count, unify_conditions, Answer, ended, refused, answer_after, unification, words_after, lent_after}
use Rattle.unification.specs.Decided.{Decided}
use Rattle.unification.proofs.VariableLaws.{variables_few}
use Rattle.unification.proofs.TableLaws.{variable_most, well_formed}
use Rattle.unification.proofs.JoinedLaws.{inside_none, inside_more, clash_none, cycle_none}
use Rattle.unification.proofs.ReadingLaws.{reads_one}
use Rattle.unification.proofs.OutcomeLaws.{outcome_unified, outcome_clash, outcome_occurs, words_readable, reading_most_general, words_least}

-- What holds of a call that is not refused (`answered_exactly`).
pub record Unrefused (t : List ℕ) (a b lent : ℕ) : Type 0 where
  pub table : Accepted t
  pub left : a < length (nodes_in t)
  pub right : b < length (nodes_in t)
  pub enough : variable_count t ≤ lent

after_refused : (m : ℕ) (o : Outcome) (n : ℕ) → answer_after m o ≡ refused n ↔ ((0 < n) × (m ≡ n))
unfolding answer_after
after_refused zero o n = ((λ e. let z : ◌≡◌ {A = ℕ} 0 1 = cc in absurd (omega arith)), (λ r. absurd (omega (arith, r.0, r.1))))
after_refused (suc m) o n = ((λ e. let d : suc m ≡ n = cc in (omega arith, d)), (λ r. ap refused r.1))

after_ended : (m : ℕ) (o p : Outcome) → answer_after m o ≡ ended p ↔ ((m ≡ 0) × (o ≡ p))
unfolding answer_after
after_ended zero o p = ((λ e. (refl, cc)), (λ r. ap ended r.1))
after_ended (suc m) o p = ((λ e. let z : ◌≡◌ {A = ℕ} 0 1 = cc in absurd (omega arith)), (λ r. absurd (omega (arith, r.0))))

-- refusal n is answered exactly if condition n holds and none before it
pub refused_exactly : (t : List ℕ) (a b lent n : ℕ) → unification t a b lent ≡ refused n ↔ ((0 < n) × First n (unify_conditions t a b lent))
unfolding unification
refused_exactly t a b lent n =
    let f = first_means n (unify_conditions t a b lent) in
    let c = after_refused (first_held (unify_conditions t a b lent)) (outcome (nodes_in t) ((a, b) ∷ [])) n in
    ((λ e. let r = c.0 e in (r.0, f.0 r.1)), (λ r. c.1 (r.0, f.1 r.1)))

-- no condition holds: what a call that is not refused has
no_condition : (t : List ℕ) (a b lent : ℕ) → first_held (unify_conditions t a b lent) ≡ 0 → Unrefused t a b lent
unfolding unify_conditions
no_condition t a b lent e =
    let f = (accepted_first t _).0 ((first_means 0 (unify_conditions t a b lent)).0 e) in
    let c = pass f.1 in
    let d = pass c.1 in
    record {
      table = f.0;
      left = leb-false (length (nodes_in t)) a (or_false_left (leb (length (nodes_in t)) a) (leb (length (nodes_in t)) b) c.0);
      right = leb-false (length (nodes_in t)) b (or_false_right (leb (length (nodes_in t)) a) (leb (length (nodes_in t)) b) c.0);
      enough = ltb-false lent (variable_count t) d.0;
    }

-- and the other way round
condition_none : (t : List ℕ) (a b lent : ℕ) → Unrefused t a b lent → first_held (unify_conditions t a b lent) ≡ 0
unfolding unify_conditions
condition_none t a b lent u =
    (first_means 0 (unify_conditions t a b lent)).1
    ((accepted_first t _).1 (
      u.table,
      later (or_both_false (leb (length (nodes_in t)) a) (leb (length (nodes_in t)) b)
          (lt-leb (length (nodes_in t)) a u.left) (lt-leb (length (nodes_in t)) b u.right))
          (later (le-ltb lent (variable_count t) u.enough) (none refl)),
    ))

-- a call that is not refused, and no other, is answered by what unifying the two nodes comes to
pub answered_exactly : (t : List ℕ) (a b lent : ℕ) (o : Outcome) → unification t a b lent ≡ ended o ↔
    (Unrefused t a b lent × (outcome (nodes_in t) ((a, b) ∷ []) ≡ o))
unfolding unification
answered_exactly t a b lent o =
    let c = after_ended (first_held (unify_conditions t a b lent)) (outcome (nodes_in t) ((a, b) ∷ [])) o in
    ((λ e. let r = c.0 e in (no_condition t a b lent r.0, r.1)), (λ r. c.1 (condition_none t a b lent r.0, r.1)))

enough : (t : List ℕ) (a b lent : ℕ) → unification t a b lent ≡ ended unified → variable_count t ≤ lent
enough t a b lent e = ((answered_exactly t a b lent unified).0 e).0.enough

-- there is a binding word for each variable
pub words_counted : (ns : List Node) (ps : List (ℕ × ℕ)) → length (words_of ns ps) ≡ length (variables_of ns)
unfolding words_of binding_words
words_counted ns ps = length-map (variables_of ns) (word_of ns (unifier ns ps))

-- and so it is of a table
pub words_long : (t : List ℕ) (ps : List (ℕ × ℕ)) → length (words_of (nodes_in t) ps) ≡ variable_count t
unfolding variable_count
words_long t ps = words_counted (nodes_in t) ps

-- an accepted table has at most 64 variables, so that 64 lent words are always enough for them
pub variables_most : (t : List ℕ) → refusal t ≡ 0 → variable_count t ≤ 64
unfolding variable_count
variables_most t r =
    let a = (accepted t).0 r in
    variables_few (nodes_in t) (max_variable + 1) (λ x p. omega (arith, variable_most t a x p))

-- no call changes how many words are lent
pub lent_long : (t : List ℕ) (a b : ℕ) (lent : List ℕ) → length (lent_after t a b lent) ≡ length lent
unfolding lent_after words_after
lent_long t a b lent = pick (unification t a b (length lent)) refl
  where
    ws : List ℕ
    ws = words_of (nodes_in t) ((a, b) ∷ [])

    pick : (r : Answer) → unification t a b (length lent) ≡ r → length (words_after r ws lent) ≡ length lent
    pick (ended unified) e =
        let h = enough t a b (length lent) e in
        let w : length ws ≡ variable_count t = words_long t ((a, b) ∷ []) in
        let s = length-append ws (drop (length ws) lent) in
        let d = length-drop (length ws) lent in
        omega (arith, h, w, s, d)
    pick (ended clash) e = refl
    pick (ended occurs) e = refl
    pick (refused n) e = refl

-- where the answer is unified, the binding words stand before the words past them
after_unified : (t : List ℕ) (a b : ℕ) (lent : List ℕ) → unification t a b (length lent) ≡ ended unified →
    lent_after t a b lent ≡ words_of (nodes_in t) ((a, b) ∷ []) ++ drop (variable_count t) lent
unfolding lent_after words_after
after_unified t a b lent e = rw (e, words_long t ((a, b) ∷ []))

-- where the answer is unified, the first words are the binding words
pub unified_words : (t : List ℕ) (a b : ℕ) (lent : List ℕ) → unification t a b (length lent) ≡ ended unified →
    take (variable_count t) (lent_after t a b lent) ≡ words_of (nodes_in t) ((a, b) ∷ [])
unified_words t a b lent e = rw (after_unified t a b lent e) (take_at _ _ _ (words_long t ((a, b) ∷ [])))

-- and the others are as they were
pub unified_rest : (t : List ℕ) (a b : ℕ) (lent : List ℕ) → unification t a b (length lent) ≡ ended unified →
    drop (variable_count t) (lent_after t a b lent) ≡ drop (variable_count t) lent
unified_rest t a b lent e = rw (after_unified t a b lent e) (drop_at (words_of (nodes_in t) ((a, b) ∷ [])) _ _ (words_long t ((a, b) ∷ [])))

-- every other answer changes no lent word
pub others_nothing : (t : List ℕ) (a b : ℕ) (lent : List ℕ) → (unification t a b (length lent) ≡ ended unified → ⊥) → lent_after t a b lent ≡ lent
unfolding lent_after words_after
others_nothing t a b lent h = pick (unification t a b (length lent)) refl
  where
    pick : (r : Answer) → unification t a b (length lent) ≡ r → words_after r (words_of (nodes_in t) ((a, b) ∷ [])) lent ≡ lent
    pick (ended unified) e = absurd (h e)
    pick (ended clash) e = refl
    pick (ended occurs) e = refl
    pick (refused n) e = refl

module _ (t : List ℕ) (a b : ℕ) (lent : List ℕ) where
  one_pair : Unrefused t a b (length lent) → Inside (nodes_in t) ((a, b) ∷ [])
  one_pair u = inside_more (nodes_in t) a b [] u.left u.right (inside_none (nodes_in t))

  unifies_pair : (σ : Substitution) → value (nodes_in t) σ a ≡ value (nodes_in t) σ b → Unifies (nodes_in t) ((a, b) ∷ []) σ
  unifies_pair σ e c d m =
      let q = Memᴰ.eq_of_singleton m in
      ap (λ (p : ℕ × ℕ). value (nodes_in t) σ p.0) q ∙ e ∙ sym (ap (λ (p : ℕ × ℕ). value (nodes_in t) σ p.1) q)

  -- from what the outcome means to what the answer does
  exactly : (o : Outcome) (P : Type 0) → (Unrefused t a b (length lent) → outcome (nodes_in t) ((a, b) ∷ []) ≡ o ↔ P) →
      unification t a b (length lent) ≡ ended o ↔ (Unrefused t a b (length lent) × P)
  exactly o P means =
      let x = answered_exactly t a b (length lent) o in
      ((λ e. let r = x.0 e in (r.0, (means r.0).0 r.1)), (λ r. x.1 (r.0, (means r.0).1 r.1)))

  -- unified is answered exactly if the call is not refused and some substitution makes the two terms equal
  pub unified_exactly : unification t a b (length lent) ≡ ended unified ↔
      (Unrefused t a b (length lent) × ((σ : Substitution) × (value (nodes_in t) σ a ≡ value (nodes_in t) σ b)))
  unified_exactly =
      exactly unified ((σ : Substitution) × (value (nodes_in t) σ a ≡ value (nodes_in t) σ b))
      (λ u.
      let m = outcome_unified (nodes_in t) (well_formed t u.table) ((a, b) ∷ []) (one_pair u) in
      ((λ e. let v = m.0 e in (v.0, v.1 a b (Memᴰ.head refl))), (λ v. m.1 (v.0, unifies_pair v.0 v.1))))

  -- clash exactly if it is not refused and the closure has a clash
  pub clash_exactly : unification t a b (length lent) ≡ ended clash ↔ (Unrefused t a b (length lent) × Clash (nodes_in t) ((a, b) ∷ []))
  clash_exactly =
      exactly clash (Clash (nodes_in t) ((a, b) ∷ []))
      (λ u. outcome_clash (nodes_in t) (well_formed t u.table) ((a, b) ∷ []) (one_pair u))

  -- occurs exactly if it is not refused and the closure has no clash and a class that reaches itself
  pub occurs_exactly : unification t a b (length lent) ≡ ended occurs ↔ (Unrefused t a b (length lent) × Occurs (nodes_in t) ((a, b) ∷ []))
  occurs_exactly =
      exactly occurs (Occurs (nodes_in t) ((a, b) ∷ []))
      (λ u. outcome_occurs (nodes_in t) (well_formed t u.table) ((a, b) ∷ []) (one_pair u))

  -- one of the two failures is answered only where no substitution makes the two terms equal
  pub clash_fails : unification t a b (length lent) ≡ ended clash → (σ : Substitution) → value (nodes_in t) σ a ≡ value (nodes_in t) σ b → ⊥
  clash_fails e σ q =
      let r = clash_exactly.0 e in
      clash_none (nodes_in t) (well_formed t r.0.table) ((a, b) ∷ []) (one_pair r.0) σ (unifies_pair σ q) r.1

  -- the same of occurs
  pub occurs_fails : unification t a b (length lent) ≡ ended occurs → (σ : Substitution) → value (nodes_in t) σ a ≡ value (nodes_in t) σ b → ⊥
  occurs_fails e σ q =
      let r = occurs_exactly.0 e in
      cycle_none (nodes_in t) (well_formed t r.0.table) ((a, b) ∷ []) (one_pair r.0) σ (unifies_pair σ q) r.1.class r.1.itself

  module _ (e : unification t a b (length lent) ≡ ended unified) where
    r : Unrefused t a b (length lent) × (outcome (nodes_in t) ((a, b) ∷ []) ≡ unified)
    r = (answered_exactly t a b (length lent) unified).0 e

    -- unified: the words left can be read
    pub unified_readable : Reads (nodes_in t) (take (variable_count t) (lent_after t a b lent)) (unifier (nodes_in t) ((a, b) ∷ []))
    unified_readable =
        rw (unified_words t a b lent e) (words_readable (nodes_in t) (well_formed t r.0.table) ((a, b) ∷ []) (one_pair r.0) r.1)

    -- in one way on the variables present
    pub unified_one_reading : (σ τ : Substitution) → Reads (nodes_in t) (take (variable_count t) (lent_after t a b lent)) σ →
        Reads (nodes_in t) (take (variable_count t) (lent_after t a b lent)) τ → (x : ℕ) → Present (nodes_in t) x → σ x ≡ τ x
    unified_one_reading = reads_one (nodes_in t) (well_formed t r.0.table) (take (variable_count t) (lent_after t a b lent))

    -- as a most general unifier of the two nodes
    pub unified_reading : (σ : Substitution) → Reads (nodes_in t) (take (variable_count t) (lent_after t a b lent)) σ → MostGeneral (nodes_in t) ((a, b) ∷ []) σ
    unified_reading σ q =
        reading_most_general (nodes_in t) (well_formed t r.0.table) ((a, b) ∷ []) (one_pair r.0) r.1 σ (rw (unified_words t a b lent e) at q)

    -- and each is the least node that document 01 names, under every most general unifier
    pub unified_least : (σ : Substitution) → MostGeneral (nodes_in t) ((a, b) ∷ []) σ → AreWords (nodes_in t) σ (take (variable_count t) (lent_after t a b lent))
    unified_least σ g =
        rw (unified_words t a b lent e) (words_least (nodes_in t) (well_formed t r.0.table) ((a, b) ∷ []) (one_pair r.0) σ g)

  -- an answer and words that are a call's decide of the two terms
  pub decided : (answer : Answer) (words : List ℕ) → answer ≡ unification t a b (length lent) → words ≡ lent_after t a b lent →
      Decided t a b answer words
  decided answer words e d =
      record {
        readable = λ z. (unifier (nodes_in t) ((a, b) ∷ []), rw d (unified_readable (sym e ∙ z)));
        most_general = λ z σ q. unified_reading (sym e ∙ z) σ (rw d at q);
        none_equal = λ z. ⊎_elim (λ q. clash_fails (sym e ∙ q)) (λ q. occurs_fails (sym e ∙ q)) z;
      }

from_outcome : Outcome → Unification
from_outcome unified = Unification.Unified
from_outcome clash = Unification.Clash
from_outcome occurs = Unification.Occurs

read_back : (u : Unification) → from_outcome (outcome_of u) ≡ u
unfolding from_outcome
read_back Unification.Unified = refl
read_back Unification.Clash = refl
read_back Unification.Occurs = refl

-- answers that stand for one thing are one answer
pub told_apart : (r s : Result Unification Refusal) → told r ≡ told s → r ≡ s
told_apart (Ok u) (Ok v) e =
    let d : outcome_of u ≡ outcome_of v = cc in
    ap Ok (sym (read_back u) ∙ ap from_outcome d ∙ read_back v)
told_apart (Ok u) (Err r) e = let z : ◌≡◌ {A = ℕ} 0 1 = cc in absurd (omega arith)
told_apart (Err r) (Ok u) e = let z : ◌≡◌ {A = ℕ} 0 1 = cc in absurd (omega arith)
told_apart (Err r) (Err s) e =
    let d : number_of r ≡ number_of s = cc in
    ap Err (number_apart r s d)

-- whatever a call comes to, some answer stands for it
pub told_there : (t : List ℕ) (a b lent : ℕ) → (r : Result Unification Refusal) × (told r ≡ unification t a b lent)
unfolding unification answer_after unify_conditions conditions
told_there t a b lent = go (first_held (unify_conditions t a b lent)) (held_number (unify_conditions t a b lent)) (outcome (nodes_in t) ((a, b) ∷ []))
  where
    go : (n : ℕ) → Memᴰ n (0 ∷ map number_of refusals) → (o : Outcome) → (r : Result Unification Refusal) × (told r ≡ answer_after n o)
    go zero h unified = (Ok Unification.Unified, refl)
    go zero h clash = (Ok Unification.Clash, refl)
    go zero h occurs = (Ok Unification.Occurs, refl)
    go (suc n) (Memᴰ.head e) o = absurd (omega arith)
    go (suc n) (Memᴰ.tail m) o = let r = (numbered (suc n)).0 m in (Err r.0, ap refused r.1)
