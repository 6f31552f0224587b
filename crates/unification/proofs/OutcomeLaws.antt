-- What is computed is what document 01 says: clash and occurs where the closure has them, otherwise a most general unifier and its words.
-- The classes either clash, or have a cycle, or are a solved form. Assumes nothing.
use Prim.Native.Nat.{ℕ, suc, ◌<◌}
use mathlib.Core.Bool.{Bool, true, false, cond, false≢true}
use mathlib.Core.List.{List}
use mathlib.Core.Logic.{◌↔◌}
use mathlib.Core.Path.{◌≡◌, refl, sym, ap, ◌∙◌}
use native.Mathlib.Omega.{arith}
use lib.ListN.{length}
use Rattle.terms.specs.Substitution.{Substitution, sub}
use Rattle.unification.specs.Node.{Node, Present}
use Rattle.unification.specs.Unifier.{Unifies, Unifiable, MostGeneral}
use Rattle.unification.specs.Code.Given.{WellFormed, Inside}
use Rattle.unification.specs.Closure.{Clash, Reaches, Occurs}
use Rattle.unification.specs.Words.{AreWords, Reads}
use Rattle.unification.specs.Computed.Classes.{classes, clashes}
use Rattle.unification.specs.Computed.Walks.{cyclic}
use Rattle.unification.specs.Computed.Solution.{solution, head_in}
use Rattle.unification.specs.Computed.Binding.{binding_words}
use Rattle.unification.specs.Outcome.{Outcome, unified, clash, occurs}
use Rattle.unification.specs.Computed.Unifying.{outcome, unifier, words_of}
use Rattle.unification.specs.Code.Solved.{IsClosure, Solved}
use Rattle.unification.proofs.JoinedLaws.{joined_inside, clash_none, cycle_none}
use Rattle.unification.proofs.ClassLaws.{class_joined, joined_class, clash_found, found_clash}
use Rattle.unification.proofs.WalkLaws.{longest, longest_bound, cycle_found}
use Rattle.unification.proofs.SolvedLaws.{closure_no_clash, solution_first, solution_most_general}
use Rattle.unification.proofs.HeadLaws.{head_lowest, classes_solved}
use Rattle.unification.proofs.PresentLaws.{restricted, restricted_present, restricted_absent, present_or_not, most_general_agree}
use Rattle.unification.proofs.ReadingLaws.{reads_one}
use Rattle.unification.proofs.WordLaws.{words_one, words_same, Held, words_computed, words_read, solution_held, solution_lowest}

-- One of three holds, and neither of the others.
pub data ExactlyOne (A B C : Type 0) : Type 0 where
  first : A → (B → ⊥) → (C → ⊥) → ExactlyOne A B C
  second : (A → ⊥) → B → (C → ⊥) → ExactlyOne A B C
  third : (A → ⊥) → (B → ⊥) → C → ExactlyOne A B C

module _ (ns : List Node) (w : WellFormed ns) (ps : List (ℕ × ℕ)) (h : Inside ns ps) where
  to_cycle : cyclic ns (classes ns ps) ≡ true → (i : ℕ) × Reaches ns ps i i
  to_cycle =
      cycle_found ns w ps (classes ns ps) (class_joined ns w ps h) (λ i j q. joined_class ns w ps h q) (λ i j q. joined_inside ns w ps h q)

  -- The classes are a solved form.
  abbrev SolvedForm : Type 0
  SolvedForm = Solved ns ps (head_in ns (classes ns ps)) (longest ns (classes ns ps))

  -- What the tests say of the outcome.
  data Tested : Outcome → Type 0 where
    clashed : Clash ns ps → Tested clash
    cycled : Occurs ns ps → Tested occurs
    solved : SolvedForm → Tested unified

  tested : Tested (outcome ns ps)
  unfolding outcome
  tested = pick (clashes ns (classes ns ps)) refl (cyclic ns (classes ns ps)) refl
    where
      pick : (b : Bool) → clashes ns (classes ns ps) ≡ b → (c : Bool) → cyclic ns (classes ns ps) ≡ c → Tested (cond b clash (cond c occurs unified))
      pick true d c e = clashed (clash_found ns w ps h d)
      pick false d true e =
          let r = to_cycle e in
          cycled (record { no_clash = λ k. false≢true (sym d ∙ found_clash ns w ps h k); class = r.0; itself = r.1 })
      pick false d false e =
          solved (classes_solved ns w ps (classes ns ps) (class_joined ns w ps h) (λ i j q. joined_class ns w ps h q)
          (λ k. false≢true (sym d ∙ found_clash ns w ps h k)) e)

  bounded : (i : ℕ) → i < length ns → longest ns (classes ns ps) (head_in ns (classes ns ps) i) < suc (length ns)
  bounded i p = let l = longest_bound ns w (classes ns ps) (head_in ns (classes ns ps) i) in omega (arith, l)

  most_general : SolvedForm → MostGeneral ns ps (unifier ns ps)
  unfolding unifier
  most_general s = solution_most_general ns w ps h (head_in ns (classes ns ps)) (longest ns (classes ns ps)) s (suc (length ns)) bounded

  no_clash : Unifiable ns ps → Clash ns ps → ⊥
  no_clash u k = clash_none ns w ps h u.0 u.1 k

  no_occurs : Unifiable ns ps → Occurs ns ps → ⊥
  no_occurs u o = cycle_none ns w ps h u.0 u.1 o.class o.itself

  solved_unifiable : SolvedForm → Unifiable ns ps
  solved_unifiable s = (unifier ns ps, (most_general s).unifies)

  -- exactly one of unified, clash and occurs holds
  pub exactly_one : ExactlyOne (Unifiable ns ps) (Clash ns ps) (Occurs ns ps)
  exactly_one = go tested
    where
      go : {o : Outcome} → Tested o → ExactlyOne (Unifiable ns ps) (Clash ns ps) (Occurs ns ps)
      go (clashed k) = second (λ u. no_clash u k) k (λ o. o.no_clash k)
      go (cycled o) = third (λ u. no_occurs u o) o.no_clash o
      go (solved s) = first (solved_unifiable s) (no_clash (solved_unifiable s)) (no_occurs (solved_unifiable s))

  -- clash is computed exactly where there is one
  pub outcome_clash : outcome ns ps ≡ clash ↔ Clash ns ps
  outcome_clash = (λ e. there tested e, λ k. back_to tested k)
    where
      there : {o : Outcome} → Tested o → o ≡ clash → Clash ns ps
      there (clashed k) e = k
      there (cycled o) e = let z : ◌≡◌ {A = ℕ} 0 1 = cc in absurd (omega arith)
      there (solved s) e = let z : ◌≡◌ {A = ℕ} 0 1 = cc in absurd (omega arith)

      back_to : {o : Outcome} → Tested o → Clash ns ps → o ≡ clash
      back_to (clashed k) c = refl
      back_to (cycled o) c = absurd (o.no_clash c)
      back_to (solved s) c = absurd (no_clash (solved_unifiable s) c)

  -- occurs is computed exactly where there is no clash, and a class reaches itself
  pub outcome_occurs : outcome ns ps ≡ occurs ↔ Occurs ns ps
  outcome_occurs = (λ e. there tested e, λ k. back_to tested k)
    where
      there : {o : Outcome} → Tested o → o ≡ occurs → Occurs ns ps
      there (clashed k) e = let z : ◌≡◌ {A = ℕ} 0 1 = cc in absurd (omega arith)
      there (cycled o) e = o
      there (solved s) e = let z : ◌≡◌ {A = ℕ} 0 1 = cc in absurd (omega arith)

      back_to : {o : Outcome} → Tested o → Occurs ns ps → o ≡ occurs
      back_to (clashed k) c = absurd (c.no_clash k)
      back_to (cycled o) c = refl
      back_to (solved s) c = absurd (no_occurs (solved_unifiable s) c)

  -- a class that reaches itself, found where heads leave no clash, decides: occurs
  pub cycle_decides : (head : ℕ → ℕ) → IsClosure ns ps head → (i : ℕ) → Reaches ns ps i i → outcome ns ps ≡ occurs
  cycle_decides head c i r = outcome_occurs.1 (record { no_clash = closure_no_clash ns w ps h head c; class = i; itself = r })

  to_solved : {o : Outcome} → Tested o → o ≡ unified → SolvedForm
  to_solved (clashed k) e = let z : ◌≡◌ {A = ℕ} 0 1 = cc in absurd (omega arith)
  to_solved (cycled o) e = let z : ◌≡◌ {A = ℕ} 0 1 = cc in absurd (omega arith)
  to_solved (solved s) e = s

  to_unified : {o : Outcome} → Tested o → Unifiable ns ps → o ≡ unified
  to_unified (clashed k) u = absurd (no_clash u k)
  to_unified (cycled o) u = absurd (no_occurs u o)
  to_unified (solved s) u = refl

  -- unified is computed exactly where the pairs have a common unifier
  pub outcome_unified : outcome ns ps ≡ unified ↔ Unifiable ns ps
  outcome_unified = (λ e. solved_unifiable (to_solved tested e), λ u. to_unified tested u)

  -- and then the unifier that is computed is most general
  pub unifier_most_general : outcome ns ps ≡ unified → MostGeneral ns ps (unifier ns ps)
  unifier_most_general e = most_general (to_solved tested e)

  held : outcome ns ps ≡ unified → Held ns (unifier ns ps)
  unfolding unifier
  held e =
      solution_held ns w ps h (head_in ns (classes ns ps)) (longest ns (classes ns ps)) (to_solved tested e) (suc (length ns)) bounded

  -- the words can be read back
  pub words_readable : outcome ns ps ≡ unified → Reads ns (words_of ns ps) (unifier ns ps)
  unfolding unifier words_of
  words_readable e =
      words_read ns (unifier ns ps) (held e)
      (solution_lowest ns w ps h (head_in ns (classes ns ps)) (longest ns (classes ns ps)) (to_solved tested e) (suc (length ns)) bounded
      (head_lowest ns ps (classes ns ps) (λ i j q. joined_class ns w ps h q)))

  -- and whatever is read from them is a most general unifier, the same on every variable present
  pub reading_most_general : outcome ns ps ≡ unified → (σ : Substitution) → Reads ns (words_of ns ps) σ → MostGeneral ns ps σ
  reading_most_general e σ r =
      most_general_agree ns w ps h (unifier ns ps) σ (reads_one ns w (words_of ns ps) (unifier ns ps) σ (words_readable e) r) (unifier_most_general e)

  -- taken at the variables present alone, it comes before every unifier at every variable there is
  pub reading_everywhere : outcome ns ps ≡ unified → (σ : Substitution) → Reads ns (words_of ns ps) σ → (τ : Substitution) → Unifies ns ps τ →
      (x : ℕ) → τ x ≡ sub τ (restricted ns σ x)
  unfolding unifier sub
  reading_everywhere e σ r τ u x = go (present_or_not ns x)
    where
      go : Dec (Present ns x) → τ x ≡ sub τ (restricted ns σ x)
      go (yes p) =
          solution_first ns w ps h (head_in ns (classes ns ps)) (longest ns (classes ns ps)) (to_solved tested e) (suc (length ns)) bounded τ u x p ∙
          ap (sub τ) (reads_one ns w (words_of ns ps) (unifier ns ps) σ (words_readable e) r x p ∙ restricted_present ns σ x p)
      go (no p) = sym (ap (sub τ) (restricted_absent ns σ x p))

  -- the words are read in one way at most
  pub one_reading : (σ τ : Substitution) → Reads ns (words_of ns ps) σ → Reads ns (words_of ns ps) τ → (x : ℕ) → Present ns x → σ x ≡ τ x
  one_reading σ τ r q = reads_one ns w (words_of ns ps) σ τ r q

  computed_words : outcome ns ps ≡ unified → AreWords ns (unifier ns ps) (words_of ns ps)
  unfolding unifier words_of
  computed_words e = words_computed ns (unifier ns ps) (held e)

  -- under every most general unifier each word is the least node that document 01 names
  pub words_least : (σ : Substitution) → MostGeneral ns ps σ → AreWords ns σ (words_of ns ps)
  words_least σ g =
      let e = outcome_unified.1 (σ, g.unifies) in
      words_same ns w ps (unifier ns ps) σ (unifier_most_general e) g (words_of ns ps) (computed_words e)

  -- words that are so under one most general unifier are the words
  pub words_decided : (σ : Substitution) → MostGeneral ns ps σ → (ws : List ℕ) → AreWords ns σ ws → words_of ns ps ≡ ws
  words_decided σ g ws a = words_one ns σ (words_of ns ps) ws (words_least σ g) a

  -- a solved form, whatever its heads and order, decides: unified, with the words of its solution
  pub solved_decides : (head order : ℕ → ℕ) → Solved ns ps head order → (k : ℕ) → ((i : ℕ) → i < length ns → order (head i) < k) →
      (outcome ns ps ≡ unified) × (words_of ns ps ≡ binding_words ns (solution k ns head))
  solved_decides head order s k l =
      let g = solution_most_general ns w ps h head order s k l in (
        outcome_unified.1 (solution k ns head, g.unifies),
        words_decided (solution k ns head) g (binding_words ns (solution k ns head))
            (words_computed ns (solution k ns head) (solution_held ns w ps h head order s k l)),
      )

  -- so any two solved forms give the same words
  pub solved_one : (head order : ℕ → ℕ) → Solved ns ps head order → (k : ℕ) → ((i : ℕ) → i < length ns → order (head i) < k) →
      (head' order' : ℕ → ℕ) → Solved ns ps head' order' → (k' : ℕ) → ((i : ℕ) → i < length ns → order' (head' i) < k') →
      binding_words ns (solution k ns head) ≡ binding_words ns (solution k' ns head')
  solved_one head order s k l head' order' s' k' l' =
      sym (solved_decides head order s k l).1 ∙ (solved_decides head' order' s' k' l').1
