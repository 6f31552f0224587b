-- What a call answers, by its parts: a refused table by its refusal, an accepted one by its nodes. Assumes nothing.
use Prim.Native.Nat.{ℕ, ◌+◌, ◌-◌, ◌<◌, ◌≤◌}
use mathlib.Core.Bool.{Bool, true, false, ◌||◌}
use mathlib.Core.List.Memᴰ
use mathlib.Core.List.{List, [], ◌∷◌, Memᴰ}
use mathlib.Core.Logic.{◌⊎◌, inl, inr, ◌↔◌}
use mathlib.Core.Path.{◌≡◌, refl, sym, ap, ◌∙◌}
use native.Mathlib.Omega.{arith}
use borrow.Author.Tests.{leb-false, ltb-false, lt-leb, lt-ltb, le-ltb}
use lib.Dec.{leb, ltb}
use lib.ListN.{length, take, drop}
use Rattle.table.specs.declared.Refusal.{Refusal}
use Rattle.std.specs.Prelude.{Result, Ok, Err}
use Rattle.table.specs.Layout.{node_count}
use Rattle.table.specs.Answer.{number_of}
use Rattle.table.specs.Refusal.{conditions, refusal}
use Rattle.table.specs.Code.Accepted.{Accepted}
use Rattle.table.proofs.BoolLaws.{or_false_left, or_false_right, or_both_false}
use Rattle.table.proofs.RefusalLaws.{First, here, later, first_before, first_after, refused, conditions_numbered}
use Rattle.table.proofs.AcceptedLaws.{accepted}
use Rattle.table.proofs.AnswerLaws.{number_above}
use Rattle.terms.specs.Substitution.{Substitution}
use Rattle.unification.specs.declared.Unification.{Unification}
use Rattle.unification.specs.declared.Unification.TheVariants.{Unified, Clash, Occurs}
use Rattle.unification.specs.Node.{Node, nodes_in, nodes_from}
use Rattle.unification.specs.Unifier.{value, Unifies}
use Rattle.unification.specs.Computed.Variables.{variables_of}
use Rattle.unification.specs.Computed.Unifying.{outcome, words_of}
use Rattle.unification.specs.Answer as answer
use Rattle.unification.specs.Answer.{outcome_of, told, variable_count, unify_conditions, ended, unification, words_after, lent_after}
use Rattle.unification.specs.Decided.{Decided}
use Rattle.unification.specs.Code.Given.{Inside}
use Rattle.unification.specs.Code.Sections.{Sections}
use Rattle.unification.proofs.SectionLaws.{nodes_long, is_node, sections_well_formed}
use Rattle.unification.proofs.OutcomeLaws.{outcome_unified}
use Rattle.unification.proofs.PairLaws.{same_unifiers}
use Rattle.unification.proofs.AnswerLaws.{words_counted, refused_exactly, answered_exactly, decided}
use Rattle.nodes.specs.Code.Open.{OpenListed}
use Rattle.values.specs.Code.Present.{least_nodes}
use Rattle.nodes.specs.Code.Formed.{Stands}
use Rattle.classes.specs.Code.Stands.{Extends}
use Rattle.values.specs.Code.Begins.{Lists, Leaves, BeginsShared}
use Rattle.unify.specs.Code.Calling.{called, AnswersByNodes}
use Rattle.values.proofs.LeastLaws.{least_long}
use Rattle.unification.proofs.TogetherLaws.{outcome_together}

module _ (t : List ℕ) (a b : ℕ) where
  -- a table that is refused gets its refusal
  refused_table : (lent : ℕ) (r : Refusal) → number_of r ≡ refusal t → unification t a b lent ≡ answer.refused (number_of r)
  unfolding unify_conditions
  refused_table lent r e =
      let h = number_above r in
      (refused_exactly t a b lent (number_of r)).1 (h, first_before _ h ((refused t (number_of r)).0 (sym e)))

  module _ (g : Accepted t) where
    clear : First 0 (conditions t)
    clear = (refused t 0).0 ((accepted t).1 g)

    -- one that is accepted is answered by its nodes
    accepted_table : (lent : ℕ) → unification t a b lent ≡ called (nodes_in t) a b lent
    unfolding called unify_conditions variable_count
    accepted_table lent = pick (leb (length (nodes_in t)) a || leb (length (nodes_in t)) b) refl (ltb lent (length (variables_of (nodes_in t)))) refl
      where
        pick : (x : Bool) → (leb (length (nodes_in t)) a || leb (length (nodes_in t)) b) ≡ x → (y : Bool) →
            ltb lent (length (variables_of (nodes_in t))) ≡ y → unification t a b lent ≡ called (nodes_in t) a b lent
        pick true e y f = rw e ((refused_exactly t a b lent 8).1 (omega arith, first_after _ _ (conditions_numbered t) clear (here refl e)))
        pick false e true f =
            rw (e, f) ((refused_exactly t a b lent 9).1 (omega arith, first_after _ _ (conditions_numbered t) clear (later e (here refl f))))
        pick false e false f =
            rw (e, f)
            ((answered_exactly t a b lent (outcome (nodes_in t) ((a, b) ∷ []))).1 (
              record {
                table = g;
                left = leb-false (length (nodes_in t)) a (or_false_left (leb (length (nodes_in t)) a) (leb (length (nodes_in t)) b) e);
                right = leb-false (length (nodes_in t)) b (or_false_right (leb (length (nodes_in t)) a) (leb (length (nodes_in t)) b) e);
                enough = ltb-false lent (length (variables_of (nodes_in t))) f;
              },
              refl,
            ))

    -- and so are the lent words
    accepted_words : (lent : List ℕ) → lent_after t a b lent
        ≡ words_after (called (nodes_in t) a b (length lent)) (words_of (nodes_in t) ((a, b) ∷ []))
        lent
    unfolding lent_after
    accepted_words lent = rw (accepted_table (length lent))

-- A number is no node, or both are: n is the number of nodes.
module _ (nodes arguments : List ℕ) (a b n : ℕ) (e : n ≡ node_count nodes) where
  -- a number is no node
  pub answers_node : (lent : List ℕ) → (leb n a || leb n b) ≡ true →
      AnswersByNodes (nodes_from nodes arguments) a b lent (Err Refusal.NotANode) lent
  unfolding called words_after
  answers_node lent g =
      let h : (leb (length (nodes_from nodes arguments)) a || leb (length (nodes_from nodes arguments)) b) ≡ true = rw
      (nodes_long nodes arguments ∙ sym e) g in
      record { answer = rw h; words = rw h }

  -- both are
  pub nodes_given : (leb n a || leb n b) ≡ false → (a < node_count nodes) × (b < node_count nodes)
  nodes_given g =
      let p = leb-false n a (or_false_left (leb n a) (leb n b) g) in
      let q = leb-false n b (or_false_right (leb n a) (leb n b) g) in
      (omega (arith, p), omega (arith, q))

-- Two nodes, the lent words, and what unifying begins with.
module _ (nodes arguments : List ℕ) (s : Sections nodes arguments) (a b : ℕ) (h : (a < node_count nodes) × (b < node_count nodes)) (lent : List ℕ)
    (v : ℕ) (list heads : List ℕ) (g : BeginsShared nodes arguments v list heads) where
  abbrev ns : List Node
  ns = nodes_from nodes arguments

  both : (leb (length ns) a || leb (length ns) b) ≡ false
  both =
      or_both_false (leb (length ns) a) (leb (length ns) b) (lt-leb (length ns) a (is_node nodes arguments a h.0))
      (lt-leb (length ns) b (is_node nodes arguments b h.1))

  -- too few words are lent
  pub answers_few : length lent < v → AnswersByNodes ns a b lent (Err Refusal.TooFewLent) lent
  unfolding called words_after
  answers_few l =
      let d = g.lists.counted in
      let z : ltb (length lent) (length (variables_of ns)) ≡ true = lt-ltb (length lent) (length (variables_of ns)) (omega (arith, d)) in
      record { answer = rw (both, z); words = rw (both, z) }

  -- the pair alone has the unifiers of the pair with those of one term
  pair_alone : (σ : Substitution) → Unifies ns ((a, b) ∷ g.pairs) σ ↔ Unifies ns ((a, b) ∷ []) σ
  pair_alone σ = (
    (λ u x y m. u x y (Memᴰ.head (Memᴰ.eq_of_singleton m))),
    (λ u x y m. either x y u (Memᴰ.cases_cons m)),
  )
    where
      either : (x y : ℕ) → Unifies ns ((a, b) ∷ []) σ → (◌≡◌ {A = ℕ × ℕ} (x, y) (a, b)) ⊎ Memᴰ (x, y) g.pairs → value ns σ x ≡ value ns σ y
      either x y u (inl e) = u x y (Memᴰ.head e)
      either x y u (inr m) = g.same σ x y m

  -- Enough words are lent, and the classes are extended by the pair.
  module _ (l : v ≤ length lent) (counts next : List ℕ) (r : Unification) (heads' next' : List ℕ)
      (x : Extends nodes arguments counts heads next a b r heads' next') where
    -- what unifying the two nodes comes to
    comes : outcome_of r ≡ outcome ns ((a, b) ∷ [])
    comes =
        x.answers g.pairs g.stands
        ∙ outcome_together ns (sections_well_formed nodes arguments s) a b (is_node nodes arguments a h.0) (is_node nodes arguments b h.1)
        g.pairs g.stands.inside g.same

    -- it is the answer
    answers_ended : (lent' : List ℕ) → lent' ≡ words_after (ended (outcome_of r)) (words_of ns ((a, b) ∷ [])) lent →
        AnswersByNodes ns a b lent (Ok r) lent'
    unfolding called
    answers_ended lent' w =
        let d = g.lists.counted in
        let z : ltb (length lent) (length (variables_of ns)) ≡ false = le-ltb (length lent) (length (variables_of ns)) (omega (arith, d)) in
        record { answer = rw (both, z, ← comes) refl; words = rw (both, z, ← comes) w }

    -- a failure
    pub answers_failed : (r ≡ Unified → ⊥) → AnswersByNodes ns a b lent (Ok r) lent
    unfolding words_after
    answers_failed n = answers_ended lent (unchanged r n)
      where
        unchanged : (u : Unification) → (u ≡ Unified → ⊥) →
            lent ≡ words_after (ended (outcome_of u)) (words_of ns ((a, b) ∷ [])) lent
        unchanged Unified d = absurd (d refl)
        unchanged Clash d = refl
        unchanged Occurs d = refl

    module _ (e : r ≡ Unified) where
      unified_stands : Stands nodes arguments heads' ((a, b) ∷ g.pairs)
      unified_stands = x.stands e g.pairs g.stands

      one_inside : Inside ns ((a, b) ∷ [])
      one_inside y z m = unified_stands.inside y z (Memᴰ.head (Memᴰ.eq_of_singleton m))

      -- their words are those of the pair
      one_words : words_of ns ((a, b) ∷ g.pairs) ≡ words_of ns ((a, b) ∷ [])
      one_words =
          same_unifiers ns (sections_well_formed nodes arguments s) ((a, b) ∷ g.pairs) ((a, b) ∷ []) unified_stands.inside one_inside
          pair_alone
          ((outcome_unified ns (sections_well_formed nodes arguments s) ((a, b) ∷ g.pairs) unified_stands.inside).0
          (sym (x.answers g.pairs g.stands) ∙ ap outcome_of e))

      -- unified: the binding words are left
      pub answers_unified : {lent' : List ℕ} → Leaves nodes arguments heads' lent lent' → AnswersByNodes ns a b lent (Ok r) lent'
      unfolding words_after
      answers_unified {lent'} w =
          answers_ended lent' (rw (e, ← one_words, words_counted ns ((a, b) ∷ g.pairs)) (w ((a, b) ∷ g.pairs) unified_stands))

-- the least nodes of the variables present, as the code takes them, for which enough words are lent
pub list_given : (nodes arguments counts : List ℕ) (v n : ℕ) → Lists nodes arguments v (drop 512 counts) → v ≤ n →
    (take (512 + v - 512) (drop 512 counts) ≡ least_nodes (nodes_from nodes arguments)) × (length (take (512 + v - 512) (drop 512 counts)) ≤ n)
list_given nodes arguments counts v n l h =
    let z : 512 + v - 512 ≡ v = omega arith in
    let e : take (512 + v - 512) (drop 512 counts) ≡ least_nodes (nodes_from nodes arguments) = ap (λ (k : ℕ). take k (drop 512 counts)) z
    ∙ l.least in
    let d = ap length e ∙ least_long (nodes_from nodes arguments) in
    let c = l.counted in
    (e, omega (arith, d, c))

-- the open applications behind the counts, as the code takes them
pub opens_given : (nodes counts : List ℕ) (r : ℕ) → OpenListed nodes counts (take r (drop 256 counts)) →
    OpenListed nodes counts (take (256 + r - 256) (drop 256 counts))
opens_given nodes counts r o = let e : 256 + r - 256 ≡ r = omega arith in rw e o

-- All that is promised of a call.
abbrev pub Promised : List ℕ → ℕ → ℕ → List ℕ → Result Unification Refusal → List ℕ → Type 0
Promised t a b lent r lent' = (told r ≡ unification t a b (length lent)) × ((lent' ≡ lent_after t a b lent) × Decided t a b (told r) lent')

-- what the answer and the lent words decide follows from what they are
promised : (t : List ℕ) (a b : ℕ) (lent : List ℕ) (r : Result Unification Refusal) (lent' : List ℕ) → told r ≡ unification t a b (length lent) →
    lent' ≡ lent_after t a b lent → Promised t a b lent r lent'
promised t a b lent r lent' e d = (e, (d, decided t a b lent (told r) lent' e d))

-- no lent word is changed where the table is refused
refused_words : (t : List ℕ) (a b : ℕ) (lent : List ℕ) (r : Refusal) → told (Err r) ≡ unification t a b (length lent) →
    lent ≡ lent_after t a b lent
unfolding lent_after words_after
refused_words t a b lent r e = rw (← e)

-- so it is of a call with a refused table
pub refused_promised : (t : List ℕ) (a b : ℕ) (lent : List ℕ) (r : Refusal) → number_of r ≡ refusal t →
    Promised t a b lent (Err r) lent
refused_promised t a b lent r e =
    let d : told (Err r) ≡ unification t a b (length lent) = sym (refused_table t a b (length lent) r e) in
    promised t a b lent (Err r) lent d (refused_words t a b lent r d)

-- and with an accepted one
pub accepted_promised : (t : List ℕ) (a b : ℕ) (lent : List ℕ) (r : Result Unification Refusal) (lent' : List ℕ) → Accepted t →
    AnswersByNodes (nodes_in t) a b lent r lent' → Promised t a b lent r lent'
accepted_promised t a b lent r lent' g k =
    promised t a b lent r lent' (k.answer ∙ sym (accepted_table t a b g (length lent))) (k.words ∙ sym (accepted_words t a b g lent))
