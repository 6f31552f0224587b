-- A node's term is made of its arguments' terms, and so is its value under a substitution: arguments have smaller numbers, so that the
-- steps of `term_of` are enough.
-- Only the variables present matter. Assumes nothing.
use Prim.Native.Nat.{ℕ, zero, suc, ◌<◌, ◌≤◌}
use mathlib.Core.List.Memᴰ
use mathlib.Core.List.{List, [], ◌∷◌, Memᴰ, zip, zip_with}
use mathlib.Core.Path.{◌≡◌, refl, sym, ap, ◌∙◌}
use native.Mathlib.Omega.{arith}
use lib.ListN.{length}
use Rattle.terms.specs.Term.{Term, app, cons}
use Rattle.terms.specs.Substitution.{Substitution, sub, subs}
use Rattle.terms.proofs.SizeLaws.{size, sizes}
use Rattle.unification.specs.Node.{Node, variable, application, node_at, each, spell, term_within, term_of, Present}
use Rattle.unification.specs.Unifier.{value}
use Rattle.unification.specs.Code.Given.{WellFormed}

-- the terms of a list depend on those of its members
pub each_same : (u v : ℕ → Term) (us : List ℕ) → ((a : ℕ) → Memᴰ a us → u a ≡ v a) → each u us ≡ each v us
unfolding each
each_same u v [] h = refl
each_same u v (a ∷ us) h =
    let e : u a ≡ v a = h a (Memᴰ.head refl) in
    let r : each u us ≡ each v us = each_same u v us (λ b m. h b (Memᴰ.tail m)) in
    rw (e, r)

-- equal lists of terms are equally long
pub each_long : (u v : ℕ → Term) (us vs : List ℕ) → each u us ≡ each v vs → length us ≡ length vs
unfolding each
each_long u v [] [] e = refl
each_long u v [] (b ∷ vs) e = let z : ◌≡◌ {A = ℕ} 0 1 = cc in absurd (omega arith)
each_long u v (a ∷ us) [] e = let z : ◌≡◌ {A = ℕ} 0 1 = cc in absurd (omega arith)
each_long u v (a ∷ us) (b ∷ vs) e =
    let r : each u us ≡ each v vs = cc in
    ap suc (each_long u v us vs r)

-- and equal at each position
pub each_at : (u v : ℕ → Term) (us vs : List ℕ) → each u us ≡ each v vs → (a b : ℕ) → Memᴰ (a, b) (zip us vs) → u a ≡ v b
unfolding each zip zip_with
each_at u v [] vs e a b m = absurd (Memᴰ.not-nil m)
each_at u v (c ∷ us) [] e a b m = absurd (Memᴰ.not-nil m)
each_at u v (c ∷ us) (d ∷ vs) e a b (Memᴰ.head q) =
    let r : u c ≡ v d = cc in
    ap (λ (p : ℕ × ℕ). u p.0) q ∙ r ∙ sym (ap (λ (p : ℕ × ℕ). v p.1) q)
each_at u v (c ∷ us) (d ∷ vs) e a b (Memᴰ.tail m) =
    let r : each u us ≡ each v vs = cc in
    each_at u v us vs r a b m

-- and the other way round
pub each_equal : (u v : ℕ → Term) (us vs : List ℕ) → length us ≡ length vs → ((a b : ℕ) → Memᴰ (a, b) (zip us vs) → u a ≡ v b) → each u us ≡ each v vs
unfolding each zip zip_with
each_equal u v [] [] l h = refl
each_equal u v [] (b ∷ vs) l h = absurd (omega arith)
each_equal u v (a ∷ us) [] l h = absurd (omega arith)
each_equal u v (a ∷ us) (b ∷ vs) l h =
    let e : u a ≡ v b = h a b (Memᴰ.head refl) in
    let r : each u us ≡ each v vs = each_equal u v us vs (omega arith) (λ c d m. h c d (Memᴰ.tail m)) in
    rw (e, r)

-- a member is no larger than the whole
pub each_size : (v : ℕ → Term) (us : List ℕ) (a : ℕ) → Memᴰ a us → size (v a) ≤ sizes (each v us)
unfolding each sizes
each_size v [] a x = elim x [ ]
each_size v (b ∷ us) a (Memᴰ.head e) = let q : size (v a) ≡ size (v b) = ap (λ (c : ℕ). size (v c)) e in omega arith
each_size v (b ∷ us) a (Memᴰ.tail m) = let r : size (v a) ≤ sizes (each v us) = each_size v us a m in omega arith

-- a node spelt out depends on the terms of its arguments
pub spell_same : (u v : ℕ → Term) (n : Node) → ((f : ℕ) (us : List ℕ) → n ≡ application f us → (a : ℕ) → Memᴰ a us → u a ≡ v a) →
    spell u n ≡ spell v n
unfolding spell
spell_same u v (variable x) h = refl
spell_same u v (application f us) h = ap (app f) (each_same u v us (h f us refl))

-- a substitution goes through a list of terms
pub subs_each : (σ : Substitution) (v : ℕ → Term) (us : List ℕ) → subs σ (each v us) ≡ each (λ a. sub σ (v a)) us
unfolding subs each
subs_each σ v [] = refl
subs_each σ v (a ∷ us) = ap (cons (sub σ (v a))) (subs_each σ v us)

module _ (ns : List Node) (w : WellFormed ns) where
  within_same : (k m i : ℕ) → i < k → i < m → i < length ns → term_within k ns i ≡ term_within m ns i
  unfolding term_within
  within_same zero m i p q h = absurd (omega arith)
  within_same (suc k) zero i p q h = absurd (omega arith)
  within_same (suc k) (suc m) i p q h =
      spell_same (term_within k ns) (term_within m ns) (node_at ns i)
      (λ f us e a d. let l : a < i = w.smaller i f us h e a d in within_same k m a (omega arith) (omega arith) (omega arith))

  -- a node is spelt out by the terms of its arguments
  pub term_node : (i : ℕ) → i < length ns → term_of ns i ≡ spell (term_of ns) (node_at ns i)
  unfolding term_of term_within
  term_node i h =
      spell_same (term_within i ns) (term_of ns) (node_at ns i)
      (λ f us e a d. let l : a < i = w.smaller i f us h e a d in within_same i (suc a) a l (omega arith) (omega arith))

  -- the value of a variable's node
  pub value_variable : (σ : Substitution) (i x : ℕ) → i < length ns → node_at ns i ≡ variable x → value ns σ i ≡ σ x
  unfolding spell sub
  value_variable σ i x h e = ap (sub σ) (term_node i h ∙ ap (spell (term_of ns)) e)

  -- the value of an application
  pub value_application : (σ : Substitution) (i f : ℕ) (us : List ℕ) → i < length ns → node_at ns i ≡ application f us →
      value ns σ i ≡ app f (each (value ns σ) us)
  unfolding spell sub
  value_application σ i f us h e =
      ap (sub σ) (term_node i h ∙ ap (spell (term_of ns)) e) ∙ ap (app f) (subs_each σ (term_of ns) us)

  -- values that agree on variables and go through applications agree
  pub values_same : (σ : Substitution) (v : ℕ → Term) → ((i x : ℕ) → i < length ns → node_at ns i ≡ variable x → σ x ≡ v i) →
      ((i f : ℕ) (us : List ℕ) → i < length ns → node_at ns i ≡ application f us → app f (each v us) ≡ v i) → (i : ℕ) → i < length ns →
      value ns σ i ≡ v i
  values_same σ v hv ha i h = go (suc i) i (omega arith) h
    where
      at : (i : ℕ) → ((j : ℕ) → j < i → j < length ns → value ns σ j ≡ v j) → i < length ns → (n : Node) → node_at ns i ≡ n → value ns σ i ≡ v i
      at i r h (variable x) e = value_variable σ i x h e ∙ hv i x h e
      at i r h (application f us) e =
          value_application σ i f us h e ∙ ap (app f)
          (each_same (value ns σ) v us (λ a d. let l : a < i = w.smaller i f us h e a d in r a l (omega arith))) ∙ ha i f us h e

      go : (k i : ℕ) → i < k → i < length ns → value ns σ i ≡ v i
      go zero i p h = absurd (omega arith)
      go (suc k) i p h = at i (λ j q l. go k j (omega arith) l) h (node_at ns i) refl

  -- only the variables present matter to the value of a node
  pub value_agree : (σ τ : Substitution) → ((x : ℕ) → Present ns x → σ x ≡ τ x) → (i : ℕ) → i < length ns → value ns σ i ≡ value ns τ i
  value_agree σ τ h =
      values_same σ (value ns τ)
      (λ i x l e. h x (i, l, e) ∙ sym (value_variable τ i x l e))
      (λ i f us l e. sym (value_application τ i f us l e))

  -- the value of a node under one substitution and then another
  pub value_after_lem : (σ τ ρ : Substitution) → ((x : ℕ) → Present ns x → τ x ≡ sub ρ (σ x)) → (i : ℕ) → i < length ns →
      value ns τ i ≡ sub ρ (value ns σ i)
  unfolding sub
  value_after_lem σ τ ρ h =
      values_same τ (λ i. sub ρ (value ns σ i))
      (λ i x p e. h x (i, p, e) ∙ ap (sub ρ) (sym (value_variable σ i x p e)))
      (λ i f us p e. sym (ap (sub ρ) (value_application σ i f us p e) ∙ ap (app f) (subs_each ρ (value ns σ) us)))
