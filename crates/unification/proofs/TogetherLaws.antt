-- Pairs of nodes of one term change nothing of what unifying a pair comes to.
-- Chains of nodes that the pair joins and nodes of one term keep to the rules of the closure: whatever a chain leads to from
-- an application is joined with an application of its symbol, whose arguments are chained with its own. Assumes nothing.
use Prim.Native.Nat.{ℕ, ◌<◌}
use mathlib.Core.List.Memᴰ
use mathlib.Core.List.{List, [], ◌∷◌, Memᴰ, zip}
use mathlib.Core.Logic.{◌⊎◌, inl, inr}
use mathlib.Core.Path.{◌≡◌, refl, sym, ap, ◌∙◌}
use native.Mathlib.Decide.{ℕ_discrete}
use native.Mathlib.Omega.{arith}
use lib.ListN.{length}
use Rattle.terms.specs.Term.{var, app}
use Rattle.terms.specs.Substitution.{Substitution}
use Rattle.terms.proofs.SubstitutionLaws.{sub_var}
use Rattle.unification.specs.Node.{Node, variable, application, node_at, each, spell, term_of}
use Rattle.unification.specs.Unifier.{Unifies}
use Rattle.unification.specs.Closure.{OneSymbol, Joined, given, one_variable, arguments, same, back, on, Clash, different}
use Rattle.unification.specs.Outcome.{Outcome, unified, clash, occurs}
use Rattle.unification.specs.Computed.Unifying.{outcome}
use Rattle.unification.specs.Code.Given.{WellFormed, Inside}
use Rattle.unification.proofs.ListLaws.{zip_at, zip_left, zip_right, zip_through}
use Rattle.unification.proofs.NodeLaws.{each_long, each_at, term_node}
use Rattle.unification.proofs.JoinedLaws.{inside_none, inside_more, Rules, smallest, Among, joined_inside}
use Rattle.unification.proofs.OutcomeLaws.{outcome_unified, outcome_clash, outcome_occurs}
use Rattle.unification.proofs.PairLaws.{more_clash, more_reaches}

-- Two nodes of one term.
record OneTerm (ns : List Node) (i j : ℕ) : Type 0 where
  first : i < length ns
  second : j < length ns
  equal : term_of ns i ≡ term_of ns j

-- A node is led to from another by nodes that are joined and nodes of one term.
data Chain (ns : List Node) (ps : List (ℕ × ℕ)) : ℕ → ℕ → Type 0 where
  start : {i : ℕ} → i < length ns → Chain ns ps i i
  by_joined : {i j k : ℕ} → Chain ns ps i j → Joined ns ps j k → Chain ns ps i k
  by_term : {i j k : ℕ} → Chain ns ps i j → OneTerm ns j k → Chain ns ps i k

-- chains are put together
chain_on : {ns : List Node} {ps : List (ℕ × ℕ)} {i j k : ℕ} → Chain ns ps i j → Chain ns ps j k → Chain ns ps i k
chain_on c (start p) = c
chain_on c (by_joined d q) = by_joined (chain_on c d) q
chain_on c (by_term d t) = by_term (chain_on c d) t

-- a list's pairs with itself are of one number each
zip_same : (us : List ℕ) (a b : ℕ) → Memᴰ (a, b) (zip us us) → a ≡ b
zip_same us a b m = let r = (zip_at us us a b).0 m in r.3 ∙ sym r.4

module _ (ns : List Node) (w : WellFormed ns) where
  -- a node of a variable's term is a node of the variable
  term_variable : (i j x : ℕ) → OneTerm ns i j → node_at ns i ≡ variable x → node_at ns j ≡ variable x
  unfolding spell
  term_variable i j x t e = pick (node_at ns j) refl
    where
      pick : (n : Node) → node_at ns j ≡ n → node_at ns j ≡ variable x
      pick (variable y) d =
          let s : var x ≡ var y = sym (term_node ns w i t.first ∙ ap (spell (term_of ns)) e) ∙ t.equal ∙ term_node ns w j t.second ∙
          ap (spell (term_of ns)) d in
          let z : y ≡ x = cc in
          d ∙ ap variable z
      pick (application f us) d =
          let s : var x ≡ app f (each (term_of ns) us) = sym (term_node ns w i t.first ∙ ap (spell (term_of ns)) e) ∙ t.equal ∙
          term_node ns w j t.second ∙ ap (spell (term_of ns)) d in
          let z : ◌≡◌ {A = ℕ} 0 1 = cc in
          absurd (omega arith)

  -- a node of an application's term is an application of its symbol to arguments of the same terms
  term_application : (i j f : ℕ) (us : List ℕ) → OneTerm ns i j → node_at ns i ≡ application f us → (vs : List ℕ) ×
      (node_at ns j ≡ application f vs) × (each (term_of ns) us ≡ each (term_of ns) vs)
  unfolding spell
  term_application i j f us t e = pick (node_at ns j) refl
    where
      pick : (n : Node) → node_at ns j ≡ n → (vs : List ℕ) × (node_at ns j ≡ application f vs) × (each (term_of ns) us ≡ each (term_of ns) vs)
      pick (variable y) d =
          let s : app f (each (term_of ns) us) ≡ var y = sym (term_node ns w i t.first ∙ ap (spell (term_of ns)) e) ∙ t.equal ∙
          term_node ns w j t.second ∙ ap (spell (term_of ns)) d in
          let z : ◌≡◌ {A = ℕ} 0 1 = cc in
          absurd (omega arith)
      pick (application g vs) d =
          let s : app f (each (term_of ns) us) ≡ app g (each (term_of ns) vs) = sym (term_node ns w i t.first ∙ ap (spell (term_of ns)) e) ∙
          t.equal ∙ term_node ns w j t.second ∙ ap (spell (term_of ns)) d in
          let z : g ≡ f = cc in
          let y : each (term_of ns) us ≡ each (term_of ns) vs = cc in
          (vs, d ∙ ap (λ (k : ℕ). application k vs) z, y)

  module _ (ps : List (ℕ × ℕ)) (h : Inside ns ps) where
    -- both ends of a chain are nodes
    chain_inside : {i j : ℕ} → Chain ns ps i j → (i < length ns) × (j < length ns)
    chain_inside (start p) = (p, p)
    chain_inside (by_joined c q) = ((chain_inside c).0, (joined_inside ns w ps h q).1)
    chain_inside (by_term c t) = ((chain_inside c).0, t.second)

    -- a chain can be gone back
    chain_back : {i j : ℕ} → Chain ns ps i j → Chain ns ps j i
    chain_back (start p) = start p
    chain_back (by_joined c q) = chain_on (by_joined (start (joined_inside ns w ps h q).1) (back q)) (chain_back c)
    chain_back (by_term c t) =
        chain_on (by_term (start t.second) (record { first = t.second; second = t.first; equal = sym t.equal })) (chain_back c)

    -- Node c is joined with an application of f to as many arguments as us, and to those us are chained.
    record Meets (f : ℕ) (us : List ℕ) (c : ℕ) : Type 0 where
      node : ℕ
      args : List ℕ
      applied : node_at ns node ≡ application f args
      long : length us ≡ length args
      joins : Joined ns ps node c
      chains : (a b : ℕ) → Memᴰ (a, b) (zip us args) → Chain ns ps a b

    module _ (n : Clash ns ps → ⊥) where
      -- joined applications have one symbol
      one_symbol : (i j f g : ℕ) (us vs : List ℕ) → Joined ns ps i j → node_at ns i ≡ application f us → node_at ns j ≡ application g vs →
          OneSymbol f us g vs
      one_symbol i j f g us vs q d e = go (ℕ_discrete f g) (ℕ_discrete (length us) (length vs))
        where
          go : Dec (f ≡ g) → Dec (length us ≡ length vs) → OneSymbol f us g vs
          go (yes x) (yes y) = (x, y)
          go (yes x) (no y) = absurd (n (different q d e (λ o. y o.1)))
          go (no x) y = absurd (n (different q d e (λ o. x o.0)))

      -- a step to a node of the same term
      meets_term : (f : ℕ) (us : List ℕ) (c d : ℕ) → OneTerm ns c d → Meets f us c → Meets f us d
      meets_term f us c d t m = pick (node_at ns c) refl
        where
          pick : (k : Node) → node_at ns c ≡ k → Meets f us d
          pick (variable x) e =
              record {
                node = m.node;
                args = m.args;
                applied = m.applied;
                long = m.long;
                joins = on m.joins (one_variable t.first t.second e (term_variable c d x t e));
                chains = m.chains;
              }
          pick (application g vs) e =
              let o = one_symbol m.node c f g m.args vs m.joins m.applied e in
              let r = term_application c d g vs t e in
              let l = each_long (term_of ns) (term_of ns) vs r.0 r.2 in
              record {
                node = d;
                args = r.0;
                applied = r.1 ∙ ap (λ (k : ℕ). application k r.0) (sym o.0);
                long = m.long ∙ o.1 ∙ l;
                joins = same t.second;
                chains = λ a b z.
                    let x = zip_through us m.args r.0 m.long (o.1 ∙ l) a b z in
                    let y = zip_through m.args vs r.0 o.1 l x.0 b x.2 in
                    let p = w.smaller c g vs t.first e y.0 (zip_right m.args vs x.0 y.0 y.1) in
                    let q = w.smaller d g r.0 t.second r.1 b (zip_right vs r.0 y.0 b y.2) in
                    let u = t.first in
                    let v = t.second in
                    by_term {k = b} (by_joined {k = y.0} (m.chains a x.0 x.1) (arguments m.applied e o m.joins y.1))
                    (record {
                      first = omega (arith, p, u);
                      second = omega (arith, q, v);
                      equal =
                          each_at (term_of ns) (term_of ns) vs r.0 r.2 y.0 b y.2;
                    });
              }

      -- what a chain from an application leads to is so joined
      meets : {i c : ℕ} → Chain ns ps i c → (f : ℕ) (us : List ℕ) → node_at ns i ≡ application f us → Meets f us c
      meets (start {i} p) f us e =
          record {
            node = i;
            args = us;
            applied = e;
            long = refl;
            joins = same p;
            chains = λ a b m.
                let s = zip_same us a b m in
                let q = w.smaller i f us p e a (zip_left us us a b m) in
                rw (← s) (start {i = a} (omega (arith, p, q)));
          }
      meets (by_joined c q) f us e =
          let m = meets c f us e in
          record {
            node = m.node;
            args = m.args;
            applied = m.applied;
            long = m.long;
            joins = on m.joins q;
            chains = m.chains;
          }
      meets (by_term {i} {j} {k} c t) f us e = meets_term f us j k t (meets c f us e)

      module _ (qs : List (ℕ × ℕ)) (each_pair : (a b : ℕ) → Memᴰ (a, b) qs → Memᴰ (a, b) ps ⊎ OneTerm ns a b) where
        -- one of the pairs
        chain_given : (a b : ℕ) → Memᴰ (a, b) ps ⊎ OneTerm ns a b → Chain ns ps a b
        chain_given a b (inl m) = by_joined (start (h a b m).0) (given m)
        chain_given a b (inr t) = by_term (start t.first) t

        -- chains have the rules of the closure
        chain_rules : Rules ns qs (Chain ns ps)
        chain_rules =
            record {
              has_given = λ a b m. chain_given a b (each_pair a b m);
              has_variable = λ i j x p q d e. by_joined (start p) (one_variable p q d e);
              has_arguments = λ i j f g us vs d e o c a b z.
                  let m = meets c f us d in
                  let l = m.long in
                  let k : length m.args ≡ length vs = sym l ∙ o.1 in
                  let x = zip_through us m.args vs l k a b z in
                  by_joined (m.chains a x.0 x.1) (arguments m.applied e (o.0, k) m.joins x.2);
              has_same = λ i p. start p;
              has_back = λ i j c. chain_back c;
              has_on = λ i j k c d. chain_on c d;
            }

        -- so the longer list has no clash
        none_together : Clash ns qs → ⊥
        none_together (different {i} {j} {f} {g} {us} {vs} q d e x) =
            let m = meets (smallest (Chain ns ps) chain_rules q) f us d in
            n (different m.joins m.applied e (λ o. x (o.0, m.long ∙ o.1)))

-- pairs that every substitution unifies do not change what a pair comes to
pub outcome_together : (ns : List Node) → WellFormed ns → (a b : ℕ) → a < length ns → b < length ns → (qs : List (ℕ × ℕ)) → Inside ns qs →
    ((σ : Substitution) → Unifies ns qs σ) → outcome ns ((a, b) ∷ qs) ≡ outcome ns ((a, b) ∷ [])
outcome_together ns w a b p q qs h u = pick (outcome ns ((a, b) ∷ [])) refl
  where
    one_inside : Inside ns ((a, b) ∷ [])
    one_inside = inside_more ns a b [] p q (inside_none ns)

    all_inside : Inside ns ((a, b) ∷ qs)
    all_inside = inside_more ns a b qs p q h

    among : Among ((a, b) ∷ []) ((a, b) ∷ qs)
    among x (Memᴰ.head e) = Memᴰ.head e
    among x (Memᴰ.tail m) = absurd (Memᴰ.not-nil m)

    each_pair : (x y : ℕ) → Memᴰ {A = ℕ × ℕ} (x, y) ((a, b) ∷ qs) → Memᴰ {A = ℕ × ℕ} (x, y) ((a, b) ∷ []) ⊎ OneTerm ns x y
    each_pair x y (Memᴰ.head e) = inl (Memᴰ.head e)
    each_pair x y (Memᴰ.tail m) =
        inr (record { first = (h x y m).0; second = (h x y m).1; equal = sym (sub_var (term_of ns x)) ∙ u var x y m ∙ sub_var (term_of ns y) })

    all_unified : (σ : Substitution) → Unifies ns ((a, b) ∷ []) σ → Unifies ns ((a, b) ∷ qs) σ
    all_unified σ v x y (Memᴰ.head e) = v x y (Memᴰ.head e)
    all_unified σ v x y (Memᴰ.tail m) = u σ x y m

    pick : (o : Outcome) → outcome ns ((a, b) ∷ []) ≡ o → outcome ns ((a, b) ∷ qs) ≡ o
    pick unified e =
        let s = (outcome_unified ns w ((a, b) ∷ []) one_inside).0 e in
        (outcome_unified ns w ((a, b) ∷ qs) all_inside).1 (s.0, all_unified s.0 s.1)
    pick clash e =
        (outcome_clash ns w ((a, b) ∷ qs) all_inside).1
        (more_clash ns ((a, b) ∷ []) ((a, b) ∷ qs) among ((outcome_clash ns w ((a, b) ∷ []) one_inside).0 e))
    pick occurs e =
        let o = (outcome_occurs ns w ((a, b) ∷ []) one_inside).0 e in
        (outcome_occurs ns w ((a, b) ∷ qs) all_inside).1
        (record {
          no_clash = none_together ns w ((a, b) ∷ []) one_inside o.no_clash ((a, b) ∷ qs) each_pair;
          class = o.class;
          itself = more_reaches ((a, b) ∷ qs) among o.itself;
        })
