-- The words by heads alone are the binding words. A node with the value of a variable that is a head has this head; closed applications
-- of one value have one head, not after them; and a constant's value is had by constants alone. Assumes nothing.
use Prim.Native.Nat.{ℕ, zero, suc, ◌+◌, ◌-◌, ◌<◌, ◌≤◌}
use mathlib.Core.Bool.{Bool, true, false, ◌||◌}
use mathlib.Core.List.{List, ◌++◌, map, Memᴰ, map-map}
use mathlib.Core.Path.{◌≡◌, refl, sym, ap, ◌∙◌}
use native.Mathlib.Decide.{ℕ_discrete}
use native.Mathlib.Omega.{arith}
use borrow.Author.Tests.{eq-eqb, ne_eqb, eqb-true}
use lib.Dec.{eqb}
use lib.ListN.{length, set, drop, length-set, get_or}
use Rattle.std.proofs.Common.{reverse}
use Rattle.std.proofs.lemmas.Grind.{get_or_default_zero}
use Rattle.std.proofs.lemmas.List.{get_or-reverse, length-reverse}
use Rattle.table.specs.Limits.{max_nodes}
use Rattle.table.specs.Layout.{word, kind_of, name_of, count_of, node_count}
use Rattle.terms.specs.Term.{var, app}
use Rattle.terms.specs.Substitution.{Substitution}
use Rattle.unification.specs.Node.{Node, variable, application, node_at, each, spell, Present, nodes_from}
use Rattle.unification.specs.Unifier.{value}
use Rattle.unification.specs.Words.{Least, IsWord, Matched}
use Rattle.unification.specs.Computed.Classes.{class_of}
use Rattle.unification.specs.Computed.Variables.{variables_of}
use Rattle.unification.specs.Computed.Solution.{node_of, resolved, solution}
use Rattle.unification.specs.Computed.Unifying.{words_of}
use Rattle.unification.specs.Code.Given.{WellFormed}
use Rattle.unification.specs.Code.Heads.{Partition}
use Rattle.unification.specs.Code.Sections.{Sections}
use Rattle.unification.specs.Code.Solved.{Solved}
use Rattle.unification.proofs.FirstLaws.{node_of_lem}
use Rattle.unification.proofs.MatchedLaws.{matched_by}
use Rattle.unification.proofs.NodeLaws.{each_same, each_long, value_variable, value_application}
use Rattle.unification.proofs.OutcomeLaws.{words_decided}
use Rattle.unification.proofs.SectionLaws.{run, run_long, counted, is_node, application_from, from_variable, from_application, argument_place, sections_well_formed}
use Rattle.unification.proofs.SolvedLaws.{resolved_node, value_resolved, solution_most_general}
use Rattle.unification.proofs.VariableLaws.{variables_rise, variables_present}
use Rattle.nodes.specs.Code.Formed.{Formed, Stands}
use Rattle.nodes.specs.Code.Open.{IsClosed, Counts, OpenListed}
use Rattle.values.specs.Code.Begins.{Leaves}
use Rattle.values.specs.Code.Kept.{WrittenAt}
use Rattle.values.specs.Code.Present.{least_nodes}
use Rattle.values.proofs.KeptLaws.{kept_set}
use Rattle.values.proofs.LeastLaws.{rising_places, least_long}
use Rattle.classes.proofs.OrderedLaws.{rank, ordered_enough, ordered_solved}
use Rattle.binding.specs.Code.Binding.{AllBelow, AreNodes, head_at, AreBare, HeadsFrom, plain_word, plain_at, PlainFound}
use Rattle.binding.proofs.BindingLaws.{list_long, list_at, place_of, at}

-- what stands at a place of a list is below what all of it is below
pub item_below : {n : ℕ} {xs : List ℕ} → AllBelow n xs → (k x : ℕ) → k < length xs → x ≡ get_or xs k x → x < n
item_below {xs = xs} a k x h e =
    let b = a.below k h in
    omega (arith, b, e, get_or_default_zero xs k x h)

-- heads are nodes
pub heads_below : (n m : ℕ) (heads : List ℕ) → n ≤ m → Partition n heads → AllBelow m heads
heads_below n m heads l q =
    record {
      below = λ k h.
          let z = q.size in
          let b = q.below k (omega (arith, z, h)) in
          omega (arith, b, l);
    }

-- and nodes have one
pub nodes_headed : (nodes heads list : List ℕ) → Partition (node_count nodes) heads → AreNodes nodes list → AllBelow (length heads) list
nodes_headed nodes heads list q a =
    record {
      below = λ k h.
          let z = q.size in
          let b = a.node k h in
          omega (arith, z, b);
    }

-- one place more, from the last down: the n-th of the list, backwards
pub heads_down : (heads list by : List ℕ) (n m z h : ℕ) → n < length (reverse list) → m ≡ n + 1 → z ≡ get_or (reverse list) n z → h ≡ class_of heads z →
    h < max_nodes → HeadsFrom heads list by (length list - n) → HeadsFrom heads list (set by h z) (length list - m)
heads_down heads list by n m z h t b d e l r =
    let a : n < length list = omega (arith, t, length-reverse list) in
    let k : length list - n ≡ suc (length list - m) = omega arith in
    let w : length list - 1 - n ≡ length list - m = omega arith in
    let i : length list - m < length list = omega arith in
    let v : z ≡ word list (length list - m) =
    d ∙ get_or-reverse list n z a ∙ ap (λ j. get_or list j z) w ∙ get_or_default_zero list (length list - m) z i in
    let y : h ≡ head_at heads list (length list - m) = e ∙ ap (class_of heads) v in
    let c = r.long in
    record {
      long = length-set by h z ∙ r.long;
      kept = rw (y, v)
          (kept_set (λ j. j < length list) (head_at heads list) (word list) (length list) (length list - m) by (omega arith) (omega arith)
          (omega (arith, y, l, c)) (rw k at r.kept));
    }

-- the word of a node whose head is a variable
pub word_noted : (nodes heads by : List ℕ) (u v h r : ℕ) → v ≡ u → h ≡ class_of heads v → eqb (kind_of nodes h) 0 ≡ true → r ≡ word by h →
    r ≡ plain_word nodes heads by u
unfolding plain_word
word_noted nodes heads by u v h r d e z q =
    let b : h ≡ class_of heads u = e ∙ ap (class_of heads) d in
    let y : eqb (kind_of nodes (class_of heads u)) 0 ≡ true = rw b at z in
    rw y (q ∙ ap (word by) b)

-- and where it is an application
pub word_head : (nodes heads by : List ℕ) (u v h : ℕ) → v ≡ u → h ≡ class_of heads v → eqb (kind_of nodes h) 0 ≡ false →
    h ≡ plain_word nodes heads by u
unfolding plain_word
word_head nodes heads by u v h d e z =
    let b : h ≡ class_of heads u = e ∙ ap (class_of heads) d in
    let y : eqb (kind_of nodes (class_of heads u)) 0 ≡ false = rw b at z in
    rw y b

-- where there is no open application, no argument of a node is looked at
opens_none : (nodes counts opens : List ℕ) → OpenListed nodes counts opens → length opens ≡ 0 → (i : ℕ) → i < node_count nodes → word counts i ≡ 0
opens_none nodes counts opens o z i h = go (ℕ_discrete (word counts i) 0)
  where
    go : Dec (word counts i ≡ 0) → word counts i ≡ 0
    go (yes e) = e
    go (no n) =
        let r = o.whole i h (omega (arith, n)) in
        let l = r.1 in
        absurd (omega (arith, l, z))

-- No argument of a node is looked at, or the heads of a list of nodes have none.
pub data Plain (nodes counts heads list : List ℕ) : Type 0 where
  none_open : ((i : ℕ) → i < node_count nodes → word counts i ≡ 0) → Plain nodes counts heads list
  all_bare : AreBare nodes heads list (length list) → Plain nodes counts heads list

-- what is tested for it: that there is no open application, or that the heads have none
pub plain_test : (nodes counts heads list opens : List ℕ) (r : Bool) → OpenListed nodes counts opens →
    (r ≡ true → AreBare nodes heads list (length list)) → (eqb (length opens) 0 || r) ≡ true → Plain nodes counts heads list
plain_test nodes counts heads list opens r o b e = pick (eqb (length opens) 0) refl
  where
    pick : (x : Bool) → eqb (length opens) 0 ≡ x → Plain nodes counts heads list
    pick true z = none_open (opens_none nodes counts opens o (eqb-true (length opens) 0 z))
    pick false z = all_bare (b (rw z at e))

module _ (nodes arguments : List ℕ) (s : Sections nodes arguments) (counts heads : List ℕ) (k : Counts nodes arguments counts (node_count nodes))
    (f : Formed nodes arguments counts heads) (ps : List (ℕ × ℕ)) (t : Stands nodes arguments heads ps) where
  -- The nodes of the two sections.
  abbrev ns : List Node
  ns = nodes_from nodes arguments

  -- arguments come before their nodes
  w : WellFormed ns
  w = sections_well_formed nodes arguments s

  -- So many steps spell the classes out.
  abbrev steps : ℕ
  steps = suc (node_count nodes + suc (length f.order))

  -- the classes are a solved form
  solved : Solved ns ps (class_of heads) (rank nodes counts f.order)
  solved = ordered_solved nodes arguments s counts k heads f.partition f.closed ps t.inside t.closure f.order f.ordered

  -- with enough steps
  enough : (i : ℕ) → i < length ns → rank nodes counts f.order (class_of heads i) < steps
  enough = ordered_enough nodes arguments s counts k heads f.partition f.closed ps t.inside t.closure f.order f.ordered

  -- Their unifier.
  abbrev σ : Substitution
  σ = solution steps ns (class_of heads)

  -- a head is a node
  head_inside : (i : ℕ) → i < length ns → class_of heads i < length ns
  head_inside i p = is_node nodes arguments (class_of heads i) (f.partition.below i (counted nodes arguments i p))

  -- the value of a node is spelt by its head
  by_head : (i : ℕ) → i < length ns → (n : Node) → node_at ns (class_of heads i) ≡ n → value ns σ i ≡ spell (resolved steps ns (class_of heads)) n
  by_head i p n d =
      value_resolved ns w ps t.inside (class_of heads) (rank nodes counts f.order) solved steps enough i p
      ∙ resolved_node ns w ps t.inside (class_of heads) (rank nodes counts f.order) solved steps enough i p
      ∙ ap (spell (resolved steps ns (class_of heads))) d

  -- nodes with one head have one value
  one_value : (i j : ℕ) → i < length ns → j < length ns → class_of heads i ≡ class_of heads j → value ns σ i ≡ value ns σ j
  one_value i j p q e =
      by_head i p (node_at ns (class_of heads j)) (ap (node_at ns) e) ∙ sym (by_head j q (node_at ns (class_of heads j)) refl)

  -- a node with the value of one whose head is a variable has its head
  free_head : (i j x : ℕ) → i < length ns → j < length ns → node_at ns (class_of heads i) ≡ variable x → value ns σ j ≡ value ns σ i →
      class_of heads j ≡ class_of heads i
  unfolding spell
  free_head i j x p q d e = go (node_at ns (class_of heads j)) refl
    where
      go : (n : Node) → node_at ns (class_of heads j) ≡ n → class_of heads j ≡ class_of heads i
      go (variable y) b =
          let v : var y ≡ var x = sym (by_head j q (variable y) b) ∙ e ∙ by_head i p (variable x) d in
          let z : y ≡ x = cc in
          sym (f.partition.own j (counted nodes arguments j q))
          ∙ t.closure.one_variable (class_of heads j) (class_of heads i) x (head_inside j q) (head_inside i p) (b ∙ ap variable z) d
          ∙ f.partition.own i (counted nodes arguments i p)
      go (application g us) b =
          let v : app g (each (resolved steps ns (class_of heads)) us) ≡ var x = sym (by_head j q (application g us) b) ∙ e
          ∙ by_head i p (variable x) d in
          let z : ◌≡◌ {A = ℕ} 0 1 = cc in
          absurd (omega arith)

  -- the value of an application
  applied_value : (τ : Substitution) (i : ℕ) → i < node_count nodes → (kind_of nodes i ≡ 0 → ⊥) →
      value ns τ i ≡ app (name_of nodes i) (each (value ns τ) (run nodes arguments i))
  applied_value τ i h a =
      value_application ns w τ i (name_of nodes i) (run nodes arguments i) (is_node nodes arguments i h) (application_from nodes arguments i h a)

  -- the value of a closed application is its term
  closed_value : (n i : ℕ) → i < n → IsClosed nodes counts i → value ns σ i ≡ value ns var i
  closed_value zero i b m = absurd (omega arith)
  closed_value (suc n) i b m =
      applied_value σ i m.node m.applied
      ∙ ap (app (name_of nodes i)) (each_same (value ns σ) (value ns var) (run nodes arguments i) (argument (λ a l q. closed_value n a l q)))
      ∙ sym (applied_value var i m.node m.applied)
    where
      argument : ((a : ℕ) → a < n → IsClosed nodes counts a → value ns σ a ≡ value ns var a) → (a : ℕ) →
          Memᴰ a (run nodes arguments i) → value ns σ a ≡ value ns var a
      argument below a q =
          let r = argument_place nodes arguments s i m.node (name_of nodes i) (run nodes arguments i)
          (application_from nodes arguments i m.node m.applied) a q in
          let l = s.smaller i r.0 m.node r.1 in
          let e = r.2 in
          below a (omega (arith, l, e, b)) (rw e (k.below i m.node m r.0 r.1))

  -- closed applications of one value have one head
  closed_head : (i j : ℕ) → IsClosed nodes counts i → IsClosed nodes counts j → value ns σ i ≡ value ns σ j → class_of heads i ≡ class_of heads j
  closed_head i j p q e =
      f.closed.shared i j p q (sym (closed_value (suc i) i (omega arith) p) ∙ e ∙ closed_value (suc j) j (omega arith) q)

  -- an application without arguments is closed
  bare_closed : (i : ℕ) → i < node_count nodes → (kind_of nodes i ≡ 0 → ⊥) → count_of nodes i ≡ 0 → IsClosed nodes counts i
  bare_closed i h a z = record { node = h; applied = a; none = k.above i h (λ j q. absurd (omega (arith, q, z))) }

  -- applications of one value have as many arguments
  as_many : (i j : ℕ) → i < node_count nodes → j < node_count nodes → (kind_of nodes i ≡ 0 → ⊥) → (kind_of nodes j ≡ 0 → ⊥) →
      value ns σ i ≡ value ns σ j → count_of nodes i ≡ count_of nodes j
  as_many i j p q a b e =
      let d : app (name_of nodes i) (each (value ns σ) (run nodes arguments i)) ≡ app (name_of nodes j) (each (value ns σ) (run nodes arguments j)) =
      sym (applied_value σ i p a) ∙ e ∙ applied_value σ j q b in
      let c : each (value ns σ) (run nodes arguments i) ≡ each (value ns σ) (run nodes arguments j) = cc in
      sym (run_long nodes arguments s i p)
      ∙ each_long (value ns σ) (value ns σ) (run nodes arguments i) (run nodes arguments j) c
      ∙ run_long nodes arguments s j q

  -- Only closed applications have the value of node h.
  abbrev IsPlain : ℕ → Type 0
  IsPlain h = (j : ℕ) → j < node_count nodes → (kind_of nodes j ≡ 0 → ⊥) → value ns σ j ≡ value ns σ h → IsClosed nodes counts j

  -- a variable whose head is such an application has it for its word
  bound_word : (x i g : ℕ) (us : List ℕ) → i < length ns → node_at ns i ≡ variable x → node_at ns (class_of heads i) ≡ application g us →
      IsPlain (class_of heads i) → IsWord ns σ x (class_of heads i)
  unfolding spell
  bound_word x i g us p v d only =
      IsWord.bound {f = g} {w = h} {ts = each (resolved steps ns (class_of heads)) us} (sym at_node ∙ by_head i p (application g us) d)
      (record {
        holds = (g, us, head_inside i p, d, same ∙ at_node);
        least = λ j b.
            let c = closed_at j b.2 b.0 b.1 b.3 (b.4 ∙ sym at_node ∙ sym same) in
            let e : class_of heads j ≡ h = closed_head j h c here (b.4 ∙ sym at_node ∙ sym same) ∙ own in
            let l = f.closed.least j c in
            omega (arith, e, l);
      })
    where
      h : ℕ
      h = class_of heads i

      n : i < node_count nodes
      n = counted nodes arguments i p

      own : class_of heads h ≡ h
      own = f.partition.own i n

      at_node : value ns σ i ≡ σ x
      at_node = value_variable ns w σ i x p v

      same : value ns σ h ≡ value ns σ i
      same = one_value h i (head_inside i p) p own

      closed_at : (j : ℕ) → j < length ns → (y : ℕ) (vs : List ℕ) → node_at ns j ≡ application y vs → value ns σ j ≡ value ns σ h →
          IsClosed nodes counts j
      closed_at j q y vs a e =
          let m = counted nodes arguments j q in
          only j m (from_application nodes arguments j m y vs a).0 e

      here : IsClosed nodes counts h
      here = closed_at h (head_inside i p) g us d refl

  module _ (list : List ℕ) (e : list ≡ least_nodes (nodes_from nodes arguments)) (by : List ℕ) (r : HeadsFrom heads list by 0) where
    -- a variable whose head is one
    module _ (x z : ℕ) (p : Present ns x) (d : node_at ns (class_of heads (node_of ns x)) ≡ variable z) where
      -- the node of the variable
      own : Least (λ j. (j < length ns) × (node_at ns j ≡ variable x)) (node_of ns x)
      own = node_of_lem ns x p

      -- the value of a variable is that of its node
      at_least : (y : ℕ) → Present ns y → value ns σ (node_of ns y) ≡ σ y
      at_least y q = let l = node_of_lem ns y q in value_variable ns w σ (node_of ns y) y l.holds.0 l.holds.1

      -- a variable with its value has a place with its head
      valued_place : (y : ℕ) → Present ns y → σ y ≡ σ x →
          (j : ℕ) × (j < length list) × (y ≡ word (variables_of ns) j) × (head_at heads list j ≡ class_of heads (node_of ns x))
      valued_place y q v =
          let a = place_of nodes arguments list e y q in
          let l = node_of_lem ns y q in (
            a.0,
            a.1,
            a.2,
            ap (class_of heads) a.3 ∙ free_head (node_of ns x) (node_of ns y) z own.holds.0 l.holds.0 d
                (at_least y q ∙ v ∙ sym (at_least x p)),
          )

      -- so the variable at the least such place is the lowest with its value
      lowest : (j : ℕ) → Least (WrittenAt (λ i. i < length list) (head_at heads list) 0 (length list) (class_of heads (node_of ns x))) j →
          word by (class_of heads (node_of ns x)) ≡ word list j → IsWord ns σ x (word by (class_of heads (node_of ns x)))
      unfolding spell
      lowest j b q =
          let h : j < length list = b.holds.1 in
          let y : ℕ = word (variables_of ns) j in
          let g : word list j ≡ node_of ns y = list_at nodes arguments list e j (rw (list_long nodes arguments list e) at h) in
          let c : Present ns y = at nodes arguments list e j h in
          let l = node_of_lem ns y c in
          rw (q ∙ g)
          (IsWord.free {z = z} {y = y} {w = node_of ns y} (sym (at_least x p) ∙ by_head (node_of ns x) own.holds.0 (variable z) d)
          (record {
            holds = (
              c,
              sym (at_least y c) ∙ one_value (node_of ns y) (node_of ns x) l.holds.0 own.holds.0
                  (ap (class_of heads) (sym g) ∙ b.holds.3) ∙ at_least x p,
            );
            least = λ u m. below u (valued_place u m.0 m.1);
          })
          l)
        where
          below : (u : ℕ) →
              (i : ℕ) × (i < length list) × (u ≡ word (variables_of ns) i) × (head_at heads list i ≡ class_of heads (node_of ns x)) →
              word (variables_of ns) j ≤ u
          below u (i, h, a, m) = pick (b.least i (omega arith, h, h, m)) (ℕ_discrete j i)
            where
              pick : j ≤ i → Dec (j ≡ i) → word (variables_of ns) j ≤ u
              pick l (yes y) = let c = ap (word (variables_of ns)) y in omega (arith, c, a)
              pick l (no y) =
                  let c = rising_places (variables_of ns) (variables_rise ns) j i (omega (arith, l, y)) (rw (list_long nodes arguments list e) at h)
                  in
                  omega (arith, c, a)

      -- which is its word
      free_word : IsWord ns σ x (word by (class_of heads (node_of ns x)))
      free_word =
          let a = place_of nodes arguments list e x p in
          let n : head_at heads list a.0 ≡ class_of heads (node_of ns x) = ap (class_of heads) a.3 in
          let b = rw n at (r.kept.kept a.0 (omega arith) a.1 a.1) in
          lowest b.0 b.1 b.2

    -- Only closed applications have the value of a head that is an application.
    module _ (plain : Plain nodes counts heads list) where
      plain_at_lem : (x : ℕ) → Present ns x → (kind_of nodes (class_of heads (node_of ns x)) ≡ 0 → ⊥) → IsPlain (class_of heads (node_of ns x))
      plain_at_lem x p a j h b v = go plain
        where
          go : Plain nodes counts heads list → IsClosed nodes counts j
          go (none_open z) = record { node = h; applied = b; none = z j h }
          go (all_bare m) =
              let y = place_of nodes arguments list e x p in
              let l = node_of_lem ns x p in
              let n : count_of nodes (class_of heads (node_of ns x)) ≡ 0 = ap (count_of nodes) (ap (class_of heads) (sym y.3))
              ∙ m.bare y.0 y.1 in
              bare_closed j h b (as_many j (class_of heads (node_of ns x)) h
              (f.partition.below (node_of ns x) (counted nodes arguments (node_of ns x) l.holds.0)) b a v ∙ n)

      -- the word of each variable present
      plain_present : (x : ℕ) → Memᴰ x (variables_of ns) → IsWord ns σ x (plain_word nodes heads by (node_of ns x))
      unfolding plain_word
      plain_present x m =
          let p = variables_present ns x m in
          pick p (node_of_lem ns x p) (node_at ns (class_of heads (node_of ns x))) refl
        where
          pick : Present ns x → Least (λ j. (j < length ns) × (node_at ns j ≡ variable x)) (node_of ns x) → (n : Node) →
              node_at ns (class_of heads (node_of ns x)) ≡ n → IsWord ns σ x (plain_word nodes heads by (node_of ns x))
          pick p l (variable z) d =
              let b = counted nodes arguments (class_of heads (node_of ns x)) (head_inside (node_of ns x) l.holds.0) in
              let a = (from_variable nodes arguments (class_of heads (node_of ns x)) b z d).0 in
              rw (eq-eqb (kind_of nodes (class_of heads (node_of ns x))) 0 a) (free_word x z p d)
          pick p l (application g us) d =
              let b = counted nodes arguments (class_of heads (node_of ns x)) (head_inside (node_of ns x) l.holds.0) in
              let a = (from_application nodes arguments (class_of heads (node_of ns x)) b g us d).0 in
              rw (ne_eqb (kind_of nodes (class_of heads (node_of ns x))) 0 a)
              (bound_word x (node_of ns x) g us l.holds.0 l.holds.1 d (plain_at_lem x p a))

      -- so all that is read are the words
      plain_read : Matched (IsWord ns σ) (variables_of ns) (plain_at nodes heads by list)
      unfolding plain_at least_nodes
      plain_read =
          rw (ap (map (plain_word nodes heads by)) e ∙ map-map (plain_word nodes heads by) (node_of ns) (variables_of ns))
          (matched_by (λ x. plain_word nodes heads by (node_of ns x)) (variables_of ns) plain_present)

      plain_words : words_of ns ps ≡ plain_at nodes heads by list
      plain_words =
          words_decided ns w ps t.inside σ
          (solution_most_general ns w ps t.inside (class_of heads) (rank nodes counts f.order) solved steps enough) (plain_at nodes heads by list)
          plain_read

-- the words found by heads alone are the binding words
pub plain_leaves : (nodes arguments counts heads list out out' : List ℕ) → Sections nodes arguments →
    Counts nodes arguments counts (node_count nodes) → Formed nodes arguments counts heads → list ≡ least_nodes (nodes_from nodes arguments) →
    Plain nodes counts heads list → PlainFound nodes heads list out out' → Leaves nodes arguments heads out out'
plain_leaves nodes arguments counts heads list out out' s k f e plain g ps t =
    g.words_read
    ∙ ap (λ (n : List ℕ). n ++ drop (length list) out) (sym (plain_words nodes arguments s counts heads k f ps t list e g.by g.noted plain))
    ∙ ap (λ (n : ℕ). words_of (nodes_from nodes arguments) ps ++ drop n out) (ap length e ∙ least_long (nodes_from nodes arguments))
