-- Heads that are the least nodes with their nodes' terms, node by node. Applications whose arguments have the same heads have one term, and
-- the other way round, so that the head of an application is found in the table of those that are their own heads. Assumes nothing.
use Prim.Native.Nat.{ℕ, ◌+◌, ◌<◌, ◌≤◌}
use mathlib.Core.List.{List}
use mathlib.Core.Path.{◌≡◌, refl, sym, ap, ◌∙◌}
use native.Mathlib.Decide.{dec_lt}
use native.Mathlib.Omega.{arith}
use borrow.Author.Count.{below_more}
use lib.ListN.{length, set, length-set, get_or-eq_default}
use lib.Seq.{get_or-set_same, get_or-set_other}
use Rattle.table.specs.Limits.{max_nodes}
use Rattle.table.specs.Layout.{word, kind_of, name_of, count_of, node_count, argument_of}
use Rattle.terms.specs.Term.{var, app}
use Rattle.unification.specs.Node.{Node, nodes_from, each, spell, term_of}
use Rattle.unification.specs.Code.Sections.{Sections}
use Rattle.unification.proofs.NodeLaws.{each_long, each_at, each_equal, term_node}
use Rattle.unification.proofs.SectionLaws.{run, is_node, variable_from, application_from, run_long, pair_place, sections_well_formed}
use Rattle.nodes.specs.Code.Named.{value_name, Alike}
use Rattle.values.specs.declared.applications.Applications.{Applications}
use Rattle.values.specs.Code.Applications.{keys, Sizes, with_place, OnWay}
use Rattle.values.specs.Code.Naming.{key_of}
use Rattle.values.specs.Code.Start.{LeastOfTerm, HeadsBefore, OwnHead, Sharing}
use Rattle.values.proofs.AlikeLaws.{key_same, key_alike}
use Rattle.values.proofs.ChainLaws.{chained_skip, chained_add}

-- the least node with a term is no greater than any with it
pub least_low : (nodes arguments : List ℕ) (i g k : ℕ) → LeastOfTerm nodes arguments i g →
    term_of (nodes_from nodes arguments) k ≡ term_of (nodes_from nodes arguments) i → g ≤ k
least_low nodes arguments i g k l e = go (dec_lt k i)
  where
    go : Dec (k < i) → g ≤ k
    go (yes h) = l.least k h e
    go (no n) = let a = l.low in omega (arith, a, n)

-- so nodes of one term have one
pub least_one : (nodes arguments : List ℕ) (i j g h : ℕ) → term_of (nodes_from nodes arguments) i ≡ term_of (nodes_from nodes arguments) j →
    LeastOfTerm nodes arguments i g → LeastOfTerm nodes arguments j h → g ≡ h
least_one nodes arguments i j g h e l m =
    let a = least_low nodes arguments i g h l (m.same ∙ sym e) in
    let b = least_low nodes arguments j h g m (l.same ∙ e) in
    omega (arith, a, b)

-- one node more has its head
pub heads_next : (nodes arguments heads : List ℕ) (i h : ℕ) → i < node_count nodes → HeadsBefore nodes arguments heads i →
    LeastOfTerm nodes arguments i h → HeadsBefore nodes arguments (set heads i h) (i + 1)
heads_next nodes arguments heads i h l b m =
    let z = b.size in
    record {
      sections = b.sections;
      size = length-set heads i h ∙ z;
      head =
          below_more (λ k. LeastOfTerm nodes arguments k (word (set heads i h) k)) i
          (λ k d. rw (get_or-set_other heads i k h 0 (λ e. omega (arith, d, e))) (b.head k d))
          (rw (get_or-set_same heads i h 0 (omega (arith, l, z))) m);
    }

-- Heads of the nodes before node i.
module _ (nodes arguments heads : List ℕ) (i : ℕ) (b : HeadsBefore nodes arguments heads i) where
  -- a head is not after its node
  pub heads_low : (a : ℕ) → a < i → word heads a ≤ a
  heads_low a l = (b.head a l).low

  -- it has its term
  pub heads_term : (a : ℕ) → a < i → term_of (nodes_from nodes arguments) (word heads a) ≡ term_of (nodes_from nodes arguments) a
  heads_term a l = (b.head a l).same

  -- nodes of one term have one head
  pub heads_one : (j k : ℕ) → j < i → k < i → term_of (nodes_from nodes arguments) j ≡ term_of (nodes_from nodes arguments) k →
      word heads j ≡ word heads k
  heads_one j k h l e = least_one nodes arguments j k (word heads j) (word heads k) e (b.head j h) (b.head k l)

  -- a head is its own
  pub heads_own : (a : ℕ) → a < i → word heads (word heads a) ≡ word heads a
  heads_own a l =
      let d = heads_low a l in
      heads_one (word heads a) a (omega (arith, d, l)) l (heads_term a l)

  -- so the name of an argument is its head
  pub argument_head : (g j a : ℕ) → a ≡ argument_of nodes arguments g j → a < i →
      word heads a ≡ value_name heads heads (argument_of nodes arguments g j)
  argument_head g j a e l = sym (heads_own a l) ∙ ap (λ (x : ℕ). word heads (word heads x)) e

  -- and nodes of one head have one term
  pub heads_same : (j k : ℕ) → j < i → k < i → word heads j ≡ word heads k →
      term_of (nodes_from nodes arguments) j ≡ term_of (nodes_from nodes arguments) k
  heads_same j k h l e = sym (heads_term j h) ∙ ap (term_of (nodes_from nodes arguments)) e ∙ heads_term k l

-- an argument is smaller than its node, and past the last node there is none
argument_low : (nodes arguments : List ℕ) → Sections nodes arguments → (q j : ℕ) → j < count_of nodes q → argument_of nodes arguments q j < q
argument_low nodes arguments s q j h = go (dec_lt q (node_count nodes))
  where
    go : Dec (q < node_count nodes) → argument_of nodes arguments q j < q
    go (yes l) = s.smaller q j l h
    go (no n) =
        let e : count_of nodes q ≡ 0 = get_or-eq_default nodes 0 (omega (arith, n)) in
        absurd (omega (arith, h, e))

-- Heads by which those of the nodes before node i are the same.
module _ (nodes arguments heads heads' : List ℕ) (i : ℕ) (b : HeadsBefore nodes arguments heads i)
    (same : (k : ℕ) → k < i → word heads' k ≡ word heads k) where
  -- keys are the same
  pub sharing_key : (q : ℕ) → q < i + 1 → key_of nodes arguments heads' heads' q ≡ key_of nodes arguments heads heads q
  sharing_key q l =
      key_same nodes arguments heads heads heads' heads' q
      (λ j h.
      let a = argument_low nodes arguments b.sections q j h in
      let k : argument_of nodes arguments q j < i = omega (arith, a, l) in
      let d = heads_low nodes arguments heads i b (argument_of nodes arguments q j) k in
      ap (word heads') (same (argument_of nodes arguments q j) k) ∙ same (word heads (argument_of nodes arguments q j)) (omega (arith, d, k)))

  own_kept : (q : ℕ) → q < i → OwnHead nodes heads q → OwnHead nodes heads' q
  own_kept q l o = record { applied = o.applied; itself = same q l ∙ o.itself }

  own_was : (q : ℕ) → q < i → OwnHead nodes heads' q → OwnHead nodes heads q
  own_was q l o = record { applied = o.applied; itself = sym (same q l) ∙ o.itself }

  module _ (t : Applications) (s : Sharing nodes arguments heads t i) (after : HeadsBefore nodes arguments heads' (i + 1)) where
    -- node i is not a head of the table
    sharing_stays : (OwnHead nodes heads' i → ⊥) → Sharing nodes arguments heads' t (i + 1)
    sharing_stays n =
        record {
          before = after;
          chained =
              chained_skip (OwnHead nodes heads) (OwnHead nodes heads') (key_of nodes arguments heads heads) (key_of nodes arguments heads' heads')
              t i own_kept own_was (λ q l. sharing_key q (omega arith)) s.chained n;
        }

    -- it is one, whose key is k
    sharing_adds : (k : ℕ) → OwnHead nodes heads' i → k ≡ key_of nodes arguments heads heads i → k < keys → i < node_count nodes → Sizes t →
        Sharing nodes arguments heads' (with_place t i k) (i + 1)
    sharing_adds k o e l h z =
        let y = b.sections.limit in
        record {
          before = after;
          chained =
              chained_add (OwnHead nodes heads) (OwnHead nodes heads') (key_of nodes arguments heads heads) (key_of nodes arguments heads' heads')
              t i own_kept own_was (λ q l. sharing_key q (omega arith)) s.chained k o
              (sharing_key i (omega arith) ∙ sym e) l z.latest z.earlier (omega (arith, y, h));
        }

-- the table stays where node i is a variable
pub sharing_skip : (nodes arguments heads heads' : List ℕ) (t : Applications) (i : ℕ) → Sharing nodes arguments heads t i →
    HeadsBefore nodes arguments heads' (i + 1) → ((k : ℕ) → k < i → word heads' k ≡ word heads k) → kind_of nodes i ≡ 0 →
    Sharing nodes arguments heads' t (i + 1)
sharing_skip nodes arguments heads heads' t i s after same z =
    sharing_stays nodes arguments heads heads' i s.before same t s after (λ o. o.applied z)

-- Application i, and the heads of the nodes before it.
module _ (nodes arguments heads : List ℕ) (i : ℕ) (b : HeadsBefore nodes arguments heads i) (inside : i < node_count nodes) where
  abbrev ns : List Node
  ns = nodes_from nodes arguments

  -- the name of an argument is its head
  argument_own : (g j : ℕ) → g ≤ i → j < count_of nodes g →
      value_name heads heads (argument_of nodes arguments g j) ≡ word heads (argument_of nodes arguments g j)
  argument_own g j l h =
      let a = argument_low nodes arguments b.sections g j h in
      heads_own nodes arguments heads i b (argument_of nodes arguments g j) (omega (arith, a, l))

  -- the term of an application
  applied_term : (g : ℕ) → g ≤ i → (kind_of nodes g ≡ 0 → ⊥) → term_of ns g ≡ app (name_of nodes g) (each (term_of ns) (run nodes arguments g))
  unfolding spell
  applied_term g l n =
      let h : g < node_count nodes = omega (arith, l, inside) in
      term_node ns (sections_well_formed nodes arguments b.sections) g (is_node nodes arguments g h)
      ∙ ap (spell (term_of ns)) (application_from nodes arguments g h n)

  -- and that of a variable
  variable_term : (g : ℕ) → g ≤ i → kind_of nodes g ≡ 0 → term_of ns g ≡ var (name_of nodes g)
  unfolding spell
  variable_term g l e =
      let h : g < node_count nodes = omega (arith, l, inside) in
      term_node ns (sections_well_formed nodes arguments b.sections) g (is_node nodes arguments g h)
      ∙ ap (spell (term_of ns)) (variable_from nodes arguments g h e)

  module _ (n : kind_of nodes i ≡ 0 → ⊥) where
    -- applications that are alike have one term
    pub alike_term : (g : ℕ) → g < i → (kind_of nodes g ≡ 0 → ⊥) → Alike nodes arguments heads heads g i → term_of ns g ≡ term_of ns i
    alike_term g l m a =
        let h : g < node_count nodes = omega (arith, l, inside) in
        let e : each (term_of ns) (run nodes arguments g) ≡ each (term_of ns) (run nodes arguments i) =
        each_equal (term_of ns) (term_of ns) (run nodes arguments g) (run nodes arguments i)
        (run_long nodes arguments b.sections g h ∙ a.count ∙ sym (run_long nodes arguments b.sections i inside))
        (λ x y z. at x y ((pair_place nodes arguments b.sections g i h inside x y).0 z)) in
        applied_term g (omega arith) m
        ∙ ap (λ (f : ℕ). app f (each (term_of ns) (run nodes arguments g))) a.name
        ∙ ap (app (name_of nodes i)) e
        ∙ sym (applied_term i (omega arith) n)
      where
        at : (x y : ℕ) →
            (j : ℕ) × (j < count_of nodes g) × (j < count_of nodes i) × (x ≡ argument_of nodes arguments g j) ×
            (y ≡ argument_of nodes arguments i j) →
            term_of ns x ≡ term_of ns y
        at x y (j, p, q, u, v) =
            let c = argument_low nodes arguments b.sections g j p in
            let d = argument_low nodes arguments b.sections i j q in
            heads_same nodes arguments heads i b x y (omega (arith, u, c, l)) (omega (arith, v, d))
            (ap (word heads) u
            ∙ sym (argument_own g j (omega arith) p)
            ∙ a.per_argument j p
            ∙ argument_own i j (omega arith) q
            ∙ ap (word heads) (sym v))

    -- nodes before i with its term are applications
    same_applied : (g : ℕ) → g < i → term_of ns g ≡ term_of ns i → kind_of nodes g ≡ 0 → ⊥
    same_applied g l e k =
        let q : var (name_of nodes g) ≡ app (name_of nodes i) (each (term_of ns) (run nodes arguments i)) =
        sym (variable_term g (omega arith) k) ∙ e ∙ applied_term i (omega arith) n in
        let z : ◌≡◌ {A = ℕ} 0 1 = cc in
        absurd (omega arith)

    -- and alike
    pub term_alike : (g : ℕ) → g < i → term_of ns g ≡ term_of ns i → Alike nodes arguments heads heads g i
    term_alike g l e =
        let h : g < node_count nodes = omega (arith, l, inside) in
        let q : app (name_of nodes g) (each (term_of ns) (run nodes arguments g))
        ≡ app (name_of nodes i) (each (term_of ns) (run nodes arguments i)) =
        sym (applied_term g (omega arith) (same_applied g l e)) ∙ e ∙ applied_term i (omega arith) n in
        let r : each (term_of ns) (run nodes arguments g) ≡ each (term_of ns) (run nodes arguments i) = cc in
        let c : count_of nodes g ≡ count_of nodes i =
        sym (run_long nodes arguments b.sections g h)
        ∙ each_long (term_of ns) (term_of ns) (run nodes arguments g) (run nodes arguments i) r
        ∙ run_long nodes arguments b.sections i inside in
        record {
          name = cc;
          count = c;
          per_argument = λ j p. at j p (rw c at p) r;
        }
      where
        at : (j : ℕ) → j < count_of nodes g → j < count_of nodes i →
            each (term_of ns) (run nodes arguments g) ≡ each (term_of ns) (run nodes arguments i) →
            value_name heads heads (argument_of nodes arguments g j) ≡ value_name heads heads (argument_of nodes arguments i j)
        at j p q r =
            let c = argument_low nodes arguments b.sections g j p in
            let d = argument_low nodes arguments b.sections i j q in
            let t : term_of ns (argument_of nodes arguments g j) ≡ term_of ns (argument_of nodes arguments i j) =
            each_at (term_of ns) (term_of ns) (run nodes arguments g) (run nodes arguments i) r
            (argument_of nodes arguments g j) (argument_of nodes arguments i j)
            ((pair_place nodes arguments b.sections g i (omega (arith, l, inside)) inside
            (argument_of nodes arguments g j) (argument_of nodes arguments i j)).1 (j, p, q, refl, refl)) in
            argument_own g j (omega arith) p
            ∙ heads_one nodes arguments heads i b (argument_of nodes arguments g j) (argument_of nodes arguments i j) (omega (arith, c, l)) d t
            ∙ sym (argument_own i j (omega arith) q)

    -- so the head of a node before i with its term is an application that is its own head, and alike
    pub head_alike_own : (k : ℕ) → k < i → term_of ns k ≡ term_of ns i →
        (word heads k < i) × OwnHead nodes heads (word heads k) × Alike nodes arguments heads heads (word heads k) i
    head_alike_own k l e =
        let d = heads_low nodes arguments heads i b k l in
        let m : word heads k < i = omega (arith, d, l) in
        let t : term_of ns (word heads k) ≡ term_of ns i = heads_term nodes arguments heads i b k l ∙ e in (
          m,
          record { applied = same_applied (word heads k) m t; itself = heads_own nodes arguments heads i b k l },
          term_alike (word heads k) m t,
        )

-- The search for the head of application i, whose key is k.
module _ (nodes arguments heads : List ℕ) (t : Applications) (i : ℕ) (s : Sharing nodes arguments heads t i) (k : ℕ) (l : i < node_count nodes)
    (n : kind_of nodes i ≡ 0 → ⊥) where
  -- a place on the way is a node before i
  pub way_before : (q : ℕ) → OnWay t k q → q < i
  way_before q w = (s.chained.only k q w).0

  -- an application on it that is alike is the least node with the term of application i
  pub way_least : (g : ℕ) → OnWay t k g → Alike nodes arguments heads heads g i → LeastOfTerm nodes arguments i g
  way_least g w a =
      let u = s.chained.only k g w in
      let e = alike_term nodes arguments heads i s.before l n g u.0 u.1.applied a in
      let h : LeastOfTerm nodes arguments g g = rw u.1.itself at (s.before.head g u.0) in
      let b = u.0 in
      record { low = omega (arith, b); same = e; least = λ q v y. least_low nodes arguments g g q h (y ∙ sym e) }

  -- where none is alike, it is application i itself
  pub way_itself : k ≡ key_of nodes arguments heads heads i → ((q : ℕ) → OnWay t k q → Alike nodes arguments heads heads q i → ⊥) →
      LeastOfTerm nodes arguments i i
  way_itself e f =
      record {
        low = omega arith;
        same = refl;
        least = λ q h y.
            let r = head_alike_own nodes arguments heads i s.before l n q h y in
            absurd (f (word heads q) (rw (e ∙ sym (key_alike r.2)) (s.chained.whole (word heads q) r.0 r.1)) r.2);
      }

-- Application i gets head h.
module _ (nodes arguments heads : List ℕ) (t : Applications) (i : ℕ) (s : Sharing nodes arguments heads t i) (l : i < node_count nodes)
    (h : ℕ) (m : LeastOfTerm nodes arguments i h) where
  -- there is a place for it, and a head is its own
  pub share_inside : (i < length heads) × (length heads ≤ max_nodes) × (h ≤ i) × (h < i → word heads h ≡ h)
  share_inside =
      let z = s.before.size in
      let y = s.before.sections.limit in
      (omega (arith, z, l), omega (arith, z, y), m.low, itself)
    where
      itself : h < i → word heads h ≡ h
      itself d =
          least_one nodes arguments h i (word heads h) h m.same (s.before.head h d) m

  module _ (heads' : List ℕ) (e : heads' ≡ set heads i h) where
    after : HeadsBefore nodes arguments heads' (i + 1)
    after = rw e (heads_next nodes arguments heads i h l s.before m)

    kept : (k : ℕ) → k < i → word heads' k ≡ word heads k
    kept k d = rw e (get_or-set_other heads i k h 0 (λ z. omega (arith, d, z)))

    here : word heads' i ≡ h
    here = rw e (get_or-set_same heads i h 0 share_inside.0)

    -- the head is another, and the table stays
    pub share_other : (h ≡ i → ⊥) → Sharing nodes arguments heads' t (i + 1)
    share_other n =
        sharing_stays nodes arguments heads heads' i s.before kept t s after (λ o. n (sym here ∙ o.itself))

    -- it is node i, which is put into the table
    pub share_own : h ≡ i → (kind_of nodes i ≡ 0 → ⊥) → (k : ℕ) → k ≡ key_of nodes arguments heads heads i → k < keys → Sizes t →
        (t' : Applications) → t' ≡ with_place t i k → Sharing nodes arguments heads' t' (i + 1)
    share_own d n k q r z t' u =
        rw u (sharing_adds nodes arguments heads heads' i s.before kept t s after k
        (record { applied = n; itself = here ∙ d }) q r l z)
