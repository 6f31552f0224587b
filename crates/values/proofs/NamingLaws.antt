-- Naming the values of classes, place by place: how each of the three ways names the node at a place, and what is named at the end.
-- Assumes nothing.
use Prim.Native.Nat.{ℕ, ◌+◌, ◌<◌, ◌≤◌}
use mathlib.Core.Bool.{Bool, true, false}
use mathlib.Core.List.{List}
use mathlib.Core.Logic.{◌⊎◌, inl, inr}
use mathlib.Core.Path.{◌≡◌, sym, ap, ◌∙◌}
use native.Mathlib.Decide.{ℕ_discrete}
use native.Mathlib.Omega.{arith}
use borrow.Author.Tests.{eqb-true, eqb-false}
use borrow.Author.Count.{below_more}
use lib.Dec.{eqb}
use lib.ListN.{length, set, length-set}
use lib.Seq.{get_or-set_same, get_or-set_other}
use Rattle.table.specs.Limits.{max_nodes}
use Rattle.table.specs.Layout.{word, kind_of, count_of, node_count, argument_of}
use Rattle.unification.specs.Computed.Classes.{class_of}
use Rattle.unification.specs.Code.Heads.{Partition}
use Rattle.nodes.specs.Code.Named.{value_name, Readable, Alike, Applied}
use Rattle.values.specs.declared.applications.Applications.{Applications}
use Rattle.values.specs.Code.Applications.{keys, Sizes, with_place}
use Rattle.values.specs.Code.Naming.{Nameable, IsPlaced, Compounds, key_of, key_at, Representative, Represented, NamedBefore, Naming, NamedEarlier, NamedAlong}
use Rattle.nodes.specs.Code.Formed.{IsConstant}
use Rattle.values.proofs.AlikeLaws.{NamesKept, alike_same, alike_back, alike_on, alike_kept, alike_was, key_kept}
use Rattle.values.proofs.ChainLaws.{chained_skip, chained_add}
use Rattle.values.proofs.FindLaws.{order_short}

-- Naming the node at place p.
module _ (nodes arguments heads order : List ℕ) (o : Nameable nodes arguments heads order) (p : ℕ) (inside : p < length order) where
  module _ (names : List ℕ) (v : ℕ) where
    -- The names after it.
    abbrev news : List ℕ
    news = set names (word order p) v

    name_kept : (q : ℕ) → q < p → word news (word order q) ≡ word names (word order q)
    name_kept q l = get_or-set_other names (word order p) (word order q) v 0 (λ z. o.once q p l inside z)

    same_names : (q : ℕ) → q ≤ p → NamesKept nodes arguments heads names news (word order q)
    same_names q l j m =
        get_or-set_other names (word order p) (class_of heads (argument_of nodes arguments (word order q) j)) v 0 (o.first p q j l inside m)

    whole_kept : Compounds nodes heads order names → Compounds nodes heads order news
    whole_kept w =
        record {
          compound = w.compound;
          placed = w.placed;
          itself = λ i h z.
              get_or-set_other names (word order p) i v 0
              (λ e. let k = w.compound p inside in let y : count_of nodes (word order p) ≡ 0 = rw (← e) z in omega (arith, k, y))
              ∙ w.itself i h z;
          constants = w.constants;
        }

    representative_kept : (q : ℕ) → q < p → Representative nodes order names q → Representative nodes order news q
    representative_kept q l r = record { application = r.application; itself = name_kept q l ∙ r.itself }

    representative_was : (q : ℕ) → q < p → Representative nodes order news q → Representative nodes order names q
    representative_was q l r = record { application = r.application; itself = sym (name_kept q l) ∙ r.itself }

    represented_kept : (q : ℕ) → q < p → Represented nodes arguments heads order names q → Represented nodes arguments heads order news q
    represented_kept q l r =
        let b = r.before in
        record {
          place = r.place;
          before = b;
          representative = representative_kept r.place (omega (arith, b)) r.representative;
          named = name_kept q l ∙ r.named;
          alike = alike_kept nodes arguments heads names news (same_names r.place (omega (arith, b))) (same_names q (omega arith)) r.alike;
        }

    key_at_kept : (q : ℕ) → q < p → key_at nodes arguments heads order news q ≡ key_at nodes arguments heads order names q
    unfolding key_at
    key_at_kept q l = key_kept nodes arguments heads names news (word order q) (same_names q (omega arith))

    -- The node at place p has its name.
    record NamedHere : Type 0 where
      variable : kind_of nodes (word order p) ≡ 0 → word news (word order p) ≡ word order p
      application : (kind_of nodes (word order p) ≡ 0 → ⊥) → Represented nodes arguments heads order news p
      apart : (q : ℕ) → q < p → Representative nodes order news q → Representative nodes order news p →
          Alike nodes arguments heads news (word order q) (word order p) → ⊥

    named_next : NamedBefore nodes arguments heads order names p → NamedHere → NamedBefore nodes arguments heads order news (p + 1)
    named_next s t =
        record {
          variable =
              below_more (λ q. kind_of nodes (word order q) ≡ 0 → word news (word order q) ≡ word order q) p
              (λ q l k. name_kept q l ∙ s.variable q l k) t.variable;
          application =
              below_more (λ q. (kind_of nodes (word order q) ≡ 0 → ⊥) → Represented nodes arguments heads order news q) p
              (λ q l k. represented_kept q l (s.application q l k)) t.application;
          apart = λ q r h l x y a. apart_at q r h l x y a (ℕ_discrete q p) (ℕ_discrete r p);
        }
      where
        apart_at : (q r : ℕ) → q < p + 1 → r < p + 1 → Representative nodes order news q → Representative nodes order news r →
            Alike nodes arguments heads news (word order q) (word order r) → Dec (q ≡ p) → Dec (r ≡ p) → q ≡ r
        apart_at q r h l x y a (yes e) (yes f) = e ∙ sym f
        apart_at q r h l x y a (yes e) (no n) =
            let m : r < p = omega (arith, n, l) in
            absurd (t.apart r m y (rw e at x) (rw e at (alike_back a)))
        apart_at q r h l x y a (no n) (yes e) =
            let m : q < p = omega (arith, n, h) in
            absurd (t.apart q m x (rw e at y) (rw e at a))
        apart_at q r h l x y a (no n) (no k) =
            let m : q < p = omega (arith, n, h) in
            let i : r < p = omega (arith, k, l) in
            s.apart q r m i (representative_was q m x) (representative_was r i y)
            (alike_was nodes arguments heads names news (same_names q (omega arith)) (same_names r (omega arith)) a)

  -- Before it, the nodes before p have their names, and the representatives among them are in the table.
  module _ (names : List ℕ) (t : Applications) (s : Naming nodes arguments heads order names t p) where
    here : word order p < length names
    here =
        let l = s.readable.long in
        let m = o.node p inside in
        omega (arith, l, m)

    named_same : (v : ℕ) → word (news names v) (word order p) ≡ v
    named_same v = get_or-set_same names (word order p) v 0 here

    -- the place can stand in the table
    pub place_inside : p < max_nodes
    place_inside =
        let h = order_short nodes arguments heads order o in
        let z = s.readable.sections.limit in
        omega (arith, h, z)

    readable_next : (v : ℕ) → Readable nodes arguments heads (news names v)
    readable_next v =
        record {
          sections = s.readable.sections;
          partition = s.readable.partition;
          long = length-set names (word order p) v ∙ s.readable.long;
        }

    -- what is not a representative leaves the table as it is
    naming_skip : (v : ℕ) → NamedHere names v → (Representative nodes order (news names v) p → ⊥) →
        Naming nodes arguments heads order (news names v) t (p + 1)
    naming_skip v here n =
        record {
          readable = readable_next v;
          ordered = o;
          whole = whole_kept names v s.whole;
          named = named_next names v s.named here;
          chained = chained_skip _ _ _ _ t p (representative_kept names v) (representative_was names v) (key_at_kept names v) s.chained
              n;
        }

    -- a variable is named by itself
    naming_variable : kind_of nodes (word order p) ≡ 0 → Naming nodes arguments heads order (news names (word order p)) t (p + 1)
    naming_variable k =
        naming_skip (word order p)
        (record {
          variable = λ z. named_same (word order p);
          application = λ n. absurd (n k);
          apart = λ q l x y a. y.application k;
        })
        (λ r. r.application k)

    module _ (n : kind_of nodes (word order p) ≡ 0 → ⊥) where
      -- an application has the name of an earlier one that is alike
      naming_found : (b : ℕ) → (b < p) × Representative nodes order names b × Alike nodes arguments heads names (word order b) (word order p) →
          Naming nodes arguments heads order (news names (word order b)) t (p + 1)
      naming_found b u =
          let same = same_names names (word order b) in
          let other : Representative nodes order (news names (word order b)) p → ⊥ =
          λ r. o.once b p u.0 inside (sym (named_same (word order b)) ∙ r.itself) in
          naming_skip (word order b)
          (record {
            variable = λ z. absurd (n z);
            application = λ z. record {
              place = b;
              before = omega (arith, u.0);
              representative = representative_kept names (word order b) b u.0 u.1;
              named = named_same (word order b);
              alike = alike_kept nodes arguments heads names _ (same b (omega (arith, u.0))) (same p (omega arith)) u.2;
            };
            apart = λ q l x y a. other y;
          })
          other

      -- No representative before it is alike.
      abbrev NoneAlike : Type 0
      NoneAlike =
          (q : ℕ) → q < p → Representative nodes order names q → Alike nodes arguments heads names (word order q) (word order p) → ⊥

      -- or is named by itself, and put into the table
      naming_new : NoneAlike → (k : ℕ) → k ≡ key_of nodes arguments heads names (word order p) → k < keys → Sizes t →
          Naming nodes arguments heads order (news names (word order p)) (with_place t p k) (p + 1)
      unfolding key_at
      naming_new f k e l z =
          let same = same_names names (word order p) in
          let itself : Representative nodes order (news names (word order p)) p = record { application = n; itself = named_same (word order p) } in
          record {
            readable = readable_next (word order p);
            ordered = o;
            whole = whole_kept names (word order p) s.whole;
            named = named_next names (word order p) s.named (record {
              variable = λ z. named_same (word order p);
              application = λ z. record {
                place = p;
                before = omega arith;
                representative = itself;
                named = named_same (word order p);
                alike = alike_same (word order p);
              };
              apart =
                  λ q h x y a. f q h (representative_was names (word order p) q h x)
                  (alike_was nodes arguments heads names _ (same q (omega arith)) (same p (omega arith)) a);
            });
            chained =
                chained_add _ _ _ _ t p (representative_kept names (word order p)) (representative_was names (word order p))
                (key_at_kept names (word order p)) s.chained k itself
                (key_kept nodes arguments heads names _ (word order p) (same p (omega arith)) ∙ sym e) l z.latest z.earlier place_inside;
          }

    -- The same over the values that the code holds: node h, whether it is a variable, its key k and the cursor c.
    module _ (h : ℕ) (e : h ≡ word order p) where
      -- the node at place p is a node of the table, and has its entry among the names
      pub node_inside : (h < node_count nodes) × (h < length names)
      node_inside = (rw e (o.node p inside), rw e here)

      -- its key, by its place
      pub key_given : (k : ℕ) → (k ≡ key_of nodes arguments heads names h) × (k < keys) →
          (p < length order) × (k ≡ key_of nodes arguments heads names (word order p)) × (k < keys)
      key_given k d = (inside, d.0 ∙ ap (key_of nodes arguments heads names) e, d.1)

      -- a node can be put as its name
      pub put_inside : (v : ℕ) → v < node_count nodes → (h < length names) × (v < max_nodes)
      put_inside v l = let z = s.readable.sections.limit in (node_inside.1, omega (arith, z, l))

      module _ (r : Bool) (d : r ≡ eqb (kind_of nodes h) 0) where
        -- a variable
        pub step_variable : r ≡ true → (ms : List ℕ) → ms ≡ set names h h → Naming nodes arguments heads order ms t (p + 1)
        step_variable f ms g = rw (g, e) (naming_variable (rw e at (eqb-true (kind_of nodes h) 0 (sym d ∙ f))))

        module _ (f : r ≡ false) where
          applied : kind_of nodes (word order p) ≡ 0 → ⊥
          applied = rw e at (eqb-false (kind_of nodes h) 0 (sym d ∙ f))

          -- an application for which one is found
          pub step_found : (b : ℕ) → (b < p) × Representative nodes order names b × Alike nodes arguments heads names (word order b) (word order p) →
              (g : ℕ) → g ≡ word order b → (ms : List ℕ) → ms ≡ set names h g → Naming nodes arguments heads order ms t (p + 1)
          step_found b u g a ms d = rw (d, e, a) (naming_found applied b u)

          -- an application for which none is found
          pub step_new : ((q : ℕ) → q < p → Representative nodes order names q → Alike nodes arguments heads names (word order q) (word order p) → ⊥) →
              (k : ℕ) → (k ≡ key_of nodes arguments heads names h) × (k < keys) → Sizes t → (ms : List ℕ) (u : Applications) →
              ms ≡ set names h h → u ≡ with_place t p k → Naming nodes arguments heads order ms u (p + 1)
          step_new m k b w ms u x y =
              let a = key_given k b in
              rw (x, y, e) (naming_new applied m k a.1 a.2 w)

-- At the end every class is named.
module _ (nodes arguments heads order names : List ℕ) (o : Nameable nodes arguments heads order) (t : Partition (node_count nodes) heads)
    (w : Compounds nodes heads order names) (s : NamedBefore nodes arguments heads order names (length order)) where
  -- The class of node i has the name of a representative that is alike.
  record ClassNamed (i : ℕ) : Type 0 where
    place : ℕ
    inside : place < length order
    representative : Representative nodes order names place
    named : value_name heads names i ≡ word order place
    alike : Alike nodes arguments heads names (word order place) (class_of heads i)

  -- The head of node i has no arguments, and names itself.
  record Bare (i : ℕ) : Type 0 where
    bare : count_of nodes (class_of heads i) ≡ 0
    itself : value_name heads names i ≡ class_of heads i
    others : Compounds nodes heads order names

  -- A head stands in the order, or has no arguments.
  data PlacedOrBare (i : ℕ) : Type 0 where
    at : IsPlaced order (class_of heads i) → PlacedOrBare i
    outside : Bare i → PlacedOrBare i

  standing : (i : ℕ) → i < node_count nodes → PlacedOrBare i
  standing i h = pick (ℕ_discrete (count_of nodes (class_of heads i)) 0)
    where
      pick : Dec (count_of nodes (class_of heads i) ≡ 0) → PlacedOrBare i
      pick (yes z) = outside (record { bare = z; itself = w.itself (class_of heads i) (t.below i h) z; others = w })
      pick (no n) = at (w.placed i h (omega (arith, n)))

  -- a class of an application whose head stands in the order
  class_named : (i : ℕ) → IsPlaced order (class_of heads i) → Applied nodes heads i → ClassNamed i
  class_named i (q, l, e) n =
      let r = s.application q l (λ z. n (rw e at z)) in
      let b = r.before in
      record {
        place = r.place;
        inside = omega (arith, b, l);
        representative = r.representative;
        named = ap (word names) (sym e) ∙ r.named;
        alike = rw e at r.alike;
      }

  named_variable : (i : ℕ) → PlacedOrBare i → kind_of nodes (class_of heads i) ≡ 0 → value_name heads names i ≡ class_of heads i
  named_variable i (at (q, l, e)) k = ap (word names) (sym e) ∙ s.variable q l (rw e k) ∙ e
  named_variable i (outside b) k = b.itself

  named_node : (i : ℕ) → i < node_count nodes → PlacedOrBare i → Dec (kind_of nodes (class_of heads i) ≡ 0) →
      value_name heads names i < node_count nodes
  named_node i h x (yes k) = rw (named_variable i x k) (t.below i h)
  named_node i h (at p) (no n) =
      let t = class_named i p n in
      rw t.named (o.node t.place t.inside)
  named_node i h (outside b) (no n) = rw b.itself (t.below i h)

  named_application : (i : ℕ) → PlacedOrBare i → Applied nodes heads i → kind_of nodes (value_name heads names i) ≡ 0 → ⊥
  named_application i (at p) n k =
      let t = class_named i p n in
      t.representative.application (rw t.named at k)
  named_application i (outside b) n k = n (rw b.itself at k)

  -- a head that stands in the order, among those that have arguments, is not alike one without
  not_bare : (i j : ℕ) → IsPlaced order (class_of heads i) → Bare j → Alike nodes arguments heads names (class_of heads i) (class_of heads j) → ⊥
  not_bare i j (q, l, e) b a =
      let c = b.others.compound q l in
      let d : count_of nodes (word order q) ≡ count_of nodes (class_of heads j) = rw e a.count in
      let z = b.bare in
      omega (arith, c, d, z)

  named_composed : (i j : ℕ) → i < node_count nodes → j < node_count nodes → PlacedOrBare i → PlacedOrBare j → Applied nodes heads i →
      Applied nodes heads j → Alike nodes arguments heads names (class_of heads i) (class_of heads j) →
      value_name heads names i ≡ value_name heads names j
  named_composed i j h l (at p) (at q) n m a =
      let t = class_named i p n in
      let u = class_named j q m in
      let e = s.apart t.place u.place t.inside u.inside t.representative u.representative (alike_on t.alike (alike_on a (alike_back u.alike))) in
      t.named ∙ ap (word order) e ∙ sym u.named
  named_composed i j h l (at p) (outside b) n m a = absurd (not_bare i j p b a)
  named_composed i j h l (outside b) (at q) n m a = absurd (not_bare j i q b (alike_back a))
  named_composed i j h l (outside b) (outside c) n m a =
      let x : IsConstant nodes (class_of heads i) = record { node = t.below i h; applied = n; bare = b.bare } in
      let y : IsConstant nodes (class_of heads j) = record { node = t.below j l; applied = m; bare = c.bare } in
      ap (word names) (sym (t.own i h) ∙ b.others.constants (class_of heads i) (class_of heads j) x y a.name ∙ t.own j l)

  -- a representative has another name than a head without arguments
  not_itself : (i j : ℕ) → ClassNamed i → Bare j → value_name heads names i ≡ value_name heads names j → ⊥
  not_itself i j x b e =
      let c = b.others.compound x.place x.inside in
      let d : word order x.place ≡ class_of heads j = sym x.named ∙ e ∙ b.itself in
      let y : count_of nodes (word order x.place) ≡ 0 = rw d b.bare in
      omega (arith, c, y)

  named_apart : (i j : ℕ) → PlacedOrBare i → PlacedOrBare j → Applied nodes heads i → Applied nodes heads j →
      value_name heads names i ≡ value_name heads names j → Alike nodes arguments heads names (class_of heads i) (class_of heads j)
  named_apart i j (at p) (at q) n m e =
      let t = class_named i p n in
      let u = class_named j q m in
      let f : word order t.place ≡ word order u.place = sym t.named ∙ e ∙ u.named in
      alike_on (alike_back t.alike) (rw (← f) at u.alike)
  named_apart i j (at p) (outside b) n m e = absurd (not_itself i j (class_named i p n) b e)
  named_apart i j (outside b) (at q) n m e = absurd (not_itself j i (class_named j q m) b (sym e))
  named_apart i j (outside b) (outside c) n m e =
      let d : class_of heads i ≡ class_of heads j = sym b.itself ∙ e ∙ c.itself in
      rw d (alike_same (class_of heads j))

  named_earlier : NamedEarlier order names
  named_earlier = record { earlier = λ q l. go q l (ℕ_discrete (kind_of nodes (word order q)) 0) }
    where
      go : (q : ℕ) → q < length order → Dec (kind_of nodes (word order q) ≡ 0) →
          (r : ℕ) × (r ≤ q) × (word names (word order q) ≡ word order r) × (word names (word order r) ≡ word order r)
      go q l (yes k) = (q, omega arith, s.variable q l k, s.variable q l k)
      go q l (no n) =
          let r = s.application q l n in
          (r.place, r.before, r.named, r.representative.itself)

  named_end : NamedAlong nodes arguments heads order names
  named_end =
      record {
        named = record {
          node = λ i h. named_node i h (standing i h) (ℕ_discrete (kind_of nodes (class_of heads i)) 0);
          variable = λ i h. named_variable i (standing i h);
          application = λ i h. named_application i (standing i h);
          composed = λ i j h l. named_composed i j h l (standing i h) (standing j l);
          taken_apart = λ i j h l. named_apart i j (standing i h) (standing j l);
        };
        along = named_earlier;
        outside = λ i h. pick i (standing i h);
        alike = λ i h. like i (standing i h);
      }
    where
      pick : (i : ℕ) → PlacedOrBare i → IsPlaced order (class_of heads i) ⊎ (value_name heads names i ≡ class_of heads i)
      pick i (at p) = inl p
      pick i (outside b) = inr b.itself

      like : (i : ℕ) → PlacedOrBare i → Applied nodes heads i → Alike nodes arguments heads names (value_name heads names i) (class_of heads i)
      like i (at p) n =
          let t = class_named i p n in
          rw t.named t.alike
      like i (outside b) n = rw b.itself (alike_same (class_of heads i))

-- so it is where the last place is passed
pub naming_end : (nodes arguments heads order names : List ℕ) (t : Applications) (p : ℕ) → Naming nodes arguments heads order names t p →
    p ≤ length order → length order ≤ p →
    NamedAlong nodes arguments heads order names
naming_end nodes arguments heads order names t p s l m =
    let e : p ≡ length order = omega arith in
    named_end nodes arguments heads order names s.ordered s.readable.partition s.whole (rw e at s.named)
