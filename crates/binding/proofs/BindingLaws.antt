-- The words that are found by names are the binding words: the least application with a name, or the least node of the lowest
-- variable with it, as the variables present are listed in rising order. Assumes nothing.
use Prim.Native.Nat.{ℕ, suc, ◌+◌, ◌-◌, ◌<◌, ◌≤◌}
use mathlib.Core.List.{List, ◌++◌, map, Memᴰ, map-map}
use mathlib.Core.Path.{◌≡◌, refl, sym, ap, ◌∙◌}
use native.Mathlib.Decide.{ℕ_discrete}
use native.Mathlib.Nat.{sub-zero}
use native.Mathlib.Omega.{arith}
use lib.ListN.{length, take, drop, replicate}
use lib.Seq.{take-append-le}
use Rattle.table.specs.Limits.{max_nodes}
use Rattle.table.specs.Layout.{word, kind_of, name_of, node_count}
use Rattle.unification.specs.Node.{Node, variable, application, node_at, Present, nodes_from}
use Rattle.unification.specs.Words.{Least, Matched}
use Rattle.unification.specs.Computed.Classes.{class_of}
use Rattle.unification.specs.Computed.Variables.{variables_of}
use Rattle.unification.specs.Computed.Solution.{node_of}
use Rattle.unification.specs.Computed.Unifying.{words_of}
use Rattle.unification.specs.Code.Sections.{Sections}
use Rattle.unification.specs.Code.Heads.{Partition}
use Rattle.unification.specs.Code.Solved.{IsClosure}
use Rattle.unification.specs.Code.Valued.{NamedVariable, IsNamed, bound, free}
use Rattle.unification.proofs.MatchedLaws.{matched_by}
use Rattle.unification.proofs.VariableLaws.{variables_rise, variables_present, present_variables}
use Rattle.unification.proofs.FirstLaws.{node_of_lem}
use Rattle.unification.proofs.SectionLaws.{run, nodes_long, application_from, from_application, sections_well_formed, counted, is_node}
use Rattle.unification.proofs.ValuedLaws.{names_decide}
use Rattle.unification.proofs.ListLaws.{placed, member_place, map_at, first_long}
use Rattle.nodes.specs.Code.Formed.{Formed}
use Rattle.values.specs.Code.Begins.{Leaves}
use Rattle.nodes.specs.Code.Open.{Counts, OpenListed}
use Rattle.nodes.specs.Code.Order.{Ordered}
use Rattle.classes.specs.declared.order.Mark.TheVariants.{New}
use Rattle.classes.specs.Code.Ordering.{Starting}
use Rattle.classes.proofs.OrderLaws.{starting}
use Rattle.values.specs.Code.Kept.{WrittenAt}
use Rattle.values.specs.Code.Present.{least_nodes}
use Rattle.nodes.specs.Code.Named.{value_name, Applied, Named}
use Rattle.binding.specs.Code.Binding.{HeadNames, NamesLeast, IsFree, name_at, ApplicationsNoted, FreeFrom, read_at, AreNodes, WordsFound}
use Rattle.classes.proofs.OrderedLaws.{rank, ordered_enough, ordered_solved}
use Rattle.values.proofs.AlikeLaws.{alike_back, alike_on}
use Rattle.values.proofs.NamedLaws.{variable_name, named_valued, head_alike}
use Rattle.binding.proofs.NotingLaws.{noted_all}
use Rattle.values.proofs.LeastLaws.{rising_places, least_long}

module _ (nodes arguments list : List ℕ) (e : list ≡ least_nodes (nodes_from nodes arguments)) where
  -- The nodes of the two sections.
  abbrev ns : List Node
  ns = nodes_from nodes arguments

  -- there is a place for each variable present
  pub list_long : length list ≡ length (variables_of ns)
  list_long = ap length e ∙ least_long (nodes_from nodes arguments)

  -- with its least node
  pub list_at : (k : ℕ) → k < length (variables_of ns) → word list k ≡ node_of ns (word (variables_of ns) k)
  unfolding least_nodes
  list_at k h =
      ap (λ (l : List ℕ). word l k) e ∙ map_at (node_of ns) (variables_of ns) k h

  -- a variable that is present has a place
  pub place_of : (x : ℕ) → Present ns x → (k : ℕ) × (k < length list) × (x ≡ word (variables_of ns) k) × (word list k ≡ node_of ns x)
  place_of x p =
      let r = member_place (variables_of ns) x (present_variables ns x p) in
      (r.0, rw list_long r.1, r.2, list_at r.0 r.1 ∙ ap (node_of ns) (sym r.2))

  -- a place has a variable that is present
  pub at : (k : ℕ) → k < length list → Present ns (word (variables_of ns) k)
  at k h =
      variables_present ns (word (variables_of ns) k) (placed (variables_of ns) k (rw list_long at h))

  -- the least nodes are nodes
  pub least_nodes_lem : AreNodes nodes list
  least_nodes_lem =
      record {
        node = λ k h.
            let l = node_of_lem ns (word (variables_of ns) k) (at k h) in
            rw (list_at k (rw list_long at h)) (rw (nodes_long nodes arguments) at l.holds.0);
      }

  module _ (heads names : List ℕ) (m : HeadNames nodes arguments heads names) (ps : List (ℕ × ℕ)) (c : IsClosure ns ps (class_of heads))
      (by all : List ℕ) (a : ApplicationsNoted nodes heads names by) (f : FreeFrom nodes heads names list by all 0) where
    -- What stands at the name of variable x is its word by names.
    abbrev IsFound : ℕ → Type 0
    IsFound x = IsNamed ns (class_of heads) (value_name heads names) x (word all (value_name heads names (node_of ns x)))

    -- where the head is an application
    named_bound : (x i g : ℕ) (us : List ℕ) → i < length ns → node_at ns i ≡ variable x → node_at ns (class_of heads i) ≡ application g us →
        IsNamed ns (class_of heads) (value_name heads names) x (word all (value_name heads names i))
    named_bound x i g us p v d =
        let n = counted nodes arguments i p in
        let k = (from_application nodes arguments (class_of heads i) (m.readable.partition.below i n) g us d).0 in
        let w = word by (value_name heads names i) in
        let r = a.least i n k in
        let q : word all (value_name heads names i) ≡ w = f.applied (value_name heads names i) (m.named.application i n k) in
        rw q
        (bound {i = i} {f = g} {w = w} {us = us} p v d
        (record {
          holds = (
            name_of nodes w,
            run nodes arguments w,
            is_node nodes arguments w r.holds.0,
            application_from nodes arguments w r.holds.0
                r.holds.1,
            r.holds.2,
          );
          least =
              λ j t. r.least j (
                counted nodes arguments j t.2,
                (from_application nodes arguments j (counted nodes arguments j t.2) t.0 t.1
                    t.3).0,
                t.4,
              );
        }))

    -- where it is a variable
    module _ (x z : ℕ) (p : Present ns x) (d : node_at ns (class_of heads (node_of ns x)) ≡ variable z) where
      -- the node of the variable, and its head
      own : Least (λ j. (j < length ns) × (node_at ns j ≡ variable x)) (node_of ns x)
      own = node_of_lem ns x p

      head_free : (kind_of nodes (class_of heads (node_of ns x)) ≡ 0) × (value_name heads names (node_of ns x) ≡ class_of heads (node_of ns x))
      head_free =
          variable_name nodes arguments heads names m.readable.sections m.readable.partition m.named (node_of ns x) z own.holds.0 d

      -- a place with its name has a variable for a head
      place_free : (k : ℕ) → k < length list → name_at heads names list k ≡ value_name heads names (node_of ns x) → IsFree nodes heads list k
      place_free k h n = pick (ℕ_discrete (kind_of nodes (class_of heads (word list k))) 0)
        where
          pick : Dec (IsFree nodes heads list k) → IsFree nodes heads list k
          pick (yes y) = y
          pick (no y) =
              absurd (m.named.application (word list k) (least_nodes_lem.node k h) y (ap (kind_of nodes) (n ∙ head_free.1) ∙ head_free.0))

      -- a variable with its name has a place with its name
      named_place : (y : ℕ) → NamedVariable ns (value_name heads names) (value_name heads names (node_of ns x)) y →
          (k : ℕ) × (k < length list) × (y ≡ word (variables_of ns) k) × (name_at heads names list k ≡ value_name heads names (node_of ns x))
      named_place y (j, b, v, n) =
          let r = place_of y (j, b, v) in
          let l = node_of_lem ns y (j, b, v) in
          let g : class_of heads (node_of ns y) ≡ class_of heads j = c.one_variable (node_of ns y) j y l.holds.0 b l.holds.1 v in
          (r.0, r.1, r.2, ap (value_name heads names) r.3 ∙ ap (word names) g ∙ n)

      -- so the variable at the least such place is the lowest with its name
      named_lowest : (k : ℕ) →
          Least (WrittenAt (IsFree nodes heads list) (name_at heads names list) 0 (length list) (value_name heads names (node_of ns x))) k →
          word all (value_name heads names (node_of ns x)) ≡ word list k → IsFound x
      named_lowest k r q =
          let h : k < length list = r.holds.1 in
          let w : word list k ≡ node_of ns (word (variables_of ns) k) = list_at k (rw list_long at h) in
          let l = node_of_lem ns (word (variables_of ns) k) (at k h) in
          rw (q ∙ w)
          (free {i = node_of ns x} {z = z} {y = word (variables_of ns) k} {w = node_of ns (word (variables_of ns) k)} own.holds.0 own.holds.1 d
          (record {
            holds = (node_of ns (word (variables_of ns) k), l.holds.0, l.holds.1, ap (value_name heads names) (sym w) ∙ r.holds.3);
            least = λ y n. lowest y (named_place y n);
          })
          l)
        where
          lowest : (y : ℕ) →
              (j : ℕ) × (j < length list) × (y ≡ word (variables_of ns) j) × (name_at heads names list j ≡ value_name heads names (node_of ns x)) →
              word (variables_of ns) k ≤ y
          lowest y (j, h, e, n) = pick (r.least j (omega arith, h, place_free j h n, n)) (ℕ_discrete k j)
            where
              pick : k ≤ j → Dec (k ≡ j) → word (variables_of ns) k ≤ y
              pick b (yes z) = let q = ap (word (variables_of ns)) z in omega (arith, q, e)
              pick b (no z) =
                  let t = rising_places (variables_of ns) (variables_rise ns) k j (omega (arith, b, z)) (rw list_long at h) in
                  omega (arith, t, e)

      named_free : IsFound x
      named_free =
          let r = place_of x p in
          let n : name_at heads names list r.0 ≡ value_name heads names (node_of ns x) = ap (value_name heads names) r.3 in
          let t = rw n at (f.kept.kept r.0 (omega arith) r.1 (place_free r.0 r.1 n)) in
          named_lowest t.0 t.1 t.2

    -- in both cases
    named_present : (x : ℕ) → Memᴰ x (variables_of ns) → IsFound x
    named_present x k =
        let p = variables_present ns x k in
        pick p (node_of_lem ns x p) (node_at ns (class_of heads (node_of ns x))) refl
      where
        pick : Present ns x → Least (λ j. (j < length ns) × (node_at ns j ≡ variable x)) (node_of ns x) → (n : Node) →
            node_at ns (class_of heads (node_of ns x)) ≡ n → IsFound x
        pick p l (variable z) d = named_free x z p d
        pick p l (application g us) d =
            named_bound x (node_of ns x) g us l.holds.0 l.holds.1 d

    -- so all that is read are the words by names
    named_read : Matched (IsNamed ns (class_of heads) (value_name heads names)) (variables_of ns) (read_at heads names all list)
    unfolding read_at least_nodes
    named_read =
        rw (ap (map (λ v. word all (value_name heads names v))) e ∙ map-map (λ v. word all (value_name heads names v)) (node_of ns) (variables_of ns))
        (matched_by (λ x. word all (value_name heads names (node_of ns x))) (variables_of ns) named_present)

-- the sections, heads and their names
pub heads_named : (nodes arguments heads names : List ℕ) → Named nodes arguments heads names → Sections nodes arguments →
    Partition (node_count nodes) heads → length names ≡ node_count nodes → HeadNames nodes arguments heads names
heads_named nodes arguments heads names m s p l = record { readable = record { sections = s; partition = p; long = l }; named = m }

-- the name of an application names itself
name_itself : (nodes arguments counts heads names : List ℕ) → HeadNames nodes arguments heads names →
    NamesLeast nodes arguments counts heads names → (ps : List (ℕ × ℕ)) → IsClosure (nodes_from nodes arguments) ps (class_of heads) → (i : ℕ) →
    i < node_count nodes → Applied nodes heads i → value_name heads names (value_name heads names i) ≡ value_name heads names i
name_itself nodes arguments counts heads names m t ps c i h n =
    let v = value_name heads names i in
    let l = m.named.node i h in
    let x = head_alike nodes arguments heads names m.readable.sections m.readable.partition ps c v l (m.named.application i h n) in
    sym (m.named.composed i v h l n x.0 (alike_on (alike_back (t.alike i h n)) x.1))

-- the words found are the binding words
pub found_leaves : (nodes arguments counts heads names opens list out out' : List ℕ) → WordsFound nodes heads names opens list out out' →
    HeadNames nodes arguments heads names → NamesLeast nodes arguments counts heads names → Counts nodes arguments counts (node_count nodes) →
    OpenListed nodes counts opens → Formed nodes arguments counts heads → list ≡ least_nodes (nodes_from nodes arguments) →
    Leaves nodes arguments heads out out'
found_leaves nodes arguments counts heads names opens list out out' f m l k o g e ps t =
    let s = m.readable.sections in
    let p = m.readable.partition in
    let h = t.inside in
    let c = t.closure in
    let a = noted_all nodes arguments heads names m opens counts f.applications o l (name_itself nodes arguments counts heads names m l ps c)
    f.noted in
    let d : words_of (nodes_from nodes arguments) ps ≡ read_at heads names f.all list = names_decide (nodes_from nodes arguments)
    (sections_well_formed nodes arguments s) ps h (class_of heads) (rank nodes counts g.order)
    (ordered_solved nodes arguments s counts k heads p g.closed ps h c g.order g.ordered) (suc (node_count nodes + suc (length g.order)))
    (ordered_enough nodes arguments s counts k heads p g.closed ps h c g.order g.ordered) (value_name heads names)
    (named_valued nodes arguments heads names s p m.named) (read_at heads names f.all list)
    (named_read nodes arguments list e heads names m ps c f.applications f.all a f.free) in
    f.words_read
    ∙ ap (λ (n : List ℕ). n ++ drop (length list) out) (sym d)
    ∙ ap (λ (n : ℕ). words_of (nodes_from nodes arguments) ps ++ drop n out) (ap length e ∙ least_long (nodes_from nodes arguments))

-- the search for an order starts with no node placed
pub nothing_placed : (n m : ℕ) → n ≡ m → n ≤ max_nodes →
    Starting m (take (n - 0) (replicate max_nodes New)) (take (n - 0) (replicate max_nodes 0))
nothing_placed n m e l = starting n (first_long n l ∙ e) e l

-- the order is the first part of a longer list
pub ordered_part : (nodes arguments : List ℕ) (due : ℕ → ℕ) (heads xs ys : List ℕ) (k : ℕ) → k ≤ length xs →
    Ordered nodes arguments due heads (take k xs) → Ordered nodes arguments due heads (take (k - 0) (xs ++ ys))
ordered_part nodes arguments due heads xs ys k h o = rw (sub-zero k, take-append-le k xs ys h) o
