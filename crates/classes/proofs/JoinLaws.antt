-- What each way out of joining two nodes comes to, and how joining their heads' arguments one after the other adds up. Assumes nothing.
use Prim.Native.Nat.{ℕ, ◌+◌, ◌<◌, ◌≤◌}
use mathlib.Core.Bool.{Bool, true, false, not, ◌&&◌, ◌||◌, false≢true}
use mathlib.Core.List.Memᴰ
use mathlib.Core.List.{List, [], ◌∷◌, ◌++◌, Memᴰ, zip, append_assoc}
use mathlib.Core.Logic.{◌⊎◌, inl, inr}
use mathlib.Core.Path.{◌≡◌, refl, sym, ap, ◌∙◌}
use native.Mathlib.Numerals.{add-one}
use native.Mathlib.Decide.{ℕ_discrete}
use native.Mathlib.Omega.{arith}
use borrow.Author.Tests.{eqb-true, eqb-false, not-false}
use lib.Dec.{eqb}
use lib.ListN.{length}
use Rattle.table.specs.Layout.{kind_of, name_of, count_of, node_count, argument_of}
use Rattle.table.proofs.BoolLaws.{or_false_left, or_false_right, and_true_left, and_true_right}
use Rattle.unification.specs.Node.{Node, application, node_at, tabulate, nodes_from}
use Rattle.unification.specs.Closure.{OneSymbol, Joined, arguments as by-arguments, back, on, Clash}
use Rattle.unification.specs.Computed.Classes.{class_of, join}
use Rattle.unification.specs.Code.Heads.{Partition, roots, Unites}
use Rattle.unification.specs.Code.Sections.{Sections, symbol_test}
use Rattle.unification.proofs.ListLaws.{tabulate_member, tabulate_from, zip_back}
use Rattle.unification.proofs.CountLaws.{join_length, join_keeps, join_lowers, join_second, join_other, unites_front, in_list}
use Rattle.unification.proofs.SectionLaws.{symbols_differ, run, run_long, nodes_long, variable_from, application_from, from_application, symbol_test_lem, is_node, pair_place}
use Rattle.nodes.specs.Code.Open.{IsClosed, closed_test, KeepsClosed}
use Rattle.nodes.specs.Code.Uniting.{TwoHeads}
use Rattle.nodes.specs.Code.Trail.{Trailed, Merges, none, Goes}
use Rattle.classes.specs.Code.Closure.{ClosureUpTo, argument_pair, argument_pairs, Joinable, Joins, JoinsAtOnce}
use Rattle.classes.proofs.TrailLaws.{one_merged, merges_on, merges_trailed}
use Rattle.nodes.proofs.OpenLaws.{closed_true, closed_false, weaker_variable, weaker_closed, closed_kept}
use Rattle.classes.proofs.ClosedClashLaws.{SameTerm, closed_joined}
use Rattle.classes.proofs.ClosureLaws.{Wanted, HeadsMeet, retold, already, heads_clash, united, classes_joined, variable_meets}

module _ (nodes : List ℕ) (g h : ℕ) (r s : Bool) (p : r ≡ eqb (kind_of nodes g) 0) (q : s ≡ eqb (kind_of nodes h) 0) where
  -- what the test of two heads for a variable tells
  pub variable_tested : (r || s) ≡ true → (kind_of nodes g ≡ 0) ⊎ (kind_of nodes h ≡ 0)
  variable_tested e = go r s refl refl e
    where
      go : (x y : Bool) → r ≡ x → s ≡ y → (x || y) ≡ true → (kind_of nodes g ≡ 0) ⊎ (kind_of nodes h ≡ 0)
      go true y a b z = inl (eqb-true (kind_of nodes g) 0 (sym p ∙ a))
      go false true a b z = inr (eqb-true (kind_of nodes h) 0 (sym q ∙ b))
      go false false a b z = absurd (false≢true z)

  -- and where there is none
  pub applied_tested : (r || s) ≡ false → (kind_of nodes g ≡ 0 → ⊥) × (kind_of nodes h ≡ 0 → ⊥)
  applied_tested e =
      (eqb-false (kind_of nodes g) 0 (sym p ∙ or_false_left r s e), eqb-false (kind_of nodes h) 0 (sym q ∙ or_false_right r s e))

module _ (nodes counts : List ℕ) (g h : ℕ) (hg : g < node_count nodes) (hh : h < node_count nodes) (r s : Bool) (p : r ≡ symbol_test nodes g h)
    (q : s ≡ (closed_test nodes counts g && closed_test nodes counts h)) where
  -- what the test of two heads that are applications tells: of different symbols, or both closed
  pub clash_tested : (not r || s) ≡ true → (symbol_test nodes g h ≡ false) ⊎ (IsClosed nodes counts g × IsClosed nodes counts h)
  clash_tested e = go r s refl refl e
    where
      go : (x y : Bool) → r ≡ x → s ≡ y → (not x || y) ≡ true → (symbol_test nodes g h ≡ false) ⊎ (IsClosed nodes counts g × IsClosed nodes counts h)
      go false y a b z = inl (sym p ∙ a)
      go true true a b z =
          let k : (closed_test nodes counts g && closed_test nodes counts h) ≡ true = sym q ∙ b in
          inr (
            closed_true nodes counts g hg (and_true_left (closed_test nodes counts g) (closed_test nodes counts h) k),
            closed_true nodes counts h hh (and_true_right (closed_test nodes counts g) (closed_test nodes counts h) k),
          )
      go true false a b z = absurd (false≢true z)

  -- and where they are neither
  pub alike_tested : (not r || s) ≡ false → (symbol_test nodes g h ≡ true) × (IsClosed nodes counts g → IsClosed nodes counts h → ⊥)
  alike_tested e = (
    sym p ∙ not-false r (or_false_left (not r) s e),
    λ m n. go (closed_test nodes counts g) (closed_test nodes counts h) refl refl (sym q ∙ or_false_right (not r) s e) m n,
  )
    where
      go : (x y : Bool) → closed_test nodes counts g ≡ x → closed_test nodes counts h ≡ y → (x && y) ≡ false → IsClosed nodes counts g →
          IsClosed nodes counts h → ⊥
      go false y a b z m n = closed_false nodes counts g a m
      go true y a b z m n = closed_false nodes counts h (b ∙ z) n

-- a head's test for a variable, by the head's number
pub kind_of_lem : (nodes : List ℕ) {g h : ℕ} {r : Bool} → r ≡ eqb (kind_of nodes g) 0 → g ≡ h → r ≡ eqb (kind_of nodes h) 0
kind_of_lem nodes e d = e ∙ ap (λ (k : ℕ). eqb (kind_of nodes k) 0) d

-- a test of two nodes, by their numbers
pub tested_by : (f : ℕ → ℕ → Bool) (x y g h : ℕ) (r : Bool) → x ≡ g → y ≡ h → r ≡ f x y → r ≡ f g h
tested_by f x y g h r d e q = q ∙ ap (λ (k : ℕ). f k y) d ∙ ap (f g) e

-- an argument of a head, by the head's number
pub argument_of_lem : (nodes arguments : List ℕ) (j : ℕ) {g h x : ℕ} → x ≡ argument_of nodes arguments g j → g ≡ h →
    x ≡ argument_of nodes arguments h j
argument_of_lem nodes arguments j e d = e ∙ ap (λ (k : ℕ). argument_of nodes arguments k j) d

module _ (nodes arguments : List ℕ) (s : Sections nodes arguments) (g h : ℕ) (hg : g < node_count nodes) (hh : h < node_count nodes)
    (e : count_of nodes g ≡ count_of nodes h) where
  -- arguments at one place are a pair
  placed_pair : (j : ℕ) → j < count_of nodes g → (a b : ℕ) → a ≡ argument_of nodes arguments g j → b ≡ argument_of nodes arguments h j →
      Memᴰ (a, b) (argument_pairs nodes arguments g h)
  unfolding argument_pairs argument_pair
  placed_pair j l a b x y = rw (x, y) (tabulate_member (count_of nodes g) (argument_pair nodes arguments g h) j l)

  -- the pairs of arguments are those of the two lists of arguments
  zip_pairs : (a b : ℕ) → Memᴰ (a, b) (zip (run nodes arguments g) (run nodes arguments h)) →
      Memᴰ (a, b) (argument_pairs nodes arguments g h)
  zip_pairs a b m =
      let r = (pair_place nodes arguments s g h hg hh a b).0 m in
      placed_pair r.0 r.1 a b r.3 r.4

  -- and the other way round
  pairs_zip : (a b : ℕ) → Memᴰ (a, b) (argument_pairs nodes arguments g h) →
      Memᴰ (a, b) (zip (run nodes arguments g) (run nodes arguments h))
  unfolding argument_pairs argument_pair
  pairs_zip a b m =
      let r = tabulate_from (count_of nodes g) (argument_pair nodes arguments g h) (a, b) m in
      let l : r.0 < count_of nodes h = rw (← e) r.1 in
      (pair_place nodes arguments s g h hg hh a b).1
      (r.0, r.1, l, ap (λ (p : ℕ × ℕ). p.0) r.2, ap (λ (p : ℕ × ℕ). p.1) r.2)

-- Classes come of others when some pairs are joined, and whatever the closure then joins.
pub record Advances (nodes arguments counts heads next : List ℕ) (new : List (ℕ × ℕ)) (heads' next' : List ℕ) : Type 0 where
  pub partition : Partition (node_count nodes) heads'
  pub merges : Merges (node_count nodes) heads next heads' next'
  pub fewer : roots (node_count nodes) heads' ≤ roots (node_count nodes) heads
  pub stay : (i : ℕ) → i < node_count nodes → class_of heads (class_of heads' i) ≡ class_of heads' i
  pub kept : KeepsClosed nodes counts heads heads'
  pub done : (ps todo : List (ℕ × ℕ)) → ClosureUpTo (nodes_from nodes arguments) ps heads (new ++ todo) →
      ClosureUpTo (nodes_from nodes arguments) ps heads' todo

-- Classes ds come of others when those of nodes a and b are made one: the pair is traded for the pairs of new.
pub record Trades (nodes arguments counts heads next : List ℕ) (a b : ℕ) (new : List (ℕ × ℕ)) (ds next' : List ℕ) : Type 0 where
  pub partition : Partition (node_count nodes) ds
  pub merges : Merges (node_count nodes) heads next ds next'
  pub fewer : roots (node_count nodes) ds < roots (node_count nodes) heads
  pub stay : (i : ℕ) → i < node_count nodes → class_of heads (class_of ds i) ≡ class_of ds i
  pub kept : KeepsClosed nodes counts heads ds
  pub trades : (ps todo : List (ℕ × ℕ)) → ClosureUpTo (nodes_from nodes arguments) ps heads ((a, b) ∷ todo) →
      ClosureUpTo (nodes_from nodes arguments) ps ds (new ++ todo)

-- heads that were heads before, and before that
heads_on : (n : ℕ) (heads heads' heads'' : List ℕ) → Partition n heads'' →
    ((i : ℕ) → i < n → class_of heads (class_of heads' i) ≡ class_of heads' i) →
    ((i : ℕ) → i < n → class_of heads' (class_of heads'' i) ≡ class_of heads'' i) → (i : ℕ) → i < n →
    class_of heads (class_of heads'' i) ≡ class_of heads'' i
heads_on n heads heads' heads'' p f g i h =
    let e : class_of heads' (class_of heads'' i) ≡ class_of heads'' i = g i h in
    ap (class_of heads) (sym e) ∙ f (class_of heads'' i) (p.below i h) ∙ e

-- a head that is left was a head before
join_heads : {n : ℕ} {heads : List ℕ} → Partition n heads → (x y : ℕ) → x < n → (i : ℕ) → i < n →
    class_of heads (class_of (join heads (x, y)) i) ≡ class_of (join heads (x, y)) i
join_heads {n} {heads} p x y hx i h = go (ℕ_discrete (class_of heads i) (class_of heads y))
  where
    go : Dec (class_of heads i ≡ class_of heads y) → class_of heads (class_of (join heads (x, y)) i) ≡ class_of (join heads (x, y)) i
    go (yes z) = rw (join_second heads x y i (in_list p i h) z) (p.own x hx)
    go (no z) = rw (join_other heads x y i (in_list p i h) z) (p.own i h)

-- The first j pairs of arguments of nodes g and h.
abbrev pub first_pairs : List ℕ → List ℕ → ℕ → ℕ → ℕ → List (ℕ × ℕ)
first_pairs nodes arguments g h j = tabulate j (argument_pair nodes arguments g h)

-- The arguments of nodes g and h, joined one after the other.
module _ (nodes arguments counts : List ℕ) (g h : ℕ) where
  module _ (heads next : List ℕ) where
    -- no pair is joined yet
    pub arguments_none : (a b : ℕ) (new : List (ℕ × ℕ)) (bs nextb : List ℕ) → Trades nodes arguments counts bs nextb a b new heads next →
        Advances nodes arguments counts heads next (first_pairs nodes arguments g h 0) heads next
    unfolding tabulate
    arguments_none a b new bs nextb t =
        record {
          partition = t.partition;
          merges = none;
          fewer = omega arith;
          stay = t.partition.own;
          kept = λ i m. refl;
          done = λ ps todo c. c;
        }

    module _ (j : ℕ) (heads' next' : List ℕ) (v : Advances nodes arguments counts heads next (first_pairs nodes arguments g h j) heads' next')
        (a b : ℕ) (fine : Bool) (heads'' next'' : List ℕ) (d : a ≡ argument_of nodes arguments g j) (e : b ≡ argument_of nodes arguments h j)
        (w : Joins nodes arguments counts heads' next' a b fine heads'' next'') where
      -- the pair that comes next
      next_waits : (ps todo : List (ℕ × ℕ)) → ClosureUpTo (nodes_from nodes arguments) ps heads (first_pairs nodes arguments g h (j + 1) ++ todo) →
          ClosureUpTo (nodes_from nodes arguments) ps heads' ((a, b) ∷ todo)
      unfolding tabulate argument_pair
      next_waits ps todo c = v.done ps ((a, b) ∷ todo) (rw (d, e) (rw (append_assoc (first_pairs nodes arguments g h j)) at (rw (add-one j) at c)))

      -- one pair more
      pub arguments_next : fine ≡ true → Advances nodes arguments counts heads next (first_pairs nodes arguments g h (j + 1)) heads'' next''
      arguments_next t =
          let p = v.fewer in
          let q = w.fewer in
          record {
            partition = w.partition;
            merges = merges_on v.merges w.merges;
            fewer = omega (arith, p, q);
            stay = heads_on (node_count nodes) heads heads' heads'' w.partition v.stay w.stay;
            kept = λ i k. w.kept i k ∙ v.kept i k;
            done = λ ps todo c. w.done t ps todo (next_waits ps todo c);
          }

      -- a pair clashes
      arguments_clash : fine ≡ false → (ps todo : List (ℕ × ℕ)) → j < count_of nodes g →
          ClosureUpTo (nodes_from nodes arguments) ps heads (argument_pairs nodes arguments g h ++ todo) → Clash (nodes_from nodes arguments) ps
      unfolding argument_pairs
      arguments_clash t ps todo l c =
          w.clashes t ps (argument_pairs nodes arguments g h ++ todo)
          (next_waits ps (argument_pairs nodes arguments g h ++ todo)
          (retold (nodes_from nodes arguments) ps heads (argument_pairs nodes arguments g h ++ todo)
          (first_pairs nodes arguments g h (j + 1) ++ (argument_pairs nodes arguments g h ++ todo))
          (λ ds u v x y m. v x y (Memᴰ.append_right (first_pairs nodes arguments g h (j + 1)) m)) wanted_all c))
        where
          first_among : (p : ℕ × ℕ) → Memᴰ p (first_pairs nodes arguments g h (j + 1)) → Memᴰ p (argument_pairs nodes arguments g h)
          first_among p m =
              let r = tabulate_from (j + 1) (argument_pair nodes arguments g h) p m in
              rw r.2 (tabulate_member (count_of nodes g) (argument_pair nodes arguments g h) r.0 (let k = r.1 in omega (arith, k)))

          wanted_all : Wanted (nodes_from nodes arguments) ps
              (first_pairs nodes arguments g h (j + 1) ++ (argument_pairs nodes arguments g h ++ todo))
          wanted_all x y m = go (Memᴰ.append_cases (first_pairs nodes arguments g h (j + 1)) m)
            where
              go : Memᴰ (x, y) (first_pairs nodes arguments g h (j + 1)) ⊎ Memᴰ (x, y) (argument_pairs nodes arguments g h ++ todo) →
                  Joined (nodes_from nodes arguments) ps x y
              go (inl q) = c.wanted x y (Memᴰ.append_left todo (first_among (x, y) q))
              go (inr q) = c.wanted x y q

module _ {nodes arguments counts heads next : List ℕ} {a b : ℕ} where
  -- a pair that is joined at once
  pub joined_at_once : {heads' next' : List ℕ} → Joins nodes arguments counts heads next a b true heads' next' →
      JoinsAtOnce nodes arguments counts heads next a b true heads' next'
  joined_at_once w = record { joins = λ e. w; same = λ e. absurd (false≢true (sym e)) }

  -- one that is not
  pub left_at_once : JoinsAtOnce nodes arguments counts heads next a b false heads next
  left_at_once = record { joins = λ e. absurd (false≢true e); same = λ e. (refl, refl) }

  -- the pair is joined, by whatever means, and the classes are told by other names
  pub joined_to : {fine : Bool} {heads' next' heads'' next'' : List ℕ} → Joins nodes arguments counts heads next a b fine heads' next' →
      fine ≡ true → heads'' ≡ heads' → next'' ≡ next' → Joins nodes arguments counts heads next a b true heads'' next''
  joined_to w r d e = rw (d, e, sym r) w

  -- joining leaves as many heads, and as many links
  pub joins_long : {fine : Bool} {heads' next' : List ℕ} → Joinable nodes arguments counts heads next →
      Joins nodes arguments counts heads next a b fine heads' next' → (length heads' ≡ length heads) × (length next' ≡ length next)
  joins_long j w =
      (w.partition.size ∙ sym j.partition.size, (merges_trailed j.trailed w.merges).size ∙ sym j.trailed.size)

  module _ {r : Bool} {heads' next' : List ℕ} (z : JoinsAtOnce nodes arguments counts heads next a b r heads' next') (e : r ≡ false) where
    -- a pair that was not joined at once can be joined yet
    pub joinable_left : Joinable nodes arguments counts heads next → Joinable nodes arguments counts heads' next'
    joinable_left j = rw ((z.same e).0, (z.same e).1) j

    -- there are as many classes as before
    pub roots_left : roots (node_count nodes) heads' ≡ roots (node_count nodes) heads
    roots_left = ap (roots (node_count nodes)) (z.same e).0

    -- and joining it then comes to the same
    pub joins_left : {fine : Bool} {heads'' next'' : List ℕ} → Joins nodes arguments counts heads' next' a b fine heads'' next'' →
        Joins nodes arguments counts heads next a b fine heads'' next''
    joins_left w = rw (sym (z.same e).0, sym (z.same e).1) w

-- Nodes x and y are nodes a and b, in one order or the other.
data Either (a b : ℕ) : ℕ → ℕ → Type 0 where
  straight : Either a b a b
  swapped : Either a b b a

-- the other way round
either_back : {a b x y : ℕ} → Either a b x y → Either x y a b
either_back straight = straight
either_back swapped = swapped

-- what holds of both
either_both : (P : ℕ → Type 0) {a b x y : ℕ} → Either a b x y → P a → P b → P x × P y
either_both P straight p q = (p, q)
either_both P swapped p q = (q, p)

-- what holds of one of them
either_one : (P : ℕ → Type 0) {a b x y : ℕ} → Either a b x y → P a ⊎ P b → P x ⊎ P y
either_one P straight r = r
either_one P swapped (inl p) = inr p
either_one P swapped (inr q) = inl q

-- what holds between them either way
either_between : (R : ℕ → ℕ → Type 0) → ((i j : ℕ) → R i j → R j i) → {a b x y : ℕ} → Either a b x y → R a b → R x y
either_between R f straight r = r
either_between R f {a} {b} swapped r = f a b r

-- Nodes a and b of different classes.
pub record Meeting (nodes arguments counts heads next : List ℕ) (a b : ℕ) : Type 0 where
  pub joinable : Joinable nodes arguments counts heads next
  pub first : a < node_count nodes
  pub second : b < node_count nodes
  pub apart : class_of heads a ≡ class_of heads b → ⊥

-- Their heads are applications of one symbol, not both closed.
pub record OneSymbolHeads (nodes arguments counts heads : List ℕ) (a b : ℕ) : Type 0 where
  pub first_applied : kind_of nodes (class_of heads a) ≡ 0 → ⊥
  pub second_applied : kind_of nodes (class_of heads b) ≡ 0 → ⊥
  pub one_symbol : symbol_test nodes (class_of heads a) (class_of heads b) ≡ true
  pub not_both : IsClosed nodes counts (class_of heads a) → IsClosed nodes counts (class_of heads b) → ⊥

-- the two nodes are of one class
pub join_already : {nodes arguments counts heads next : List ℕ} (a b : ℕ) → Joinable nodes arguments counts heads next → a < node_count nodes →
    b < node_count nodes → class_of heads a ≡ class_of heads b → Joins nodes arguments counts heads next a b true heads next
join_already {nodes} {arguments} {counts} {heads} {next} a b w ha hb e =
    record {
      partition = w.partition;
      merges = none;
      fewer = omega arith;
      stay = w.partition.own;
      kept = λ i m. refl;
      done = λ t ps todo c. already (nodes_from nodes arguments) ps heads a b todo (in_list w.partition a ha) (in_list w.partition b hb) e c;
      clashes = λ t. absurd (false≢true (sym t));
    }

module _ {nodes arguments counts heads next : List ℕ} {a b : ℕ} (m : Meeting nodes arguments counts heads next a b) where
  -- The nodes.
  abbrev ns : List Node
  ns = nodes_from nodes arguments

  -- The classes are a partition.
  abbrev partition : Partition (node_count nodes) heads
  partition = m.joinable.partition

  -- the heads are nodes
  pub meeting_inside : (class_of heads a < node_count nodes) × (class_of heads b < node_count nodes)
  meeting_inside = (partition.below a m.first, partition.below b m.second)

  -- they are two heads
  pub meeting_heads : TwoHeads (length heads) heads next (class_of heads a) (class_of heads b)
  meeting_heads =
      rw partition.size (record {
        partition = partition;
        circles = m.joinable.trailed.circles;
        first = meeting_inside.0;
        second = meeting_inside.1;
        first_own = partition.own a m.first;
        second_own = partition.own b m.second;
        apart = m.apart;
      })

  -- and can be undone from
  pub meeting_trailed : Trailed (length heads) heads next
  meeting_trailed = rw partition.size m.joinable.trailed

  -- there are as many nodes as heads of them
  same_long : length heads ≡ length ns
  same_long = partition.size ∙ sym (nodes_long nodes arguments)

  module _ (ps todo : List (ℕ × ℕ)) (c : ClosureUpTo ns ps heads ((a, b) ∷ todo)) where
    -- the two nodes are joined
    pair_joined : Joined ns ps a b
    pair_joined = c.wanted a b (Memᴰ.head refl)

    -- so are their heads
    heads_joined : Joined ns ps (class_of heads a) (class_of heads b)
    heads_joined =
        on (on (back (c.joined a (is_node nodes arguments a m.first))) pair_joined) (c.joined b (is_node nodes arguments b m.second))

  -- no classes are changed where the heads clash
  refused : ((ps todo : List (ℕ × ℕ)) → ClosureUpTo ns ps heads ((a, b) ∷ todo) → Clash ns ps) →
      Joins nodes arguments counts heads next a b false heads next
  refused f =
      record {
        partition = partition;
        merges = none;
        fewer = omega arith;
        stay = partition.own;
        kept = λ i m. refl;
        done = λ t. absurd (false≢true t);
        clashes = λ t. f;
      }

  -- heads of different symbols
  join_differ : (kind_of nodes (class_of heads a) ≡ 0 → ⊥) → (kind_of nodes (class_of heads b) ≡ 0 → ⊥) →
      symbol_test nodes (class_of heads a) (class_of heads b) ≡ false → Joins nodes arguments counts heads next a b false heads next
  join_differ ka kb e =
      refused (λ ps todo c.
      heads_clash ns ps heads a b todo (is_node nodes arguments a m.first) (is_node nodes arguments b m.second) _ _ _ _
      (application_from nodes arguments (class_of heads a) meeting_inside.0 ka)
      (application_from nodes arguments (class_of heads b) meeting_inside.1 kb)
      (symbols_differ nodes arguments m.joinable.sections (class_of heads a) (class_of heads b) meeting_inside.0 meeting_inside.1 e)
      c)

  -- heads that are closed applications: of one term they would be of one class
  join_closed : IsClosed nodes counts (class_of heads a) → IsClosed nodes counts (class_of heads b) →
      Joins nodes arguments counts heads next a b false heads next
  join_closed p q =
      refused
      (λ ps todo c. go (closed_joined nodes arguments counts m.joinable.sections m.joinable.counts_right ps (class_of heads a) (class_of heads b) p q
      (heads_joined ps todo c)))
    where
      go : {ps : List (ℕ × ℕ)} → Clash ns ps ⊎ SameTerm nodes arguments (class_of heads a) (class_of heads b) → Clash ns ps
      go (inl c) = c
      go (inr e) =
          absurd
          (m.apart (sym (partition.own a m.first) ∙ m.joinable.closed.shared (class_of heads a) (class_of heads b) p q e ∙ partition.own b m.second))

  -- heads that clash
  pub join_clash : (kind_of nodes (class_of heads a) ≡ 0 → ⊥) × (kind_of nodes (class_of heads b) ≡ 0 → ⊥) →
      (symbol_test nodes (class_of heads a) (class_of heads b) ≡ false) ⊎
      (IsClosed nodes counts (class_of heads a) × IsClosed nodes counts (class_of heads b)) →
      Joins nodes arguments counts heads next a b false heads next
  join_clash k (inl e) = join_differ k.0 k.1 e
  join_clash k (inr r) = join_closed r.0 r.1

  -- Node y's head goes and node x's stays.
  module _ (x y : ℕ) (o : Either a b x y) (ds next' : List ℕ) (z : Goes nodes counts heads next (class_of heads y) (class_of heads x) ds next') where
    -- the two are nodes
    hx : x < node_count nodes
    hx = (either_both (λ i. i < node_count nodes) o m.first m.second).0

    -- both of them
    hy : y < node_count nodes
    hy = (either_both (λ i. i < node_count nodes) o m.first m.second).1

    -- their heads differ
    two : class_of heads x ≡ class_of heads y → ⊥
    two = either_between (λ i j. class_of heads i ≡ class_of heads j → ⊥) (λ i j f e. f (sym e)) o m.apart

    -- their classes are joined
    joined_so : ds ≡ join heads (x, y)
    unfolding join
    joined_so = z.merged.renames

    -- closed applications keep their heads, where the two heads are not both closed
    keeps : (IsClosed nodes counts (class_of heads y) → IsClosed nodes counts (class_of heads x) → ⊥) → KeepsClosed nodes counts heads ds
    keeps f i k = go (ℕ_discrete (class_of heads i) (class_of heads y))
      where
        go : Dec (class_of heads i ≡ class_of heads y) → class_of ds i ≡ class_of heads i
        go (yes e) =
            let r : IsClosed nodes counts (class_of heads y) = rw (← e) (m.joinable.closed.closed i k) in
            absurd (f r (weaker_closed nodes counts (class_of heads y) (class_of heads x) (partition.below x hx) z.weaker r))
        go (no e) = rw joined_so (join_other heads x y i (in_list partition i k.node) e)

    -- the pair is done
    pair_done : (es : List ℕ) →
        ((i j : ℕ) → i < length (join heads (x, y)) → j < length (join heads (x, y)) →
        class_of (join heads (x, y)) i ≡ class_of (join heads (x, y)) j → class_of es i ≡ class_of es j) →
        class_of es a ≡ class_of es b
    pair_done es v =
        either_between (λ i j. class_of es i ≡ class_of es j) (λ i j e. sym e) (either_back o)
        (v x y (rw (join_length heads (x, y)) (in_list partition x hx)) (rw (join_length heads (x, y)) (in_list partition y hy))
        (united heads x y (in_list partition x hx) (in_list partition y hy)))

    module _ (new : List (ℕ × ℕ)) (meet : (todo : List (ℕ × ℕ)) → HeadsMeet ns heads x y (new ++ todo))
        (want : (ps : List (ℕ × ℕ)) → Joined ns ps (class_of heads a) (class_of heads b) → Wanted ns ps new) where
      -- the new pairs are joined
      wanted_after : (ps todo : List (ℕ × ℕ)) → ClosureUpTo ns ps heads ((a, b) ∷ todo) → Wanted ns ps (new ++ todo)
      wanted_after ps todo c i j k = go (Memᴰ.append_cases new k)
        where
          go : Memᴰ (i, j) new ⊎ Memᴰ (i, j) todo → Joined ns ps i j
          go (inl q) = want ps (heads_joined ps todo c) i j q
          go (inr q) = c.wanted i j (Memᴰ.tail q)

      -- the pair is traded for them
      traded : (ps todo : List (ℕ × ℕ)) → ClosureUpTo ns ps heads ((a, b) ∷ todo) → ClosureUpTo ns ps (join heads (x, y)) (new ++ todo)
      traded ps todo c =
          classes_joined ns ps heads x y ((a, b) ∷ todo) (new ++ todo) same_long (is_node nodes arguments x hx) (is_node nodes arguments y hy)
          (either_between (Joined ns ps) (λ i j q. back q) o (pair_joined ps todo c))
          (meet todo)
          (λ es v u. unites_front es a b todo (pair_done es v) (λ i j k. u i j (Memᴰ.append_right new k)))
          (wanted_after ps todo c)
          c

      -- the classes are made one
      made_one : (IsClosed nodes counts (class_of heads y) → IsClosed nodes counts (class_of heads x) → ⊥) →
          Trades nodes arguments counts heads next a b new ds next'
      made_one f =
          record {
            partition = rw joined_so (join_keeps (node_count nodes) heads x y hx hy partition);
            merges = rw partition.size at (one_merged z.merged);
            fewer = rw joined_so (join_lowers (node_count nodes) heads x y hx hy partition two);
            stay = rw joined_so (join_heads partition x y hx);
            kept = keeps f;
            trades = λ ps todo c. rw joined_so (traded ps todo c);
          }

    -- one of the heads is a variable
    variable_goes : (kind_of nodes (class_of heads a) ≡ 0) ⊎ (kind_of nodes (class_of heads b) ≡ 0) →
        Trades nodes arguments counts heads next a b [] ds next'
    variable_goes r = go (either_one (λ i. kind_of nodes (class_of heads i) ≡ 0) o r)
      where
        goes : kind_of nodes (class_of heads y) ≡ 0 → Trades nodes arguments counts heads next a b [] ds next'
        goes k =
            made_one []
            (λ todo. variable_meets ns heads x y (name_of nodes (class_of heads y)) todo
            (variable_from nodes arguments (class_of heads y) (partition.below y hy) k))
            (λ ps q i j n. absurd (Memᴰ.not-nil n)) (λ p q. p.applied k)

        go : (kind_of nodes (class_of heads x) ≡ 0) ⊎ (kind_of nodes (class_of heads y) ≡ 0) →
            Trades nodes arguments counts heads next a b [] ds next'
        go (inl k) = goes (weaker_variable nodes counts (class_of heads y) (class_of heads x) z.weaker k)
        go (inr k) = goes k

  module _ (ds next' : List ℕ)
      (u : Goes nodes counts heads next (class_of heads a) (class_of heads b) ds next' ⊎ Goes nodes counts heads next (class_of heads b)
      (class_of heads a) ds next')
    where
      -- one of the heads is a variable
      pub join_variable : (kind_of nodes (class_of heads a) ≡ 0) ⊎ (kind_of nodes (class_of heads b) ≡ 0) →
          Joins nodes arguments counts heads next a b true ds next'
      join_variable k = done (go u)
        where
          go :
              Goes nodes counts heads next (class_of heads a) (class_of heads b) ds next' ⊎ Goes nodes counts heads next (class_of heads b)
              (class_of heads a) ds next' →
              Trades nodes arguments counts heads next a b [] ds next'
          go (inl z) = variable_goes b a swapped ds next' z k
          go (inr z) = variable_goes a b straight ds next' z k

          done : Trades nodes arguments counts heads next a b [] ds next' → Joins nodes arguments counts heads next a b true ds next'
          done t =
              let f = t.fewer in
              record {
                partition = t.partition;
                merges = t.merges;
                fewer = omega (arith, f);
                stay = t.stay;
                kept = t.kept;
                done = λ e ps todo c. t.trades ps todo c;
                clashes = λ e. absurd (false≢true (sym e));
              }

  -- The heads are applications of one symbol.
  module _ (s : OneSymbolHeads nodes arguments counts heads a b) where
    -- The first head.
    abbrev g : ℕ
    g = class_of heads a

    -- The second head.
    abbrev h : ℕ
    h = class_of heads b

    -- the first is an application
    first_node : node_at ns g ≡ application (name_of nodes g) (run nodes arguments g)
    first_node = application_from nodes arguments g meeting_inside.0 s.first_applied

    -- so is the second
    second_node : node_at ns h ≡ application (name_of nodes h) (run nodes arguments h)
    second_node = application_from nodes arguments h meeting_inside.1 s.second_applied

    -- they have one name
    one_name : name_of nodes g ≡ name_of nodes h
    one_name = ((symbol_test_lem nodes g h).0 s.one_symbol).0

    -- they have as many arguments
    pub one_count : count_of nodes g ≡ count_of nodes h
    one_count = ((symbol_test_lem nodes g h).0 s.one_symbol).1

    -- they have one symbol
    same_symbol_lem : OneSymbol (name_of nodes g) (run nodes arguments g) (name_of nodes h) (run nodes arguments h)
    same_symbol_lem = (
      one_name,
      run_long nodes arguments m.joinable.sections g meeting_inside.0 ∙ one_count ∙
          sym (run_long nodes arguments m.joinable.sections h meeting_inside.1),
    )

    -- their arguments are joined in pairs
    arguments_wanted : (ps : List (ℕ × ℕ)) → Joined ns ps g h → Wanted ns ps (argument_pairs nodes arguments g h)
    arguments_wanted ps q i j k =
        by-arguments first_node second_node same_symbol_lem q
        (pairs_zip nodes arguments m.joinable.sections g h meeting_inside.0 meeting_inside.1 one_count i j k)

    -- arguments at one place are made one
    argument_link : {x y : ℕ} → Either a b x y → (es : List ℕ) → Unites es (argument_pairs nodes arguments g h) → (i j : ℕ) →
        Memᴰ (i, j) (zip (run nodes arguments (class_of heads y)) (run nodes arguments (class_of heads x))) → class_of es i ≡ class_of es j
    argument_link straight es u i j k =
        sym
        (u j i (zip_pairs nodes arguments m.joinable.sections g h meeting_inside.0 meeting_inside.1 one_count j i
        (zip_back (run nodes arguments h) (run nodes arguments g) i j k)))
    argument_link swapped es u i j k =
        u i j (zip_pairs nodes arguments m.joinable.sections g h meeting_inside.0 meeting_inside.1 one_count i j k)

    module _ (x y : ℕ) (o : Either a b x y) (ds next' : List ℕ) (z : Goes nodes counts heads next (class_of heads y) (class_of heads x) ds next')
      where
        -- the head that goes meets the one that stays
        heads_meet : (todo : List (ℕ × ℕ)) → HeadsMeet ns heads x y (argument_pairs nodes arguments g h ++ todo)
        heads_meet todo f us e =
            let l = either_both (λ i. class_of heads i < node_count nodes) o meeting_inside.0 meeting_inside.1 in
            let k = either_both (λ i. kind_of nodes (class_of heads i) ≡ 0 → ⊥) o s.first_applied s.second_applied in
            let n : name_of nodes (class_of heads x) ≡ name_of nodes (class_of heads y) =
            either_between (λ i j. name_of nodes (class_of heads i) ≡ name_of nodes (class_of heads j)) (λ i j q. sym q) o one_name in
            let c : length (run nodes arguments (class_of heads x)) ≡ length (run nodes arguments (class_of heads y)) =
            either_between (λ i j. length (run nodes arguments (class_of heads i)) ≡ length (run nodes arguments (class_of heads j)))
            (λ i j q. sym q) o same_symbol_lem.1 in
            let r = from_application nodes arguments (class_of heads y) l.1 f us e in (
              run nodes arguments (class_of heads x),
              application_from nodes arguments (class_of heads x) l.0 k.0
                  ∙ ap (λ (q : ℕ). application q (run nodes arguments (class_of heads x))) (n ∙ sym r.1),
              ap length r.2 ∙ sym c,
              λ i j q es v u. argument_link o es (λ p t w. u p t (Memᴰ.append_left todo w)) i j (rw r.2 at q),
            )

        -- the classes are made one
        applications_made_one : Trades nodes arguments counts heads next a b (argument_pairs nodes arguments g h) ds next'
        applications_made_one =
            made_one x y o ds next' z (argument_pairs nodes arguments g h) heads_meet arguments_wanted
            (λ p q. either_between (λ i j. IsClosed nodes counts (class_of heads i) → IsClosed nodes counts (class_of heads j) → ⊥)
            (λ i j f k l. f l k) o s.not_both q p)

    -- their classes are made one
    pub applications_united : (ds next' : List ℕ) → Goes nodes counts heads next g h ds next' ⊎ Goes nodes counts heads next h g ds next' →
        Trades nodes arguments counts heads next a b (argument_pairs nodes arguments g h) ds next'
    applications_united ds next' (inl z) = applications_made_one b a swapped ds next' z
    applications_united ds next' (inr z) = applications_made_one a b straight ds next' z

    module _ (ds next₁ : List ℕ) (t : Trades nodes arguments counts heads next a b (argument_pairs nodes arguments g h) ds next₁) (j : ℕ)
        (heads' next' : List ℕ) (v : Advances nodes arguments counts ds next₁ (first_pairs nodes arguments g h j) heads' next') where
      -- what joining the next pair of arguments needs
      pub joinable_on : Joinable nodes arguments counts heads' next'
      joinable_on =
          record {
            sections = m.joinable.sections;
            counts_right = m.joinable.counts_right;
            partition = v.partition;
            closed = closed_kept nodes arguments counts heads heads' m.joinable.closed (λ i k. v.kept i k ∙ t.kept i k);
            trailed = merges_trailed m.joinable.trailed (merges_on t.merges v.merges);
          }

      -- all pairs of arguments are joined
      pub join_applications : j ≡ count_of nodes g → Joins nodes arguments counts heads next a b true heads' next'
      unfolding argument_pairs
      join_applications q =
          let e = t.fewer in
          let f = v.fewer in
          record {
            partition = v.partition;
            merges = merges_on t.merges v.merges;
            fewer = omega (arith, e, f);
            stay = heads_on (node_count nodes) heads ds heads' v.partition t.stay v.stay;
            kept = λ i k. v.kept i k ∙ t.kept i k;
            done = λ r ps todo c. rw q at v.done ps todo (t.trades ps todo c);
            clashes = λ r. absurd (false≢true (sym r));
          }

      -- a pair of arguments clashes
      pub join_stopped : j < count_of nodes g → (x y : ℕ) (fine : Bool) (heads'' next'' : List ℕ) → x ≡ argument_of nodes arguments g j →
          y ≡ argument_of nodes arguments h j → fine ≡ false → Joins nodes arguments counts heads' next' x y fine heads'' next'' →
          Joins nodes arguments counts heads next a b false heads'' next''
      join_stopped l x y fine heads'' next'' dx dy r w =
          let e = t.fewer in
          let f = v.fewer in
          let k = w.fewer in
          record {
            partition = w.partition;
            merges = merges_on t.merges (merges_on v.merges w.merges);
            fewer = omega (arith, e, f, k);
            stay =
                heads_on (node_count nodes) heads ds heads'' w.partition t.stay
                (heads_on (node_count nodes) ds heads' heads'' w.partition v.stay w.stay);
            kept = λ i k. w.kept i k ∙ v.kept i k ∙ t.kept i k;
            done = λ q. absurd (false≢true q);
            clashes =
                λ q ps todo c. arguments_clash nodes arguments counts g h ds next₁ j heads' next' v x y fine heads'' next'' dx dy w r ps todo l
                (t.trades ps todo c);
          }
