-- Laws of the search that puts the heads with arguments that are looked at in order, over plain lists and numbers. A head is put behind
-- the others when the heads of its arguments are done, if arguments of theirs are looked at. Assumes nothing.
use Prim.Native.Nat.{ℕ, ◌+◌, ◌<◌, ◌≤◌, ◌-◌}
use mathlib.Core.Bool.{Bool, true, false, not, ◌&&◌, false≢true}
use mathlib.Core.List.{List}
use mathlib.Core.Path.{◌≡◌, refl, sym, ap, ◌∙◌}
use native.Mathlib.Decide.{ℕ_discrete}
use native.Mathlib.Omega.{arith}
use borrow.Author.Tests.{eqb-true, eqb-false, not-false}
use borrow.Author.Count.{below_more}
use lib.Dec.{eqb}
use lib.ListN.{length, set, take, length-set, replicate, length-replicate, get_or-replicate}
use lib.Seq.{get_or-set_same, get_or-set_other, get_or-take, length-take-le}
use Rattle.std.specs.Prelude.{Result, Ok, Err, IsOk, is_err}
use Rattle.table.specs.Limits.{max_nodes}
use Rattle.table.specs.Layout.{word, node_count, argument_of}
use Rattle.unification.specs.Computed.Classes.{class_of}
use Rattle.unification.specs.Code.Heads.{Partition, count_below}
use Rattle.unification.specs.Code.Sections.{Sections}
use Rattle.unification.proofs.CountLaws.{count_most, count_le, count_less}
use Rattle.classes.specs.declared.order.Cycle.{Cycle}
use Rattle.classes.specs.declared.order.Mark.{Mark}
use Rattle.classes.specs.declared.order.Mark.TheVariants.{New, Open, Done}
use Rattle.nodes.specs.Code.Open.{Counts, OpenListed}
use Rattle.nodes.specs.Code.Order.{Leads, next, further, Looped, Met, leaf, before, Listed, Ordered, OrderedBelow, Searched}
use Rattle.classes.specs.Code.Ordering.{mark_at, new_test, done_test, is_new, is_done, Ordering, Visiting, Later, VisitDone, Settled, Turn, Visited, Starting, Sweep}
use Rattle.classes.proofs.OrderedLaws.{looked_node}

-- a mark is one of three
new-done : {m : Mark} → m ≡ New → m ≡ Done → ⊥
new-done e d = let q : New ≡ Done = sym e ∙ d in let z : ◌≡◌ {A = ℕ} 0 1 = cc in omega arith

new-open : {m : Mark} → m ≡ New → m ≡ Open → ⊥
new-open e d = let q : New ≡ Open = sym e ∙ d in let z : ◌≡◌ {A = ℕ} 0 1 = cc in omega arith

open-done : {m : Mark} → m ≡ Open → m ≡ Done → ⊥
open-done e d = let q : Open ≡ Done = sym e ∙ d in let z : ◌≡◌ {A = ℕ} 0 1 = cc in omega arith

-- the test for one that is done
tested-done : (m : Mark) → done_test m ≡ true → m ≡ Done
tested-done New e = absurd (false≢true e)
tested-done Open e = absurd (false≢true e)
tested-done Done e = refl

not-done : (m : Mark) → (m ≡ Done → ⊥) → done_test m ≡ false
not-done New d = refl
not-done Open d = refl
not-done Done d = absurd (d refl)

-- the test for one that is new
tested-new : (m : Mark) → new_test m ≡ true → m ≡ New
tested-new New e = refl
tested-new Open e = absurd (false≢true e)
tested-new Done e = absurd (false≢true e)

not-new : (m : Mark) → (m ≡ New → ⊥) → new_test m ≡ false
not-new New d = absurd (d refl)
not-new Open d = refl
not-new Done d = refl

-- A place of a list of marks in which place i is written.
data Written (l : List Mark) (i : ℕ) (a : Mark) (k : ℕ) : Type 0 where
  here : k ≡ i → mark_at (set l i a) k ≡ a → Written l i a k
  other : (k ≡ i → ⊥) → mark_at (set l i a) k ≡ mark_at l k → Written l i a k

-- each place is one or the other
written : (l : List Mark) (i : ℕ) (a : Mark) (k : ℕ) → i < length l → Written l i a k
written l i a k h = go (ℕ_discrete k i)
  where
    go : Dec (k ≡ i) → Written l i a k
    go (yes e) = here e (ap (λ (m : ℕ). mark_at (set l i a) m) e ∙ get_or-set_same l i a New h)
    go (no d) = other d (get_or-set_other l i k a New d)

-- the head of an argument is a node
pub argument_head : (nodes arguments heads : List ℕ) (h j a r : ℕ) → Partition (node_count nodes) heads → h < node_count nodes →
    a ≡ argument_of nodes arguments h j → a < h → r ≡ word heads a → (r ≡ class_of heads (argument_of nodes arguments h j)) × (r < node_count nodes)
argument_head nodes arguments heads h j a r p l e s q =
    let e' : r ≡ class_of heads (argument_of nodes arguments h j) = q ∙ ap (λ (k : ℕ). class_of heads k) e in
    let b = p.below a (omega arith) in
    (e', omega (arith, b, q))

-- the head of a node is a node
pub head_inside : {n : ℕ} {heads : List ℕ} {a h : ℕ} → Partition n heads → a < n → h ≡ class_of heads a → h < n
head_inside {a = a} p l e =
    let b = p.below a l in
    omega (arith, b, e)

-- no node is visited
later_same : (n : ℕ) (marks : List Mark) → Later n marks marks
later_same n marks = record { kept = λ k l d. refl; none_opened = λ k l e. e }

-- one visit after another
later_on : {n : ℕ} {marks after then : List Mark} → Later n marks after → Later n after then → Later n marks then
later_on {n} {marks} {after} {then} p q =
    record {
      kept = λ k l d. let e : mark_at after k ≡ mark_at marks k = p.kept k l d in q.kept k l (λ z. d (sym e ∙ z)) ∙ e;
      none_opened = λ k l e. p.none_opened k l (q.none_opened k l e);
    }

-- one more of the nodes that are to be visited is done, if arguments of it are looked at
settled_next : {n : ℕ} (due : ℕ → ℕ) {marks later : List Mark} (node : ℕ → ℕ) (j h : ℕ) → h ≡ node j → Settled due later h → Later n marks later →
    ((i : ℕ) → i < j → node i < n) → ((i : ℕ) → i < j → Settled due marks (node i)) → (i : ℕ) → i < j + 1 → Settled due later (node i)
settled_next due {marks} {later} node j h e z l below passed =
    below_more (λ i. Settled due later (node i)) j kept (rw (← e) z)
  where
    kept : (i : ℕ) → i < j → Settled due later (node i)
    kept i b a =
        let y : mark_at marks (node i) ≡ Done = passed i b a in
        l.kept (node i) (below i b) (λ x. new-done x y) ∙ y

-- arguments of a node that is due are looked at
pub due_some : (due : ℕ → ℕ) (marks : List Mark) (g : ℕ) (x : Bool) → x ≡ not (is_done marks g) && not (eqb (due g) 0) → x ≡ true → 0 < due g
due_some due marks g x e t = go (is_done marks g) (eqb (due g) 0) refl (sym e ∙ t)
  where
    go : (a b : Bool) → eqb (due g) 0 ≡ b → not a && not b ≡ true → 0 < due g
    go true b q z = absurd (false≢true z)
    go false true q z = absurd (false≢true z)
    go false false q z = let d : due g ≡ 0 → ⊥ = eqb-false _ _ q in omega arith

-- any other node is done, if arguments of it are looked at
pub not_due : (due : ℕ → ℕ) (marks : List Mark) (g : ℕ) (x : Bool) → x ≡ not (is_done marks g) && not (eqb (due g) 0) → x ≡ false →
    Settled due marks g
unfolding is_done
not_due due marks g x e t a = go (mark_at marks g) refl (sym e ∙ t)
  where
    go : (m : Mark) → mark_at marks g ≡ m → not (done_test m) && not (eqb (due g) 0) ≡ false → mark_at marks g ≡ Done
    go Done q z = q
    go New q z = absurd (let y : due g ≡ 0 = eqb-true _ _ (not-false _ z) in omega (arith, y))
    go Open q z = absurd (let y : due g ≡ 0 = eqb-true _ _ (not-false _ z) in omega (arith, y))

-- a node that is not done is not listed
other_listed : {nodes arguments heads order : List ℕ} {marks : List Mark} {due : ℕ → ℕ} {count h : ℕ} →
    Ordering nodes arguments due heads marks order count → (mark_at marks h ≡ Done → ⊥) → (p : ℕ) → p < count → word order p ≡ h → ⊥
other_listed {marks = marks} o d p l q = d (ap (λ (k : ℕ). mark_at marks k) (sym q) ∙ (o.listed p l).1)

-- a node that is done, if arguments of it are looked at, is met
settled_met : {nodes arguments heads order : List ℕ} {marks : List Mark} {due : ℕ → ℕ} {count g : ℕ} → Ordering nodes arguments due heads marks order count →
    g < node_count nodes → Settled due marks g → Met due order count g
settled_met {order = order} {due} {count} {g} o l s = go (ℕ_discrete (due g) 0)
  where
    go : Dec (due g ≡ 0) → Met due order count g
    go (yes e) = leaf e
    go (no d) = let f = o.done g l (s (omega arith)) in before f.0 f.1 f.2

-- A node that is not done is put behind the others.
module _ {nodes arguments heads order : List ℕ} {marks : List Mark} {due : ℕ → ℕ} {count h : ℕ} (o : Ordering nodes arguments due heads marks order count)
    (node : h < node_count nodes) (not_done : mark_at marks h ≡ Done → ⊥) where
  within : h < length marks
  within = rw o.marks_size node

  -- the order has a place left
  room_left : count < length order
  unfolding is_done
  room_left =
      let every : ℕ → Bool = λ k. true in
      let a = count_less every (is_done marks) (node_count nodes) (λ k l e. refl) h node refl (not-done (mark_at marks h) not_done) in
      let b = count_most (node_count nodes) every in
      let r = o.room in
      let s = o.order_size in
      omega (arith, a, b, r, s)

  -- earlier places stay
  stays : (p : ℕ) → p < count → word (set order count h) p ≡ word order p
  stays p l = get_or-set_other order count p h 0 (λ z. omega (arith, z, l))

  newest : word (set order count h) count ≡ h
  newest = get_or-set_same order count h 0 room_left

  behind_listed : (p : ℕ) → p < count + 1 → (word (set order count h) p < node_count nodes) × (mark_at (set marks h Done) (word (set order count h) p) ≡ Done)
  behind_listed =
      below_more (λ p. (word (set order count h) p < node_count nodes) × (mark_at (set marks h Done) (word (set order count h) p) ≡ Done)) count
      (λ p b. rw (stays p b) ((o.listed p b).0, get_or-set_other marks h (word order p) Done New (other_listed o not_done p b) ∙ (o.listed p b).1))
      (rw newest (node, get_or-set_same marks h Done New within))

  behind_compound : 0 < due h → (p : ℕ) → p < count + 1 → 0 < due (word (set order count h) p)
  behind_compound a =
      below_more (λ p. 0 < due (word (set order count h) p)) count (λ p b. rw (stays p b) (o.compound p b)) (rw newest a)

  behind_once : (p q : ℕ) → p < q → q < count + 1 → word (set order count h) p ≡ word (set order count h) q → ⊥
  behind_once p q l m e = go (ℕ_discrete q count)
    where
      b : p < count
      b = omega arith

      go : Dec (q ≡ count) → ⊥
      go (yes z) =
          other_listed o not_done p b (sym (stays p b) ∙ e ∙ ap (λ (k : ℕ). word (set order count h) k) z ∙ newest)
      go (no d) =
          let c : q < count = omega arith in
          o.once p q l c (sym (stays p b) ∙ e ∙ stays q c)

  -- what is met stays so
  still_met : (p : ℕ) → p ≤ count → (g : ℕ) → Met due order p g → Met due (set order count h) p g
  still_met p l g (leaf e) = leaf e
  still_met p l g (before q b e) = before q b (stays q (omega arith) ∙ e)

  -- so is a node that is done, if arguments of it are looked at
  argument_met : (g : ℕ) → g < node_count nodes → Settled due marks g → Met due (set order count h) count g
  argument_met g l s = still_met count (omega arith) g (settled_met o l s)

  behind_first : ((i : ℕ) → i < due h → class_of heads (argument_of nodes arguments h i) < node_count nodes) →
      ((i : ℕ) → i < due h → Settled due marks (class_of heads (argument_of nodes arguments h i))) → (p : ℕ) → p < count + 1 → (j : ℕ) →
      j < due (word (set order count h) p) →
      Met due (set order count h) p (class_of heads (argument_of nodes arguments (word (set order count h) p) j))
  behind_first below settled =
      below_more
      (λ p. (j : ℕ) → j < due (word (set order count h) p) →
      Met due (set order count h) p (class_of heads (argument_of nodes arguments (word (set order count h) p) j)))
      count
      (λ p b. rw (stays p b) (λ j m. still_met p (omega arith) _ (o.first p b j m)))
      (rw newest (λ j m. argument_met _ (below j m) (settled j m)))

  behind_done : (k : ℕ) → k < node_count nodes → mark_at (set marks h Done) k ≡ Done → (p : ℕ) × (p < count + 1) × (word (set order count h) p ≡ k)
  behind_done k l e = go (written marks h Done k within)
    where
      go : Written marks h Done k → (p : ℕ) × (p < count + 1) × (word (set order count h) p ≡ k)
      go (here q w) = (count, omega arith, newest ∙ sym q)
      go (other d w) =
          let f = o.done k l (sym w ∙ e) in
          (f.0, omega (arith, f.1), stays f.0 f.1 ∙ f.2)

  -- what is done stays so
  still_done : (k : ℕ) → mark_at marks k ≡ Done → mark_at (set marks h Done) k ≡ Done
  still_done k e = go (written marks h Done k within)
    where
      go : Written marks h Done k → mark_at (set marks h Done) k ≡ Done
      go (here q w) = w
      go (other d w) = w ∙ e

  behind_room : count + 1 ≤ count_below (node_count nodes) (is_done (set marks h Done))
  unfolding is_done
  behind_room =
      let r = o.room in
      let l = count_less (is_done (set marks h Done)) (is_done marks) (node_count nodes) (λ k b e. ap done_test (still_done k (tested-done _ e))) h node
      (ap done_test (get_or-set_same marks h Done New within)) (not-done (mark_at marks h) not_done) in
      omega (arith, r, l)

  -- it is listed, where the heads of its arguments are
  put_behind : 0 < due h → ((i : ℕ) → i < due h → class_of heads (argument_of nodes arguments h i) < node_count nodes) →
      ((i : ℕ) → i < due h → Settled due marks (class_of heads (argument_of nodes arguments h i))) →
      Ordering nodes arguments due heads (set marks h Done) (set order count h) (count + 1)
  put_behind some below settled =
      record {
        marks_size = length-set marks h Done ∙ o.marks_size;
        order_size = length-set order count h ∙ o.order_size;
        listed = behind_listed;
        compound = behind_compound some;
        once = behind_once;
        first = behind_first below settled;
        done = behind_done;
        room = behind_room;
      }

-- A new node is opened.
module _ {nodes arguments heads order : List ℕ} {marks : List Mark} {due : ℕ → ℕ} {count h : ℕ} (o : Ordering nodes arguments due heads marks order count)
    (node : h < node_count nodes) (new : mark_at marks h ≡ New) where
  inside : h < length marks
  inside = rw o.marks_size node

  opened_listed : (p : ℕ) → p < count → (word order p < node_count nodes) × (mark_at (set marks h Open) (word order p) ≡ Done)
  opened_listed p l =
      ((o.listed p l).0, get_or-set_other marks h (word order p) Open New (other_listed o (λ z. new-done new z) p l) ∙ (o.listed p l).1)

  opened_done : (k : ℕ) → k < node_count nodes → mark_at (set marks h Open) k ≡ Done → (p : ℕ) × (p < count) × (word order p ≡ k)
  opened_done k l e = go (written marks h Open k inside)
    where
      go : Written marks h Open k → (p : ℕ) × (p < count) × (word order p ≡ k)
      go (here q w) = absurd (open-done w e)
      go (other d w) = o.done k l (sym w ∙ e)

  opened_room : count ≤ count_below (node_count nodes) (is_done (set marks h Open))
  unfolding is_done
  opened_room =
      let r = o.room in
      let l = count_le (is_done (set marks h Open)) (is_done marks) (node_count nodes) still in
      omega (arith, r, l)
    where
      still : (k : ℕ) → k < node_count nodes → is_done marks k ≡ true → is_done (set marks h Open) k ≡ true
      still k l t = go (written marks h Open k inside)
        where
          e : mark_at marks k ≡ Done
          e = tested-done _ t

          go : Written marks h Open k → is_done (set marks h Open) k ≡ true
          go (here q w) = absurd (new-done new (ap (λ (m : ℕ). mark_at marks m) (sym q) ∙ e))
          go (other d w) = ap done_test (w ∙ e)

  -- it is open, and none of its arguments is visited
  pub opened : Turn nodes arguments due heads (set marks h Open) h (set marks h Open) order count 0
  opened =
      record {
        ordering = record {
          marks_size = length-set marks h Open ∙ o.marks_size;
          order_size = o.order_size;
          listed = opened_listed;
          compound = o.compound;
          once = o.once;
          first = o.first;
          done = opened_done;
          room = opened_room;
        };
        later = later_same _ _;
        settled = λ i l. absurd (omega arith);
      }

-- A node that was new is open, and argument j of it is to be visited.
module _ {nodes arguments counts heads order : List ℕ} {marks : List Mark} {count h : ℕ} (v : Visiting nodes arguments counts heads marks order count h)
    (new : mark_at marks h ≡ New) {after : List Mark} {then : List ℕ} {now j : ℕ} (t : Turn nodes arguments (word counts) heads (set marks h Open) h after then now j)
  where
    there : h < length marks
    there = rw v.ordering.marks_size v.node

    -- it stays open
    still_open : mark_at after h ≡ Open
    still_open =
        let e : mark_at (set marks h Open) h ≡ Open = get_or-set_same marks h Open New there in
        t.later.kept h v.node (λ z. new-open z e) ∙ e

    -- what is not new stays so
    was_new : (k : ℕ) → k < node_count nodes → mark_at after k ≡ New → mark_at marks k ≡ New
    was_new k l e = go (mark_at marks k) refl
      where
        no_other : Written marks h Open k → (mark_at marks k ≡ New → ⊥) → ⊥
        no_other (here q w) d = d (ap (λ (m : ℕ). mark_at marks m) q ∙ new)
        no_other (other q w) d = d (sym w ∙ sym (t.later.kept k l (λ z. d (sym w ∙ z))) ∙ e)

        go : (m : Mark) → mark_at marks k ≡ m → mark_at marks k ≡ New
        go New q = q
        go Open q = absurd (no_other (written marks h Open k there) (λ z. new-open z q))
        go Done q = absurd (no_other (written marks h Open k there) (λ z. new-done z q))

    -- fewer nodes are new
    pub fewer : count_below (node_count nodes) (is_new after) < count_below (node_count nodes) (is_new marks)
    unfolding is_new
    fewer =
        count_less (is_new marks) (is_new after) (node_count nodes) (λ k l e. ap new_test (was_new k l (tested-new _ e))) h v.node (ap new_test new)
        (not-new (mark_at after h) (λ z. new-open z still_open))

    -- every open node leads to the head of its argument
    pub visit_next : (g : ℕ) → j < word counts h → g ≡ class_of heads (argument_of nodes arguments h j) → g < node_count nodes → 0 < word counts g →
        Visiting nodes arguments counts heads after then now g
    visit_next g l e i a =
        record {
          sections = v.sections;
          counts_right = v.counts_right;
          partition = v.partition;
          ordering = t.ordering;
          node = i;
          compound = a;
          leads = leads_on;
        }
      where
        step : Leads nodes arguments (word counts) heads h g
        step = next j v.node l (sym e)

        leads_on : (k : ℕ) → k < node_count nodes → mark_at after k ≡ Open → Leads nodes arguments (word counts) heads k g
        leads_on k q z = go (written marks h Open k there)
          where
            go : Written marks h Open k → Leads nodes arguments (word counts) heads k g
            go (here d w) = rw d step
            go (other d w) = further (v.leads k q (sym w ∙ t.later.none_opened k q z)) step

    -- the heads of its arguments are nodes
    head_node : (i : ℕ) → i < word counts h → class_of heads (argument_of nodes arguments h i) < node_count nodes
    head_node i l = v.partition.below _ (looked_node nodes arguments v.sections counts v.counts_right h i v.node l)

    -- the head of argument j is done, if arguments of it are looked at
    turn_on : (g : ℕ) → j < word counts h → g ≡ class_of heads (argument_of nodes arguments h j) → (later : List Mark) (order' : List ℕ) (c : ℕ) →
        Ordering nodes arguments (word counts) heads later order' c → Later (node_count nodes) after later → Settled (word counts) later g →
        Turn nodes arguments (word counts) heads (set marks h Open) h later order' c (j + 1)
    turn_on g b e later order' c o l s =
        record {
          ordering = o;
          later = later_on t.later l;
          settled =
              settled_next (word counts) (λ i. class_of heads (argument_of nodes arguments h i)) j g e s l (λ i z. head_node i (omega arith))
              t.settled;
        }

    -- it is not due
    pub turned_over : (g : ℕ) → j < word counts h → g ≡ class_of heads (argument_of nodes arguments h j) → Settled (word counts) after g →
        {later : List Mark} {order' : List ℕ} {c : ℕ} → later ≡ after → order' ≡ then → c ≡ now →
        Turn nodes arguments (word counts) heads (set marks h Open) h later order' c (j + 1)
    turned_over g b e s x y z = rw (x, y, z) (turn_on g b e after then now t.ordering (later_same _ _) s)

    -- it is visited
    pub turned : (g : ℕ) → j < word counts h → g ≡ class_of heads (argument_of nodes arguments h j) → (passed : List Mark) (placed : List ℕ) (n : ℕ) →
        VisitDone nodes arguments (word counts) heads after g passed placed n → {later : List Mark} {order' : List ℕ} {c : ℕ} → later ≡ passed →
        order' ≡ placed → c ≡ n → Turn nodes arguments (word counts) heads (set marks h Open) h later order' c (j + 1)
    turned g b e passed placed n p x y z = rw (x, y, z) (turn_on g b e passed placed n p.ordering p.later (λ a. p.passed))

    -- Every argument is visited: the node is put into the order.
    module _ (whole : word counts h ≤ j) where
      o : Ordering nodes arguments (word counts) heads after then now
      o = t.ordering

      not_done : mark_at after h ≡ Done → ⊥
      not_done e = open-done still_open e

      -- the order has a place left
      pub place_left : now < length then
      place_left = room_left o v.node not_done

      finished_kept : (k : ℕ) → k < node_count nodes → (mark_at marks k ≡ New → ⊥) → mark_at (set after h Done) k ≡ mark_at marks k
      finished_kept k l d = go (written marks h Open k there)
        where
          go : Written marks h Open k → mark_at (set after h Done) k ≡ mark_at marks k
          go (here q w) = absurd (d (ap (λ (m : ℕ). mark_at marks m) q ∙ new))
          go (other q w) = get_or-set_other after h k Done New q ∙ t.later.kept k l (λ z. d (sym w ∙ z)) ∙ w

      finished_opened : (k : ℕ) → k < node_count nodes → mark_at (set after h Done) k ≡ Open → mark_at marks k ≡ Open
      finished_opened k l e = go (written after h Done k (within o v.node not_done))
        where
          go : Written after h Done k → mark_at marks k ≡ Open
          go (here q w) = absurd (open-done e w)
          go (other d w) = sym (get_or-set_other marks h k Open New d) ∙ t.later.none_opened k l (sym w ∙ e)

      -- the node is done
      pub finished : VisitDone nodes arguments (word counts) heads marks h (set after h Done) (set then now h) (now + 1)
      finished =
          record {
            ordering = put_behind o v.node not_done v.compound head_node (λ i l. t.settled i (omega arith));
            passed = get_or-set_same after h Done New (within o v.node not_done);
            later = record { kept = finished_kept; none_opened = finished_opened };
          }

-- What the mark of a node says before its visit.
module _ {nodes arguments counts heads order : List ℕ} {marks : List Mark} {count h : ℕ} (v : Visiting nodes arguments counts heads marks order count h) where
  -- it stands in the order
  pub met_done : mark_at marks h ≡ Done → VisitDone nodes arguments (word counts) heads marks h marks order count
  met_done e = record { ordering = v.ordering; passed = e; later = later_same _ _ }

  -- it leads to itself
  pub met_open : mark_at marks h ≡ Open → Looped nodes arguments (word counts) heads
  met_open e = (h, v.node, v.leads h v.node e)

-- where no node leads to itself a visit ends with no cycle
pub visited_ok : (nodes arguments : List ℕ) (due : ℕ → ℕ) (heads : List ℕ) (marks : List Mark) (h : ℕ) (r : Result ℕ Cycle) (later : List Mark)
    (order : List ℕ) → (Looped nodes arguments due heads → ⊥) → Visited nodes arguments due heads marks h r later order → IsOk r
visited_ok nodes arguments due heads marks h (Ok c) later order n v = refl
visited_ok nodes arguments due heads marks h (Err e) later order n v = absurd (n v)

-- with new marks nothing is listed
ordering_none : {nodes arguments heads order : List ℕ} {marks : List Mark} {due : ℕ → ℕ} → Starting (node_count nodes) marks order →
    Ordering nodes arguments due heads marks order 0
ordering_none s =
    record {
      marks_size = s.marks_size;
      order_size = s.order_size;
      listed = λ p l. absurd (omega arith);
      compound = λ p l. absurd (omega arith);
      once = λ p q l m e. absurd (omega arith);
      first = λ p l. absurd (omega arith);
      done = λ k l e. absurd (new-done (s.new k l) e);
      room = omega arith;
    }

-- so any node with arguments that are looked at can be visited
pub visit_first : {nodes arguments counts heads order : List ℕ} {marks : List Mark} {h : ℕ} → Sections nodes arguments →
    Counts nodes arguments counts (node_count nodes) → Partition (node_count nodes) heads → Starting (node_count nodes) marks order →
    h < node_count nodes → 0 < word counts h → Visiting nodes arguments counts heads marks order 0 h
visit_first s k p n l a =
    record {
      sections = s;
      counts_right = k;
      partition = p;
      ordering = ordering_none n;
      node = l;
      compound = a;
      leads = λ k b e. absurd (new-open (n.new k b) e);
    }

-- The first places of the order, as a list.
module _ {nodes arguments heads order : List ℕ} {marks : List Mark} {due : ℕ → ℕ} {count : ℕ} (o : Ordering nodes arguments due heads marks order count) where
  placed_most : count ≤ node_count nodes
  placed_most =
      let r = o.room in
      let t = count_most (node_count nodes) (is_done marks) in
      omega (arith, r, t)

  placed_length : length (take count order) ≡ count
  placed_length = length-take-le count order (let l = placed_most in let e = o.order_size in omega (arith, l, e))

  placed_at : (q : ℕ) → q < count → word (take count order) q ≡ word order q
  placed_at q l = get_or-take count order q 0 l

  in_place : (q : ℕ) → q < length (take count order) → q < count
  in_place q l = let e = placed_length in omega (arith, e, l)

  -- what is met in the order is met in the list
  placed_met : (p : ℕ) → p ≤ count → (g : ℕ) → Met due order p g → Met due (take count order) p g
  placed_met p l g (leaf e) = leaf e
  placed_met p l g (before q b e) = before q b (placed_at q (omega arith) ∙ e)

  -- the nodes there are listed
  placed_listed : Listed nodes arguments due heads (take count order)
  placed_listed = record { node = node_at_lem; compound = compound_at; once = once_at; first = first_at }
    where
      node_at_lem : (q : ℕ) → q < length (take count order) → word (take count order) q < node_count nodes
      node_at_lem q l = let b = in_place q l in rw (placed_at q b) (o.listed q b).0

      compound_at : (q : ℕ) → q < length (take count order) → 0 < due (word (take count order) q)
      compound_at q l = let b = in_place q l in rw (placed_at q b) (o.compound q b)

      once_at : (q r : ℕ) → q < r → r < length (take count order) → word (take count order) q ≡ word (take count order) r → ⊥
      once_at q r l t e =
          let b = in_place r t in
          let a : q < count = omega (arith, b, l) in
          o.once q r l b (sym (placed_at q a) ∙ e ∙ placed_at r b)

      first_at : (q : ℕ) → q < length (take count order) → (j : ℕ) → j < due (word (take count order) q) →
          Met due (take count order) q (class_of heads (argument_of nodes arguments (word (take count order) q) j))
      first_at q l =
          let b = in_place q l in
          rw (placed_at q b) (λ j t. placed_met q (omega (arith, b)) _ (o.first q b j t))

  -- a node that is done, if arguments of it are looked at, is met there
  placed_settled : (g : ℕ) → g < node_count nodes → Settled due marks g → Met due (take count order) (length (take count order)) g
  placed_settled g l s = rw placed_length (placed_met count (omega arith) g (settled_met o l s))

-- The node at place i of the list is looked at.
module _ {nodes arguments counts heads list order : List ℕ} {marks : List Mark} {count i : ℕ} (s : Sections nodes arguments)
    (k : Counts nodes arguments counts (node_count nodes)) (p : Partition (node_count nodes) heads) (t : OpenListed nodes counts list)
    (w : Sweep nodes arguments (word counts) heads list marks order count i) (l : i < length list) where
  -- its head is a node
  pub sweep_node : (h : ℕ) → h ≡ class_of heads (word list i) → h < node_count nodes
  sweep_node h e = head_inside p (t.node i l) e

  -- it can be visited: no node is open
  pub sweep_next : (h : ℕ) → h ≡ class_of heads (word list i) → 0 < word counts h → Visiting nodes arguments counts heads marks order count h
  sweep_next h e a =
      record {
        sections = s;
        counts_right = k;
        partition = p;
        ordering = w.ordering;
        node = sweep_node h e;
        compound = a;
        leads = λ k q z. absurd (w.none_open k q z);
      }

  -- it is done, if arguments of it are looked at
  sweep_on : (h : ℕ) → h ≡ class_of heads (word list i) → (later : List Mark) (order' : List ℕ) (c : ℕ) → Ordering nodes arguments (word counts) heads later order' c →
      Later (node_count nodes) marks later → Settled (word counts) later h → Sweep nodes arguments (word counts) heads list later order' c (i + 1)
  sweep_on h e later order' c o q z =
      record {
        ordering = o;
        none_open = λ k b y. w.none_open k b (q.none_opened k b y);
        swept =
            settled_next (word counts) (λ k. class_of heads (word list k)) i h e z q
            (λ k b. p.below (word list k) (t.node k (omega arith))) w.swept;
      }

  -- it is not due
  pub swept_over : (h : ℕ) → h ≡ class_of heads (word list i) → Settled (word counts) marks h → {later : List Mark} {order' : List ℕ} {c : ℕ} → later ≡ marks →
      order' ≡ order → c ≡ count → Sweep nodes arguments (word counts) heads list later order' c (i + 1)
  swept_over h e s x y z = rw (x, y, z) (sweep_on h e marks order count w.ordering (later_same _ _) s)

  -- it is visited
  pub swept : (h : ℕ) → h ≡ class_of heads (word list i) → (passed : List Mark) (placed : List ℕ) (n : ℕ) →
      VisitDone nodes arguments (word counts) heads marks h passed placed n → {later : List Mark} {order' : List ℕ} {c : ℕ} → later ≡ passed →
      order' ≡ placed → c ≡ n → Sweep nodes arguments (word counts) heads list later order' c (i + 1)
  swept h e passed placed n q x y z = rw (x, y, z) (sweep_on h e passed placed n q.ordering q.later (λ a. q.passed))

-- with new marks no head is visited
pub swept_none : {nodes arguments heads list order : List ℕ} {marks : List Mark} {due : ℕ → ℕ} → Starting (node_count nodes) marks order →
    Sweep nodes arguments due heads list marks order 0 0
swept_none s =
    record {
      ordering = ordering_none s;
      none_open = λ k l e. new-open (s.new k l) e;
      swept = λ k l. absurd (omega arith);
    }

-- every node of the list is looked at: the heads with arguments that are looked at stand in order
pub swept_all : {nodes arguments counts heads list order : List ℕ} {marks : List Mark} {count i : ℕ} → Partition (node_count nodes) heads →
    OpenListed nodes counts list → Sweep nodes arguments (word counts) heads list marks order count i → length list ≤ i →
    (count ≤ node_count nodes) × Ordered nodes arguments (word counts) heads (take count order)
swept_all {nodes} {counts = counts} {heads} {list} {marks} p t w a = (
  placed_most w.ordering,
  record {
    listed = placed_listed w.ordering;
    whole = λ i l. placed_settled w.ordering (class_of heads i)
        (p.below i l) (settled i l);
  },
)
  where
    -- a head with arguments that are looked at stands in the list itself
    settled : (i : ℕ) → i < node_count nodes → Settled (word counts) marks (class_of heads i)
    settled i l b =
        let f = t.whole (class_of heads i) (p.below i l) b in
        let e : class_of heads (word list f.0) ≡ class_of heads i = ap (class_of heads) f.2 ∙ p.own i l in
        rw e at (w.swept f.0 (omega (arith, f.1))) b

-- a search that ends at a cycle
pub searched_cycle : {nodes arguments heads : List ℕ} {due : ℕ → ℕ} {a : ℕ} → Looped nodes arguments due heads →
    Searched nodes arguments due heads a true
searched_cycle l = record { cycle = λ e. l; ordered = λ e. absurd (let z : ◌≡◌ {A = ℕ} 0 1 = cc in omega arith) }

-- a search that passes
pub searched_order : {nodes arguments heads : List ℕ} {due : ℕ → ℕ} {a : ℕ} → OrderedBelow nodes arguments due heads a →
    Searched nodes arguments due heads a false
searched_order o = record { cycle = λ e. absurd (let z : ◌≡◌ {A = ℕ} 0 1 = cc in omega arith); ordered = λ e. o }

-- the head of node a is visited
pub searched_visited : (nodes arguments : List ℕ) (due : ℕ → ℕ) (heads : List ℕ) (marks : List Mark) (a h : ℕ) (r : Result ℕ Cycle)
    (later : List Mark) (order : List ℕ) → h ≡ class_of heads a → h < node_count nodes →
    Visited nodes arguments due heads marks h r later order → Searched nodes arguments due heads a (is_err r)
searched_visited nodes arguments due heads marks a h (Ok c) later order e l v =
    searched_order
    (record { order = take c order; listed = placed_listed v.ordering; from = rw (← e) (placed_settled v.ordering h l (λ a. v.passed)) })
searched_visited nodes arguments due heads marks a h (Err z) later order e l v = searched_cycle v

-- with new marks the search can start
pub starting : {order : List ℕ} {total : ℕ} (n : ℕ) → length order ≡ total → n ≡ total → n ≤ max_nodes →
    Starting total (take (n - 0) (replicate max_nodes New)) order
starting {total = total} n o e l =
    record {
      marks_size =
          let z : n - 0 ≡ total = omega (arith, e) in
          length-take-le (n - 0) (replicate max_nodes New) (let s = length-replicate max_nodes New in omega (arith, s, l)) ∙ z;
      order_size = o;
      new = λ k b. get_or-take (n - 0) (replicate max_nodes New) k New (omega (arith, e, b)) ∙ get_or-replicate max_nodes k New New (omega (arith, e, b, l));
    }
