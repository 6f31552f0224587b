-- Laws of following the only argument that leads on, from head to head, over plain lists and numbers. A node whose arguments lead on to one
-- head at most is put behind an order for that head, unless it stands in it. Assumes nothing.
use Prim.Native.Nat.{ℕ, zero, suc, ◌+◌, ◌<◌, ◌≤◌}
use mathlib.Core.Bool.{Bool, true, false}
use mathlib.Core.List.{List, [], ◌∷◌, ◌++◌}
use mathlib.Core.Logic.{◌⊎◌, inl, inr}
use mathlib.Core.Path.{◌≡◌, refl, sym, ap, ◌∙◌}
use native.Mathlib.Decide.{ℕ_discrete}
use native.Mathlib.Omega.{arith}
use borrow.Author.Count.{below_more}
use lib.ListN.{length, length-append, get_or-append}
use lib.Seq.{get_or-append_seam}
use Rattle.std.specs.Prelude.{Option, Some, None}
use Rattle.table.specs.declared.Node.{Node}
use Rattle.table.specs.Layout.{word, node_count, argument_of}
use Rattle.unification.specs.Computed.Classes.{class_of}
use Rattle.unification.specs.Code.Heads.{Partition}
use Rattle.nodes.specs.Code.Order.{Leads, next, further, Met, leaf, before, Listed, Searched}
use Rattle.classes.specs.Code.Ordering.{Led, led_no, led_first, led_same, OnlyTo, Onward, OrderedTo, Followed}
use Rattle.classes.proofs.OrderLaws.{searched_cycle, searched_order}

-- a number stands at one of the first n places of a list, or at none
stands : (order : List ℕ) (g n : ℕ) → ((q : ℕ) × (q < n) × (word order q ≡ g)) ⊎ ((q : ℕ) → q < n → word order q ≡ g → ⊥)
stands order g zero = inr (λ q l. absurd (omega arith))
stands order g (suc n) = go (stands order g n) (ℕ_discrete (word order n) g)
  where
    go : ((q : ℕ) × (q < n) × (word order q ≡ g)) ⊎ ((q : ℕ) → q < n → word order q ≡ g → ⊥) → Dec (word order n ≡ g) →
        ((q : ℕ) × (q < suc n) × (word order q ≡ g)) ⊎ ((q : ℕ) → q < suc n → word order q ≡ g → ⊥)
    go (inl f) d = inl (f.0, omega (arith, f.1), f.2)
    go (inr f) (yes e) = inl (n, omega arith, e)
    go (inr f) (no d) = inr (λ q l. last q l (ℕ_discrete q n))
      where
        last : (q : ℕ) → q < suc n → Dec (q ≡ n) → word order q ≡ g → ⊥
        last q l (yes z) e = d (ap (λ (k : ℕ). word order k) (sym z) ∙ e)
        last q l (no z) e = f q (omega arith) e

-- A node that does not stand in an order is put behind it.
module _ {nodes arguments heads : List ℕ} {due : ℕ → ℕ} (order : List ℕ) (o : Listed nodes arguments due heads order) (g : ℕ)
    (node : g < node_count nodes) (some : 0 < due g) (new : (q : ℕ) → q < length order → word order q ≡ g → ⊥)
    (met : (j : ℕ) → j < due g → Met due order (length order) (class_of heads (argument_of nodes arguments g j))) where
  -- it has one place more
  longer : length (order ++ g ∷ []) ≡ length order + 1
  longer = length-append order (g ∷ [])

  -- a place of it is one of the order, or that
  within : (p : ℕ) → p < length (order ++ g ∷ []) → p < length order + 1
  within p l = let e = longer in omega (arith, e, l)

  -- earlier places stay
  stays : (p : ℕ) → p < length order → word (order ++ g ∷ []) p ≡ word order p
  stays p l = get_or-append order (g ∷ []) 0 p l

  -- the last place has the node
  newest : word (order ++ g ∷ []) (length order) ≡ g
  newest = get_or-append_seam order g [] 0

  -- what is met stays so
  still_met : (p : ℕ) → p ≤ length order → (k : ℕ) → Met due order p k → Met due (order ++ g ∷ []) p k
  still_met p l k (leaf e) = leaf e
  still_met p l k (before q b e) = before q b (stays q (omega arith) ∙ e)

  -- nodes stand in it
  behind_node : (p : ℕ) → p < length order + 1 → word (order ++ g ∷ []) p < node_count nodes
  behind_node =
      below_more (λ p. word (order ++ g ∷ []) p < node_count nodes) (length order) (λ p b. rw (stays p b) (o.node p b)) (rw newest node)

  -- with arguments that are looked at
  behind_compound : (p : ℕ) → p < length order + 1 → 0 < due (word (order ++ g ∷ []) p)
  behind_compound =
      below_more (λ p. 0 < due (word (order ++ g ∷ []) p)) (length order) (λ p b. rw (stays p b) (o.compound p b)) (rw newest some)

  -- no node twice
  behind_once : (p q : ℕ) → p < q → q < length order + 1 → word (order ++ g ∷ []) p ≡ word (order ++ g ∷ []) q → ⊥
  behind_once p q l m e = go (ℕ_discrete q (length order))
    where
      b : p < length order
      b = omega arith

      go : Dec (q ≡ length order) → ⊥
      go (yes z) = new p b (sym (stays p b) ∙ e ∙ ap (λ (k : ℕ). word (order ++ g ∷ []) k) z ∙ newest)
      go (no d) =
          let c : q < length order = omega arith in
          o.once p q l c (sym (stays p b) ∙ e ∙ stays q c)

  -- the heads of arguments come first
  behind_first : (p : ℕ) → p < length order + 1 → (j : ℕ) → j < due (word (order ++ g ∷ []) p) →
      Met due (order ++ g ∷ []) p (class_of heads (argument_of nodes arguments (word (order ++ g ∷ []) p) j))
  behind_first =
      below_more
      (λ p. (j : ℕ) → j < due (word (order ++ g ∷ []) p) → Met due (order ++ g ∷ []) p
      (class_of heads (argument_of nodes arguments (word (order ++ g ∷ []) p) j)))
      (length order)
      (λ p b. rw (stays p b) (λ j m. still_met p (omega arith) _ (o.first p b j m)))
      (rw newest (λ j m. still_met (length order) (omega arith) _ (met j m)))

  -- the longer order is one for it
  put_behind : OrderedTo nodes arguments due heads g
  put_behind =
      record {
        order = order ++ g ∷ [];
        listed = record {
          node = λ p l. behind_node p (within p l);
          compound = λ p l. behind_compound p (within p l);
          once = λ p q l m. behind_once p q l (within q m);
          first = λ p l. behind_first p (within p l);
        };
        met = before (length order) (let e = longer in omega (arith, e)) newest;
      }

-- a node the heads of whose arguments are met has an order
met_ordered : {nodes arguments heads : List ℕ} {due : ℕ → ℕ} (order : List ℕ) → Listed nodes arguments due heads order → (g : ℕ) →
    g < node_count nodes → ((j : ℕ) → j < due g → Met due order (length order) (class_of heads (argument_of nodes arguments g j))) →
    OrderedTo nodes arguments due heads g
met_ordered {nodes} {arguments} {heads} {due} order o g node met = go (ℕ_discrete (due g) 0) (stands order g (length order))
  where
    go : Dec (due g ≡ 0) → ((q : ℕ) × (q < length order) × (word order q ≡ g)) ⊎ ((q : ℕ) → q < length order → word order q ≡ g → ⊥) →
        OrderedTo nodes arguments due heads g
    go (yes e) f = record { order = order; listed = o; met = leaf e }
    go (no d) (inl f) = record { order = order; listed = o; met = before f.0 f.1 f.2 }
    go (no d) (inr f) = put_behind order o g node (omega arith) f met

-- nothing is listed
listed_none : {nodes arguments heads : List ℕ} {due : ℕ → ℕ} → Listed nodes arguments due heads []
listed_none =
    record {
      node = λ p l. absurd (omega arith);
      compound = λ p l. absurd (omega arith);
      once = λ p q l m e. absurd (omega arith);
      first = λ p l. absurd (omega arith);
    }

-- none of the arguments leads on
shut_ordered : {nodes arguments heads : List ℕ} {due : ℕ → ℕ} (g : ℕ) → g < node_count nodes →
    ((j : ℕ) → j < due g → due (class_of heads (argument_of nodes arguments g j)) ≡ 0) → OrderedTo nodes arguments due heads g
shut_ordered g node shut = met_ordered [] listed_none g node (λ j l. leaf (shut j l))

-- the arguments lead on to one head, for which there is an order
only_ordered : {nodes arguments heads : List ℕ} {due : ℕ → ℕ} {g k : ℕ} → g < node_count nodes → OnlyTo nodes arguments due heads g (due g) k →
    OrderedTo nodes arguments due heads k → OrderedTo nodes arguments due heads g
only_ordered {nodes} {arguments} {heads} {due} {g} {k} node t o = met_ordered o.order o.listed g node (λ j l. go j (t.only j l))
  where
    go : (j : ℕ) → (due (class_of heads (argument_of nodes arguments g j)) ≡ 0) ⊎ (class_of heads (argument_of nodes arguments g j) ≡ k) →
        Met due o.order (length o.order) (class_of heads (argument_of nodes arguments g j))
    go j (inl e) = leaf e
    go j (inr e) = rw e o.met

-- nothing is no head
none_some : {A : Type 0} {x : Option A} {a : A} → x ≡ None → x ≡ Some a → ⊥
none_some {A} {a = a} e d = let q : ◌≡◌ {A = Option A} None (Some a) = sym e ∙ d in let z : ◌≡◌ {A = ℕ} 0 1 = cc in omega arith

-- before the first argument nothing is found
pub onward_none : {nodes arguments heads : List ℕ} {due : ℕ → ℕ} {h : ℕ} → Onward nodes arguments due heads h 0 None
onward_none = record { none = λ e i l. absurd (omega arith); one = λ g e. absurd (none_some refl e) }

-- Argument j of node h, whose head is g, is looked at.
module _ {nodes arguments heads : List ℕ} {due : ℕ → ℕ} {h j : ℕ} {found : Option Node} (node : h < node_count nodes)
    (o : Onward nodes arguments due heads h j found) (l : j < due h) {g : Node} (e : g.0 ≡ class_of heads (argument_of nodes arguments h j))
    (inside : g.0 < node_count nodes) where
  -- it leads on, and nothing before it leads on to another head
  onward_to : ((i : ℕ) → i < j → (due (class_of heads (argument_of nodes arguments h i)) ≡ 0) ⊎
      (class_of heads (argument_of nodes arguments h i) ≡ g.0)) → (f : Node) → f.0 ≡ g.0 → Onward nodes arguments due heads h (j + 1) (Some f)
  onward_to w f d =
      record {
        none = λ n. absurd (none_some n refl);
        one = λ k q. let z : f ≡ k = cc in rw (← z, d) (record {
          node = inside;
          leads = next j node l (sym e);
          only =
              below_more
              (λ i. (due (class_of heads (argument_of nodes arguments h i)) ≡ 0) ⊎ (class_of heads (argument_of nodes arguments h i) ≡ g.0)) j
              w (inr (sym e));
        });
      }

  -- it does not
  onward_over : due g.0 ≡ 0 → Onward nodes arguments due heads h (j + 1) found
  onward_over z =
      record {
        none = λ n. below_more (λ i. due (class_of heads (argument_of nodes arguments h i)) ≡ 0) j (o.none n) (rw (← e) z);
        one = λ k n. let t = o.one k n in record {
          node = t.node;
          leads = t.leads;
          only =
              below_more
              (λ i. (due (class_of heads (argument_of nodes arguments h i)) ≡ 0) ⊎ (class_of heads (argument_of nodes arguments h i) ≡ k.0)) j
              t.only (inl (rw (← e) z));
        };
      }

  -- one more argument, where they do not lead on to several heads
  pub onward_next : {r : Option Node} → Led due found g r → Onward nodes arguments due heads h (j + 1) r
  onward_next (led_no z) = onward_over z
  onward_next (led_first z) = onward_to (λ i b. inl (o.none z i b)) g refl
  onward_next (led_same f z d) = rw z (onward_to (rw d at (o.one f z).only) f d)

-- at the start
pub followed_start : {nodes arguments heads : List ℕ} {due : ℕ → ℕ} {h : ℕ} → h < node_count nodes → Followed nodes arguments due heads h h
followed_start l = record { node = l; leads = inl refl; back = λ o. o }

-- Node g is come to.
module _ {nodes arguments heads : List ℕ} {due : ℕ → ℕ} {h g : ℕ} (f : Followed nodes arguments due heads h g) where
  -- what node g leads to, node h does
  leads_on : {k : ℕ} → Leads nodes arguments due heads g k → Leads nodes arguments due heads h k
  leads_on {k} l = go f.leads
    where
      go : (g ≡ h) ⊎ Leads nodes arguments due heads h g → Leads nodes arguments due heads h k
      go (inl e) = rw e at l
      go (inr p) = further p l

  -- its arguments lead on to nothing: there is an order
  pub followed_end : ((i : ℕ) → i < due g → due (class_of heads (argument_of nodes arguments g i)) ≡ 0) → {a : ℕ} → h ≡ class_of heads a → Searched nodes arguments due heads a false
  followed_end o e =
      let t = f.back (shut_ordered g f.node o) in
      searched_order (record { order = t.order; listed = t.listed; from = rw (← e) t.met })

  -- Its arguments lead on to one head.
  module _ {k : ℕ} (o : OnlyTo nodes arguments due heads g (due g) k) where
    -- the start: it leads to itself
    pub followed_back : k ≡ h → {a : ℕ} → Searched nodes arguments due heads a true
    followed_back e = searched_cycle (h, rw e at o.node, leads_on (rw e at o.leads))

    -- another
    pub followed_next : Followed nodes arguments due heads h k
    followed_next = record { node = o.node; leads = inr (leads_on o.leads); back = λ p. f.back (only_ordered f.node o p) }

-- the head that is come to is noted as a start, or not
pub followed_noted : {nodes arguments heads : List ℕ} {due : ℕ → ℕ} {h g k : ℕ} → Followed nodes arguments due heads h g → (k ≡ g) ⊎ (k ≡ h) →
    Followed nodes arguments due heads k g
followed_noted f (inl e) = rw e (followed_start f.node)
followed_noted f (inr e) = rw e f

-- the head of a node is its own
pub head_own : {n : ℕ} {heads : List ℕ} {a h : ℕ} → Partition n heads → a < n → h ≡ class_of heads a → h ≡ class_of heads h
head_own {heads = heads} {a} p l e = e ∙ sym (p.own a l) ∙ ap (class_of heads) (sym e)

-- what a search from the head of node a answers
pub searched_head : {nodes arguments heads : List ℕ} {due : ℕ → ℕ} {a h : ℕ} {r : Bool} → h ≡ class_of heads a → h ≡ class_of heads h →
    Searched nodes arguments due heads h r → Searched nodes arguments due heads a r
searched_head {heads = heads} {a} {h} e own s =
    let f : class_of heads h ≡ class_of heads a = sym own ∙ e in
    record {
      cycle = s.cycle;
      ordered = λ z. let o = s.ordered z in record { order = o.order; listed = o.listed; from = rw (← f) o.from };
    }
