-- The least node of each variable: nodes are noted from the first on, where none stands yet; those of the variables present, in rising
-- order, are then picked out. Assumes nothing.
use Prim.Native.Nat.{ℕ, zero, suc, ◌+◌, ◌<◌, ◌≤◌}
use mathlib.Core.Bool.{Bool, true, false, cond}
use mathlib.Core.List.Memᴰ
use mathlib.Core.List.{List, [], ◌∷◌, ◌++◌, map, append-nil, map-append, Memᴰ}
use mathlib.Core.Logic.{◌⊎◌, inl, inr}
use mathlib.Core.Path.{◌≡◌, refl, sym, ap, ◌∙◌}
use native.Mathlib.Decide.{ℕ_discrete}
use native.Mathlib.Omega.{arith}
use native.Mathlib.Numerals.{add-one}
use borrow.Author.Tests.{eqb-false, lt-ltb, le-ltb, ltb-true}
use borrow.Author.Count.{below_more}
use lib.Dec.{eqb, ltb}
use lib.ListN.{length, set, take, drop, length-set, length-drop, length-map}
use lib.Seq.{take-suc-set, length-take-le, drop-set-add, get_or-set_same, get_or-set_other}
use Rattle.table.specs.Layout.{word, kind_of, name_of, node_count}
use Rattle.unification.specs.Node.{Node, variable, node_at, Present, nodes_from}
use Rattle.unification.specs.Words.{Rising, end, before}
use Rattle.unification.specs.Computed.Variables.{variables_of}
use Rattle.unification.specs.Computed.Classes.{gather}
use Rattle.unification.specs.Computed.Solution.{node_of}
use Rattle.unification.specs.Code.Sections.{Sections}
use Rattle.unification.proofs.ListLaws.{gathered, gathered_from, map_same, placed}
use Rattle.unification.proofs.RisingLaws.{rising_append}
use Rattle.unification.proofs.VariableLaws.{variables_one}
use Rattle.unification.proofs.PresentLaws.{present_or_not}
use Rattle.unification.proofs.FirstLaws.{node_of_lem, node_of_none}
use Rattle.unification.proofs.SectionLaws.{nodes_long, section_variable}
use Rattle.values.specs.Code.Present.{variable_names, LeastBefore, LeastNoted, stood, noted_here, LeastByName, NoneFrom, KeepsOthers}
use Rattle.values.specs.Code.Present.{present_below, KeepsVariable, ListsPresent, least_nodes}

-- no node is noted yet
pub least_none : (nodes least : List ℕ) → length least ≡ variable_names → ((x : ℕ) → x < variable_names → word least x ≡ node_count nodes) →
    LeastBefore nodes least 0 0
least_none nodes least l e =
    record {
      long = l;
      within = omega arith;
      found = λ x h. inl (e x h);
      first = λ k h. absurd (omega arith);
      names = λ k h. absurd (omega arith);
    }

-- What stands for variable x: nothing, or a node of it among the nodes before node i.
abbrev Found : List ℕ → List ℕ → ℕ → ℕ → Type 0
Found nodes least i x =
    (word least x ≡ node_count nodes) ⊎ ((word least x < i) × (kind_of nodes (word least x) ≡ 0) × (name_of nodes (word least x) ≡ x))

found_more : (nodes least : List ℕ) (i x : ℕ) → Found nodes least i x → Found nodes least (i + 1) x
found_more nodes least i x (inl e) = inl e
found_more nodes least i x (inr w) = inr (let a = w.0 in omega (arith, a), w.1, w.2)

-- a node that is no variable adds nothing
pub least_other : (nodes least : List ℕ) (i past : ℕ) → eqb (kind_of nodes i) 0 ≡ false → LeastBefore nodes least i past →
    LeastBefore nodes least (i + 1) past
least_other nodes least i past q b =
    record {
      long = b.long;
      within = b.within;
      found = λ x h. found_more nodes least i x (b.found x h);
      first = below_more (λ k. kind_of nodes k ≡ 0 → word least (name_of nodes k) ≤ k) i b.first (λ k. absurd (never k));
      names = below_more (λ k. kind_of nodes k ≡ 0 → name_of nodes k < past) i b.names (λ k. absurd (never k));
    }
  where
    never : kind_of nodes i ≡ 0 → ⊥
    never k = eqb-false _ _ q k

-- a variable has a number that it can have
pub name_within : (nodes arguments : List ℕ) (i x : ℕ) → Sections nodes arguments → i < node_count nodes → kind_of nodes i ≡ 0 → x ≡ name_of nodes i →
    x < variable_names
name_within nodes arguments i x s h k e = let b = s.variable_name i h k in omega (arith, b, e)

-- Node i is the next, and one of variable x.
module _ (nodes least : List ℕ) (i past x n : ℕ) (b : LeastBefore nodes least i past) (h : i < node_count nodes) (k : kind_of nodes i ≡ 0)
    (e : x ≡ name_of nodes i) (y : x < variable_names) (m : n ≡ node_count nodes) where
  -- what is answered is the variable's least node
  pub least_noted : (r : ℕ) (least' : List ℕ) → LeastNoted least x i n r least' →
      (r ≤ i) × (kind_of nodes r ≡ 0) × (name_of nodes r ≡ x) × ((j : ℕ) → j < i → kind_of nodes j ≡ 0 → name_of nodes j ≡ x → r ≤ j)
  least_noted r least' (stood l q d) =
      let w = there (b.found x y) in
      let a = w.0 in
      (omega (arith, a), rw q w.1, rw q w.2, λ j g z o. let f = b.first j g z in let p = ap (word least) o in omega (arith, f, p))
    where
      there : Found nodes least i x → (word least x < i) × (kind_of nodes (word least x) ≡ 0) × (name_of nodes (word least x) ≡ x)
      there (inl z) = absurd (omega (arith, z))
      there (inr w) = w
  least_noted r least' (noted_here l q d) =
      (omega arith, rw q k, rw q (sym e), λ j g z o. let f = b.first j g z in let p = ap (word least) o in absurd (omega (arith, f, p)))

  -- one node more is noted
  pub least_next : (r : ℕ) (least' : List ℕ) (past' : ℕ) → LeastNoted least x i n r least' → (past ≤ past') × (x < past') × (past' ≤ variable_names) →
      LeastBefore nodes least' (i + 1) past'
  least_next r least' past' t (u, v, w) = go t
    where
      names_next : (j : ℕ) → j < i + 1 → kind_of nodes j ≡ 0 → name_of nodes j < past'
      names_next =
          below_more (λ j. kind_of nodes j ≡ 0 → name_of nodes j < past') i (λ j g z. let a = b.names j g z in omega (arith, a)) (λ z. omega arith)

      go : LeastNoted least x i n r least' → LeastBefore nodes least' (i + 1) past'
      go (stood l q d) =
          rw d
          (record {
            long = b.long;
            within = w;
            found = λ z g. found_more nodes least i z (b.found z g);
            first = below_more (λ j. kind_of nodes j ≡ 0 → word least (name_of nodes j) ≤ j) i b.first (λ z. here (b.found x y));
            names = names_next;
          })
        where
          here : Found nodes least i x → word least (name_of nodes i) ≤ i
          here (inl z) = absurd (omega (arith, z))
          here (inr f) = let a = f.0 in let p = ap (word least) e in omega (arith, a, p)
      go (noted_here l q d) =
          rw d
          (record {
            long = length-set least x i ∙ b.long;
            within = w;
            found = λ z g. found_at z g (ℕ_discrete z x);
            first =
                below_more (λ j. kind_of nodes j ≡ 0 → word (set least x i) (name_of nodes j) ≤ j) i
                (λ j g z. first_at j g z (ℕ_discrete (name_of nodes j) x))
                (λ z. let p = ap (word (set least x i)) (sym e) ∙ here in omega (arith, p));
            names = names_next;
          })
        where
          here : word (set least x i) x ≡ i
          here = let a = b.long in get_or-set_same least x i 0 (omega (arith, a))

          found_at : (z : ℕ) → z < variable_names → Dec (z ≡ x) → Found nodes (set least x i) (i + 1) z
          found_at z g (yes o) =
              let p : word (set least x i) z ≡ i = ap (word (set least x i)) o ∙ here in
              inr (omega (arith, p), rw p k, rw p (sym e ∙ sym o))
          found_at z g (no o) = rw (get_or-set_other least x z i 0 o) (found_more nodes least i z (b.found z g))

          first_at : (j : ℕ) → j < i → kind_of nodes j ≡ 0 → Dec (name_of nodes j ≡ x) → word (set least x i) (name_of nodes j) ≤ j
          first_at j g z (yes o) = let f = b.first j g z in let p = ap (word least) o in absurd (omega (arith, f, p))
          first_at j g z (no o) = rw (get_or-set_other least x (name_of nodes j) i 0 o) (b.first j g z)

-- the nodes gone over are all nodes
pub least_counted : (nodes least : List ℕ) (i past n : ℕ) → i ≤ n → n ≤ i → n ≡ node_count nodes → LeastBefore nodes least i past →
    LeastBefore nodes least (node_count nodes) past
least_counted nodes least i past n h l e b =
    let z : i ≡ node_count nodes = omega arith in
    rw z at b

-- once all nodes are noted, what stands at x is the least node of variable x
pub least_all : (nodes arguments least : List ℕ) (past : ℕ) → Sections nodes arguments → LeastBefore nodes least (node_count nodes) past →
    LeastByName nodes arguments least
least_all nodes arguments least past s b =
    record { long = b.long; within = λ x h. inside x (b.found x h); right = λ x h. right x (b.found x h) }
  where
    inside : (x : ℕ) → Found nodes least (node_count nodes) x → word least x ≤ node_count nodes
    inside x (inl e) = omega (arith, e)
    inside x (inr w) = let a = w.0 in omega (arith, a)

    right : (x : ℕ) → Found nodes least (node_count nodes) x → word least x ≡ node_of (nodes_from nodes arguments) x
    right x (inl e) = e ∙ sym (nodes_long nodes arguments) ∙ sym (node_of_none (nodes_from nodes arguments) x never)
      where
        never : (i : ℕ) → i < length (nodes_from nodes arguments) → node_at (nodes_from nodes arguments) i ≡ variable x → ⊥
        never i h d =
            let g : i < node_count nodes = rw (nodes_long nodes arguments) at h in
            let v = (section_variable nodes arguments s i g x).0 d in
            let f = b.first i g v.0 in
            let q : word least x ≡ word least (name_of nodes i) = ap (word least) v.1 in
            omega (arith, e, f, q)
    right x (inr (a, k, e)) =
        let c : word least x < length (nodes_from nodes arguments) = rw (nodes_long nodes arguments) a in
        let d = (section_variable nodes arguments s (word least x) a x).1 (k, sym e) in
        let l = node_of_lem (nodes_from nodes arguments) x (word least x, c, d) in
        let g : node_of (nodes_from nodes arguments) x < node_count nodes = rw (nodes_long nodes arguments) at l.holds.0 in
        let v = (section_variable nodes arguments s (node_of (nodes_from nodes arguments) x) g x).0 l.holds.1 in
        let y : node_of (nodes_from nodes arguments) x ≤ word least x = l.least (word least x) (c, d) in
        let f = b.first (node_of (nodes_from nodes arguments) x) g v.0 in
        let q : word least x ≡ word least (name_of nodes (node_of (nodes_from nodes arguments) x)) = ap (word least) v.1 in
        omega (arith, y, f, q)

-- and no variable past the last number has a node
pub least_end : (nodes least : List ℕ) (past : ℕ) → LeastBefore nodes least (node_count nodes) past → NoneFrom least (node_count nodes) past
least_end nodes least past b = record { within = b.within; none = λ x l h. pick x l (b.found x h) }
  where
    pick : (x : ℕ) → past ≤ x → Found nodes least (node_count nodes) x → word least x ≡ node_count nodes
    pick x l (inl e) = e
    pick x l (inr (a, k, e)) = let c = b.names (word least x) a k in absurd (omega (arith, c, e))

-- the number of nodes by another name
pub none_named : (least : List ℕ) (n m e : ℕ) → n ≡ m → NoneFrom least m e → NoneFrom least n e
none_named least n m e q o = record { within = o.within; none = λ x l h. o.none x l h ∙ sym q }

-- nothing has changed
others_same : (counts : List ℕ) → KeepsOthers counts counts
others_same counts = record { long = refl; before = λ k h. refl; behind = λ k h. refl }

-- one change after the other
others_on : {counts counts₁ counts₂ : List ℕ} → KeepsOthers counts counts₁ → KeepsOthers counts₁ counts₂ → KeepsOthers counts counts₂
others_on a b =
    record {
      long = b.long ∙ a.long;
      before = λ k h. b.before k h ∙ a.before k h;
      behind = λ k h. b.behind k h ∙ a.behind k h;
    }

module _ (least : List ℕ) (n : ℕ) (counts : List ℕ) (count x : ℕ) where
  -- a variable that has a node is kept
  pub kept_variable : (v : ℕ) → v ≡ word least x → v < n → 512 + count < length counts → count < variable_names →
      KeepsVariable least n counts count x (count + 1) (set counts (512 + count) v)
  kept_variable v e l h f =
      let b : ltb (word least x) n ≡ true = lt-ltb (word least x) n (omega arith) in
      let d = length-drop 512 counts in
      record {
        more = omega arith;
        others = record {
          long = length-set counts (512 + count) v;
          before = λ k q. get_or-set_other counts (512 + count) k v 0 (λ z. omega (arith, z, q));
          behind = λ k q. get_or-set_other counts (512 + count) k v 0 (λ z. omega (arith, z, q, f));
        };
        kept = ap (take (count + 1)) (drop-set-add 512 counts count v)
            ∙ rw (b, add-one count, ← e) (take-suc-set (drop 512 counts) count v (omega (arith, d, h)));
      }

  -- one that has none is not
  pub passed_variable : (v : ℕ) → v ≡ word least x → n ≤ v → KeepsVariable least n counts count x count counts
  passed_variable v e l =
      let b : ltb (word least x) n ≡ false = le-ltb (word least x) n (omega arith) in
      record { more = omega arith; others = others_same counts; kept = rw b (sym (append-nil (take count (drop 512 counts)))) }

-- What is listed of the variables below x.
pub record PresentBefore (least : List ℕ) (n : ℕ) (counts₀ counts : List ℕ) (count x : ℕ) : Type 0 where
  pub few : count ≤ x
  pub others : KeepsOthers counts₀ counts
  pub listed : take count (drop 512 counts) ≡ present_below least n x

-- at first nothing
pub present_none : (least : List ℕ) (n : ℕ) (counts : List ℕ) → PresentBefore least n counts counts 0 0
unfolding present_below gather
present_none least n counts = record { few = omega arith; others = others_same counts; listed = refl }

-- one variable more
pub present_next : (least : List ℕ) (n x : ℕ) (counts₀ counts counts' : List ℕ) (count r : ℕ) → PresentBefore least n counts₀ counts count x →
    KeepsVariable least n counts count x r counts' → PresentBefore least n counts₀ counts' r (x + 1)
unfolding present_below gather
present_next least n x counts₀ counts counts' count r p k =
    record {
      few = let a = k.more in let b = p.few in omega (arith, a, b);
      others = others_on p.others k.others;
      listed = let e = p.listed in k.kept ∙ rw (e, add-one x);
    }

-- the variables that have no node add nothing
present_more : (least : List ℕ) (n e x : ℕ) → NoneFrom least n e → e ≤ x → x ≤ variable_names → present_below least n e ≡ present_below least n x
unfolding present_below gather
present_more least n e zero o l h = let q : e ≡ 0 = omega arith in rw q
present_more least n e (suc x) o l h = pick (λ k. present_more least n e x o k (omega arith)) (ℕ_discrete e (suc x))
  where
    pick : (e ≤ x → present_below least n e ≡ present_below least n x) → Dec (e ≡ suc x) → present_below least n e ≡ present_below least n (suc x)
    pick r (yes q) = ap (present_below least n) q
    pick r (no q) =
        let k : e ≤ x = omega (arith, q) in
        let a = o.none x k (omega arith) in
        let b : ltb (word least x) n ≡ false = le-ltb (word least x) n (omega arith) in
        r k ∙ rw b (sym (append-nil (present_below least n x)))

-- all variables
pub present_all : (least : List ℕ) (n e x count : ℕ) (counts₀ counts : List ℕ) → NoneFrom least n e → x ≤ e → e ≤ x → 576 ≤ length counts₀ →
    PresentBefore least n counts₀ counts count x → ListsPresent least n counts₀ count counts
present_all least n e x count counts₀ counts o h k m p =
    let z : x ≡ e = omega arith in
    let w = o.within in
    let f = p.few in
    let l = p.others.long in
    let g = length-drop 512 counts in
    let d = p.listed ∙ ap (present_below least n) z ∙ present_more least n e variable_names o w (omega arith) in
    record {
      within = omega (arith, f, w, z);
      counted = sym (length-take-le count (drop 512 counts) (omega (arith, f, w, z, l, g, m))) ∙ ap length d;
      others = p.others;
      listed = d;
    }

-- a rising list rises from place to place
pub rising_places : (xs : List ℕ) → Rising ◌<◌ xs → (j k : ℕ) → j < k → k < length xs → word xs j < word xs k
rising_places [] r j k l h = absurd (omega arith)
rising_places (x ∷ xs) r j zero l h = absurd (omega arith)
rising_places (x ∷ xs) (before b r) zero (suc k) l h = b (word xs k) (placed xs k (omega arith))
rising_places (x ∷ xs) (before b r) (suc j) (suc k) l h = rising_places xs r j k (omega arith) (omega arith)

-- The numbers below x with a property, in rising order.
pub selected : (ℕ → Bool) → ℕ → List ℕ
selected p x = gather x (λ y. cond (p y) (y ∷ []) [])

picked_from : (b : Bool) (x y : ℕ) → Memᴰ y (cond b (x ∷ []) []) → (b ≡ true) × (y ≡ x)
picked_from true x y m = (refl, Memᴰ.eq_of_singleton m)
picked_from false x y m = absurd (Memᴰ.not-nil m)

-- what is selected has the property
pub selected_from : (p : ℕ → Bool) (x y : ℕ) → Memᴰ y (selected p x) → (y < x) × (p y ≡ true)
unfolding selected
selected_from p x y m =
    let r = gathered_from x (λ z. cond (p z) (z ∷ []) []) y m in
    let q = picked_from (p r.0) r.0 y r.2 in
    (rw q.1 r.1, rw q.1 q.0)

-- what has it is selected
pub selected_member : (p : ℕ → Bool) (x y : ℕ) → y < x → p y ≡ true → Memᴰ y (selected p x)
unfolding selected
selected_member p x y h e =
    gathered x (λ z. cond (p z) (z ∷ []) []) y y h (rw e (Memᴰ.head refl))

-- they rise
pub selected_rises : (p : ℕ → Bool) (x : ℕ) → Rising ◌<◌ (selected p x)
unfolding selected gather
selected_rises p zero = end
selected_rises p (suc x) =
    rising_append ◌<◌ (selected p x) (cond (p x) (x ∷ []) []) (selected_rises p x) (one (p x))
    (λ a b m k. rw (picked_from (p x) x b k).1 (selected_from p x a m).0)
  where
    one : (b : Bool) → Rising ◌<◌ (cond b (x ∷ []) [])
    one true = before (λ y m. absurd (Memᴰ.not-nil m)) end
    one false = end

selected_map : (p : ℕ → Bool) (f : ℕ → ℕ) (x : ℕ) → gather x (λ y. cond (p y) (f y ∷ []) []) ≡ map f (selected p x)
unfolding selected gather
selected_map p f zero = refl
selected_map p f (suc x) =
    ap (λ (l : List ℕ). l ++ cond (p x) (f x ∷ []) []) (selected_map p f x) ∙ ap (λ (l : List ℕ). map f (selected p x) ++ l) (last (p x)) ∙
    sym (map-append f (selected p x) (cond (p x) (x ∷ []) []))
  where
    last : (b : Bool) → cond b (f x ∷ []) [] ≡ map f (cond b (x ∷ []) [])
    last true = refl
    last false = refl

module _ (nodes arguments : List ℕ) (s : Sections nodes arguments) (least : List ℕ) (l : LeastByName nodes arguments least) where
  -- variable x has a node
  has : ℕ → Bool
  has x = ltb (word least x) (node_count nodes)

  -- a variable has a node exactly if it is present
  has_present : (x : ℕ) → x < variable_names → has x ≡ true → Present (nodes_from nodes arguments) x
  unfolding has
  has_present x b e = go (present_or_not (nodes_from nodes arguments) x)
    where
      go : Dec (Present (nodes_from nodes arguments) x) → Present (nodes_from nodes arguments) x
      go (yes p) = p
      go (no d) =
          let q : word least x < node_count nodes = ltb-true _ _ e in
          let z : word least x ≡ node_count nodes = l.right x b ∙ node_of_none (nodes_from nodes arguments) x (λ i h v. d (i, h, v)) ∙
          nodes_long nodes arguments in
          absurd (omega arith)

  present_has : (x : ℕ) → Present (nodes_from nodes arguments) x → (x < variable_names) × (has x ≡ true)
  unfolding has
  present_has x (i, h, v) =
      let g : i < node_count nodes = rw (nodes_long nodes arguments) at h in
      let r = (section_variable nodes arguments s i g x).0 v in
      let b = s.variable_name i g r.0 in
      let y : x < variable_names = omega (arith, r.1) in
      let c : node_of (nodes_from nodes arguments) x < node_count nodes =
      rw (nodes_long nodes arguments) at (node_of_lem (nodes_from nodes arguments) x (i, h, v)).holds.0 in
      (y, lt-ltb (word least x) (node_count nodes) (rw (l.right x y) c))

  -- the variables present are those with a node
  present_names : selected has variable_names ≡ variables_of (nodes_from nodes arguments)
  present_names =
      variables_one (nodes_from nodes arguments) (selected has variable_names)
      (record {
        rising = selected_rises has variable_names;
        present = λ x. (
          (λ m. let r = selected_from has variable_names x m in has_present x r.0 r.1),
          (λ p. let r = present_has x p in selected_member has variable_names x r.0 r.1),
        );
      })

  -- their least nodes, in rising order of variable number
  pub present_least : present_below least (node_count nodes) variable_names ≡ least_nodes (nodes_from nodes arguments)
  unfolding present_below has least_nodes
  present_least =
      selected_map has (word least) variable_names
      ∙ map_same (word least) (node_of (nodes_from nodes arguments)) (selected has variable_names)
      (λ x m. l.right x (selected_from has variable_names x m).0)
      ∙ ap (map (node_of (nodes_from nodes arguments))) present_names

-- there is one for each variable present
pub least_long : (ns : List Node) → length (least_nodes ns) ≡ length (variables_of ns)
unfolding least_nodes
least_long ns = length-map (variables_of ns) (node_of ns)
