-- Nodes noted by the names of their values, open applications if they are smaller, variables from the last place down, and read again:
-- one law for each way on. Assumes nothing.
use Prim.Native.Nat.{ℕ, suc, ◌+◌, ◌-◌, ◌<◌, ◌≤◌}
use mathlib.Core.Bool.{true, false, cond}
use mathlib.Core.List.{List, [], ◌∷◌, ◌++◌, map, map-append}
use mathlib.Core.Path.{◌≡◌, refl, sym, ap, ◌∙◌}
use native.Mathlib.Decide.{ℕ_discrete, dec_lt}
use native.Mathlib.Omega.{arith}
use native.Mathlib.Numerals.{add-one}
use borrow.Author.Count.{below_more}
use borrow.Author.Tests.{eq-eqb, ne_eqb, lt-ltb, le-ltb}
use lib.Dec.{eqb, ltb}
use lib.ListN.{length, set, take, drop, length-set, length-map}
use lib.Seq.{get_or-set_same, get_or-set_other, take-suc, drop-cons, set_at, take-length, length-take-le, append_snoc}
use Rattle.table.specs.Layout.{word, kind_of, node_count}
use Rattle.unification.specs.Computed.Classes.{class_of}
use Rattle.nodes.specs.Code.Named.{value_name, Applied, Themselves}
use Rattle.nodes.specs.Code.Open.{OpenListed}
use Rattle.binding.specs.Code.Binding.{HeadNames, AreApplied, NamesLeast, application_noted, free_noted, IsApplied, IsFree, name_at, OpenNoted, ApplicationsNoted, FreeFrom, AreNodes}
use Rattle.values.proofs.KeptLaws.{kept_none, kept_skip, kept_set}

-- an application is noted at its name, where a greater node stands there
pub application_noted_lem : (heads names by : List ℕ) (i s m : ℕ) → s ≡ value_name heads names i → m ≡ word by s → i < m →
    set by s i ≡ application_noted heads names by i
unfolding application_noted
application_noted_lem heads names by i s m e d l =
    let y : ltb i (word by (value_name heads names i)) ≡ true = rw (d, e) at (lt-ltb i m l) in
    rw (y, e)

-- and is not, where none does
pub application_other : (heads names by : List ℕ) (i s m : ℕ) → s ≡ value_name heads names i → m ≡ word by s → m ≤ i →
    by ≡ application_noted heads names by i
unfolding application_noted
application_other heads names by i s m e d l =
    let y : ltb i (word by (value_name heads names i)) ≡ false = rw (d, e) at (le-ltb i m l) in
    rw y

-- open applications are applications
pub open_applied : (nodes counts opens : List ℕ) → OpenListed nodes counts opens → AreApplied nodes opens
open_applied nodes counts opens o = record { node = o.node; applied = o.applied }

-- a node whose head is an application is not noted as a free variable
pub free_other : (nodes heads names list by : List ℕ) (k v h : ℕ) → v ≡ word list k → h ≡ class_of heads v → eqb (kind_of nodes h) 0 ≡ false →
    by ≡ free_noted nodes heads names list by k
unfolding free_noted
free_other nodes heads names list by k v h d e z =
    let y : eqb (kind_of nodes (class_of heads (word list k))) 0 ≡ false = rw (e ∙ ap (class_of heads) d) at z in
    rw y

-- one whose head is a variable is, at its name
pub free_noted_lem : (nodes heads names list by : List ℕ) (k v h s : ℕ) → v ≡ word list k → h ≡ class_of heads v → eqb (kind_of nodes h) 0 ≡ true →
    s ≡ value_name heads names v → set by s v ≡ free_noted nodes heads names list by k
unfolding free_noted
free_noted_lem nodes heads names list by k v h s d e z q =
    let y : eqb (kind_of nodes (class_of heads (word list k))) 0 ≡ true = rw (e ∙ ap (class_of heads) d) at z in
    let p : s ≡ value_name heads names (word list k) = rw d at q in
    rw (y, d, p)

-- a node of a list of nodes
pub listed : (nodes list : List ℕ) → AreNodes nodes list → (k v : ℕ) → k < length list → v ≡ word list k → v < node_count nodes
listed nodes list inside k v h e = let b = inside.node k h in omega arith

module _ (nodes arguments heads names : List ℕ) (m : HeadNames nodes arguments heads names) where
  -- a head is a node
  pub head_node : (i g : ℕ) → i < node_count nodes → g ≡ class_of heads i → g < node_count nodes
  head_node i g h e = rw e (m.readable.partition.below i h)

  -- and so is a name
  pub name_node : (i r : ℕ) → i < node_count nodes → r ≡ value_name heads names i → r < node_count nodes
  name_node i r h e = rw e (m.named.node i h)

  -- where each stands at its own number, none is noted yet
  pub noted_none : (opens by : List ℕ) → length by ≡ node_count nodes → Themselves by → OpenNoted nodes heads names opens by 0
  noted_none opens by l t =
      record {
        long = l;
        named = λ s h a e.
            let d : word by s ≡ s = t.itself s (omega arith) in
            (omega (arith, d), rw d a, ap (value_name heads names) d ∙ e, omega (arith, d));
        least = λ p h. absurd (omega arith);
      }

  module _ (opens : List ℕ) where
    module _ (o : AreApplied nodes opens) (by : List ℕ) (k : ℕ) (h : k < length opens) (r : OpenNoted nodes heads names opens by k) where
      -- The node that is noted, and its name.
      abbrev node : ℕ
      node = word opens k

      abbrev name : ℕ
      name = value_name heads names node

      inside : name < length by
      inside =
          let b = m.named.node node (o.node k h) in
          let l = r.long in
          omega (arith, b, l)

      here : word (set by name node) name ≡ node
      here = get_or-set_same by name node 0 inside

      elsewhere : (s : ℕ) → (s ≡ name → ⊥) → word (set by name node) s ≡ word by s
      elsewhere s n = get_or-set_other by name s node 0 n

      -- a smaller one is put in its place
      noted_smaller : node < word by name → OpenNoted nodes heads names opens (set by name node) (k + 1)
      noted_smaller l =
          record {
            long = length-set by name node ∙ r.long;
            named = λ s b a e. named_at s b a e (ℕ_discrete s name);
            least =
                below_more (λ p. word (set by name node) (value_name heads names (word opens p)) ≤ word opens p) k
                (λ p b. least_at p b (ℕ_discrete (value_name heads names (word opens p)) name)) (omega (arith, here));
          }
        where
          named_at : (s : ℕ) → s < node_count nodes → IsApplied nodes s → value_name heads names s ≡ s → Dec (s ≡ name) →
              (word (set by name node) s < node_count nodes) × IsApplied nodes (word (set by name node) s) ×
              (value_name heads names (word (set by name node) s) ≡ s) × (word (set by name node) s ≤ s)
          named_at s b a e (yes z) =
              let d : word (set by name node) s ≡ node = ap (word (set by name node)) z ∙ here in
              let n = o.node k h in
              let u = (r.named s b a e).3 in
              let w : word by s ≡ word by name = ap (word by) z in
              (omega (arith, d, n), rw d (o.applied k h), ap (value_name heads names) d ∙ sym z, omega (arith, d, u, w, l))
          named_at s b a e (no z) = rw (elsewhere s z) (r.named s b a e)

          least_at : (p : ℕ) → p < k → Dec (value_name heads names (word opens p) ≡ name) →
              word (set by name node) (value_name heads names (word opens p)) ≤ word opens p
          least_at p b (yes z) =
              let d : word (set by name node) (value_name heads names (word opens p)) ≡ node = ap (word (set by name node)) z ∙ here in
              let u = r.least p b in
              let w : word by (value_name heads names (word opens p)) ≡ word by name = ap (word by) z in
              omega (arith, d, u, w, l)
          least_at p b (no z) = rw (elsewhere (value_name heads names (word opens p)) z) (r.least p b)

      -- one open application more
      pub noted_next : OpenNoted nodes heads names opens (application_noted heads names by node) (k + 1)
      unfolding application_noted
      noted_next = pick (dec_lt node (word by name))
        where
          pick : Dec (node < word by name) → OpenNoted nodes heads names opens (cond (ltb node (word by name)) (set by name node) by) (k + 1)
          pick (yes l) = rw (lt-ltb node (word by name) l) (noted_smaller l)
          pick (no n) =
              let l : word by name ≤ node = omega (arith, n) in
              rw (le-ltb node (word by name) l)
              (record {
                long = r.long;
                named = r.named;
                least = below_more (λ p. word by (value_name heads names (word opens p)) ≤ word opens p) k r.least l;
              })

    -- where all are, and names of applications name themselves, each stands at its name
    pub noted_all : (counts by : List ℕ) → OpenListed nodes counts opens → NamesLeast nodes arguments counts heads names →
        ((i : ℕ) → i < node_count nodes → Applied nodes heads i → value_name heads names (value_name heads names i) ≡ value_name heads names i) →
        OpenNoted nodes heads names opens by (length opens) → ApplicationsNoted nodes heads names by
    noted_all counts by o t itself r =
        record {
          least = λ i h n.
              let v = r.named (value_name heads names i) (m.named.node i h) (m.named.application i h n) (itself i h n) in
              record {
                holds = (v.0, v.1, v.2);
                least = λ k w. lower (value_name heads names i) k w.0 w.1 w.2 v.3 (ℕ_discrete (word counts k) 0);
              };
        }
      where
        lower : (s k : ℕ) → k < node_count nodes → IsApplied nodes k → value_name heads names k ≡ s → word by s ≤ s → Dec (word counts k ≡ 0) →
            word by s ≤ k
        lower s k h a e l (yes z) =
            let x = t.least k (record { node = h; applied = a; none = z }) in
            omega (arith, x, e, l)
        lower s k h a e l (no z) =
            let p = o.whole k h (omega (arith, z)) in
            let x = r.least p.0 p.1 in
            rw (p.2, e) at x

  module _ (list : List ℕ) (inside : AreNodes nodes list) (by : List ℕ) where
    -- no free variable is noted yet
    pub free_none : (k : ℕ) → length list ≡ k → length by ≡ node_count nodes → FreeFrom nodes heads names list by by k
    free_none k e l =
        record {
          long = l;
          kept = kept_none (IsFree nodes heads list) (name_at heads names list) (word list) (length list) k (omega arith) by;
          applied = λ s a. refl;
        }

    -- the name of a free variable is no application
    free_name : (k s : ℕ) → k < length list → IsFree nodes heads list k → IsApplied nodes s → s ≡ name_at heads names list k → ⊥
    free_name k s h f a e =
        a (ap (kind_of nodes) (e ∙ m.named.variable (word list k) (inside.node k h) f) ∙ f)

    free_next : (by' : List ℕ) (k : ℕ) → k < length list → FreeFrom nodes heads names list by by' (suc k) →
        FreeFrom nodes heads names list by (free_noted nodes heads names list by' k) k
    unfolding free_noted
    free_next by' k h r = pick (ℕ_discrete (kind_of nodes (class_of heads (word list k))) 0)
      where
        pick : Dec (IsFree nodes heads list k) →
            FreeFrom nodes heads names list by
            (cond (eqb (kind_of nodes (class_of heads (word list k))) 0) (set by' (name_at heads names list k) (word list k)) by') k
        pick (yes f) =
            let b = m.named.node (word list k) (inside.node k h) in
            let l = r.long in
            rw (eq-eqb (kind_of nodes (class_of heads (word list k))) 0 f)
            (record {
              long = length-set by' (name_at heads names list k) (word list k) ∙ r.long;
              kept = kept_set (IsFree nodes heads list) (name_at heads names list) (word list) (length list) k by' h f (omega (arith, b, l)) r.kept;
              applied = λ s a. get_or-set_other by' (name_at heads names list k) s (word list k) 0 (free_name k s h f a) ∙ r.applied s a;
            })
        pick (no f) =
            rw (ne_eqb (kind_of nodes (class_of heads (word list k))) 0 f)
            (record {
              long = r.long;
              kept = kept_skip (IsFree nodes heads list) (name_at heads names list) (word list) (length list) k by' f r.kept;
              applied = r.applied;
            })

    -- one place more
    pub free_down : (by' : List ℕ) (k : ℕ) → 0 < k → k ≤ length list → FreeFrom nodes heads names list by by' k →
        FreeFrom nodes heads names list by (free_noted nodes heads names list by' (k - 1)) (k - 1)
    free_down by' k h l r =
        let e : k ≡ suc (k - 1) = omega arith in
        free_next by' (k - 1) (omega arith) (rw e at r)

-- The words of a list of nodes, by a function.
module _ (f : ℕ → ℕ) (list out : List ℕ) where
  -- The words of the first k nodes, before those past them.
  pub read_to : ℕ → List ℕ
  read_to k = map f (take k list) ++ drop k out

  -- no word is written yet
  pub read_none : out ≡ read_to 0
  unfolding read_to
  read_none = refl

  -- one word more
  pub read_next : (k u : ℕ) → k < length list → k < length out → u ≡ f (word list k) → set (read_to k) k u ≡ read_to (k + 1)
  unfolding read_to
  read_next k u a b e =
      let n : length (map f (take k list)) ≡ k = length-map (take k list) f ∙ length-take-le k list (omega arith) in
      ap (λ (l : List ℕ). set (map f (take k list) ++ l) k u) (drop-cons out k 0 b)
      ∙ set_at (map f (take k list)) (word out k) (drop (suc k) out) u k n ∙ sym (append_snoc (map f (take k list)) u (drop (suc k) out))
      ∙ ap (λ (l : List ℕ). l ++ drop (suc k) out) (ap (λ (z : ℕ). map f (take k list) ++ (z ∷ [])) e ∙ sym
      (map-append f (take k list) (word list k ∷ [])) ∙ ap (map f) (sym (take-suc list k 0 a)))
      ∙ ap (λ (j : ℕ). map f (take j list) ++ drop j out) (sym (add-one k))

  -- all are written
  pub read_all : (k : ℕ) → k ≡ length list → read_to k ≡ map f list ++ drop (length list) out
  unfolding read_to
  read_all k e = rw e (ap (λ (l : List ℕ). map f l ++ drop (length list) out) (take-length list))
