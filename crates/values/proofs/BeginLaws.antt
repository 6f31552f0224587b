-- What is begun with, node by node: a variable has no arguments to count, and counts that are right up to a node go on from there. Assumes
-- nothing.
use Prim.Native.Nat.{ℕ, ◌+◌, ◌≤◌, ◌<◌}
use mathlib.Core.List.{List}
use mathlib.Core.Logic.{inl}
use mathlib.Core.Path.{◌≡◌, refl, sym, subst, ◌∙◌}
use native.Mathlib.Omega.{arith}
use lib.ListN.{length, replicate, take, drop, length-replicate, get_or-replicate}
use Rattle.table.specs.Limits.{max_nodes}
use Rattle.table.specs.Layout.{word, kind_of, node_count}
use Rattle.unification.specs.Code.Sections.{Sections}
use Rattle.nodes.specs.Code.Open.{Counts, CountedAt, OpenListed}
use Rattle.nodes.specs.Code.Circle.{CirclesBefore}
use Rattle.nodes.specs.Code.Trail.{Trailed}
use Rattle.values.specs.declared.applications.Applications.{Applications}
use Rattle.values.specs.Code.Applications.{IsEmpty}
use Rattle.values.specs.Code.Present.{variable_names, LeastBefore, KeepsOthers}
use Rattle.values.specs.Code.Start.{HeadsBefore, Sharing}
use Rattle.values.specs.Code.Prepared.{IsOpen, OpenBefore, CountNoted}
use Rattle.values.proofs.ChainLaws.{chained_none}
use Rattle.values.proofs.LeastLaws.{least_none}
use Rattle.values.proofs.CountLaws.{counts_kept}
use Rattle.values.proofs.CirclesBeginLaws.{circles_all}
use Rattle.values.proofs.PreparedLaws.{gathered_same, open_next, open_all}

-- a variable has no arguments that are looked at
counted_variable : (nodes arguments counts : List ℕ) (i : ℕ) → Sections nodes arguments → i < node_count nodes → kind_of nodes i ≡ 0 →
    CountedAt nodes arguments counts i 0
counted_variable nodes arguments counts i s h k =
    let e = s.variable_count_lem i h k in
    record { some = inl refl; below = λ z j q. absurd (omega (arith, q, e)); above = λ z. refl }

-- so its count is 0
pub open_variable : (nodes arguments counts : List ℕ) (opens i : ℕ) → Sections nodes arguments → OpenBefore nodes arguments counts counts opens i →
    i < node_count nodes → 512 ≤ length counts → kind_of nodes i ≡ 0 → {r : ℕ} {counts' : List ℕ} → CountNoted counts i 0 opens r counts' →
    OpenBefore nodes arguments counts counts' r (i + 1)
open_variable nodes arguments counts opens i s o h l k {r} {counts'} n =
    open_next nodes arguments counts counts opens i 0 s o h l (counted_variable nodes arguments counts i s h k) r counts' n

-- counts are as they are from themselves on
pub open_here : {nodes arguments counts₀ counts : List ℕ} {opens i : ℕ} → OpenBefore nodes arguments counts₀ counts opens i →
    OpenBefore nodes arguments counts counts opens i
open_here o = record { size = refl; counted = o.counted; gathered = o.gathered; fewer = o.fewer; behind = λ k h. refl }

-- and those that go on from there are so from the first
pub open_on : {nodes arguments counts₀ counts counts' : List ℕ} {opens opens' i j : ℕ} → OpenBefore nodes arguments counts₀ counts opens i →
    OpenBefore nodes arguments counts counts' opens' j → OpenBefore nodes arguments counts₀ counts' opens' j
open_on o p =
    record { size = p.size ∙ o.size; counted = p.counted; gathered = p.gathered; fewer = p.fewer; behind = λ k h. p.behind k h ∙ o.behind k h }

-- all nodes are gone over
pub shared_all : (nodes arguments counts₀ least heads next counts : List ℕ) (t : Applications) (opens past i n : ℕ) → n ≡ node_count nodes → i ≤ n →
    n ≤ i →
    Sharing nodes arguments heads t i → LeastBefore nodes least i past → CirclesBefore heads next i →
    OpenBefore nodes arguments counts₀ counts opens i →
    HeadsBefore nodes arguments heads (node_count nodes) ×
    ((LeastBefore nodes least (node_count nodes) past × CirclesBefore heads next (node_count nodes)) ×
    OpenBefore nodes arguments counts₀ counts opens (node_count nodes))
shared_all nodes arguments counts₀ least heads next counts t opens past i n e a b s l c o =
    let q : node_count nodes ≡ i = omega arith in (
      subst (HeadsBefore nodes arguments heads) (sym q) s.before,
      (
        (subst (λ (k : ℕ). LeastBefore nodes least k past) (sym q) l, subst (CirclesBefore heads next) (sym q) c),
        subst (OpenBefore nodes arguments counts₀ counts opens) (sym q) o,
      ),
    )

-- at first no node has a head, and the table is empty
pub sharing_none : (nodes arguments heads : List ℕ) (t : Applications) → Sections nodes arguments → length heads ≡ node_count nodes → IsEmpty t →
    Sharing nodes arguments heads t 0
sharing_none nodes arguments heads t s l e =
    record {
      before = record { sections = s; size = l; head = λ k h. absurd (omega arith) };
      chained = chained_none _ _ t e;
    }

-- no variable has a node yet: n stands at each
pub none_noted : (nodes : List ℕ) (n : ℕ) → n ≡ node_count nodes → LeastBefore nodes (replicate variable_names n) 0 0
none_noted nodes n e =
    least_none nodes (replicate variable_names n) (length-replicate {A = ℕ} variable_names n) (λ x h. get_or-replicate variable_names x n 0 h ∙ e)

-- the members of each class stand in circles
pub all_trailed : (nodes arguments heads next : List ℕ) → HeadsBefore nodes arguments heads (node_count nodes) →
    CirclesBefore heads next (node_count nodes) → Trailed (node_count nodes) heads next
all_trailed nodes arguments heads next b c =
    let e = b.size in
    let z = b.sections.limit in
    subst (λ (n : ℕ). Trailed n heads next) e
    (circles_all heads next (node_count nodes) (omega (arith, e, z)) (omega (arith, e)) (omega (arith, e)) c)

-- counts and open applications stay where the variables are listed behind them
open_kept : (nodes arguments counts counts' : List ℕ) (opens : ℕ) → Sections nodes arguments →
    OpenBefore nodes arguments counts counts opens (node_count nodes) → KeepsOthers counts counts' →
    OpenBefore nodes arguments counts' counts' opens (node_count nodes)
open_kept nodes arguments counts counts' opens s o k =
    record {
      size = refl;
      counted = counts_kept nodes arguments counts counts' (node_count nodes) (omega arith) k.long early o.counted;
      gathered =
          gathered_same (IsOpen counts) (IsOpen counts') 256 counts counts' opens (node_count nodes) (λ j h q. rw (early j h) q)
          (λ j h q. let e = early j h in omega (arith, e, q))
          (λ p h. k.before (256 + p) (let f = o.fewer in let z = s.limit in omega (arith, h, f, z)))
          o.gathered;
      fewer = o.fewer;
      behind = λ j h. refl;
    }
  where
    early : (j : ℕ) → j < node_count nodes → word counts' j ≡ word counts j
    early j h = k.before j (let z = s.limit in omega (arith, h, z))

-- the open applications of all nodes, and the variables behind them
pub all_counted : (nodes arguments counts₀ counts counts' : List ℕ) (opens : ℕ) → Sections nodes arguments → 576 ≤ length counts₀ →
    OpenBefore nodes arguments counts₀ counts opens (node_count nodes) → KeepsOthers counts counts' →
    Counts nodes arguments counts' (node_count nodes) × ((opens < max_nodes) × (OpenListed nodes counts' (take opens (drop 256 counts')) ×
    (((k : ℕ) → 576 ≤ k → word counts' k ≡ word counts₀ k) × (length counts' ≡ length counts₀))))
all_counted nodes arguments counts₀ counts counts' opens s l o k =
    let z = s.limit in
    let m = k.long in
    let q = o.size in
    let r = open_all nodes arguments counts' counts' opens (node_count nodes) (node_count nodes) s (omega (arith, l, m, q)) refl (omega (arith, z))
    (omega arith) (omega arith) (open_kept nodes arguments counts counts' opens s (open_here o) k) in
    (r.0, (r.1.0, (r.1.1.0, ((λ j h. k.behind j h ∙ o.behind j (omega (arith, h))), m ∙ q))))
