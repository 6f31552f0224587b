-- The head of a variable's node: the variable's least node has its term, and no node before it has. Assumes nothing.
use Prim.Native.Nat.{ℕ, ◌+◌, ◌<◌, ◌≤◌}
use mathlib.Core.List.{List}
use mathlib.Core.Path.{◌≡◌, sym, ap, ◌∙◌}
use native.Mathlib.Decide.{ℕ_discrete}
use native.Mathlib.Omega.{arith}
use lib.ListN.{length}
use lib.Seq.{get_or-set_other}
use Rattle.table.specs.Limits.{max_nodes}
use Rattle.table.specs.Layout.{word, kind_of, name_of, node_count}
use Rattle.terms.specs.Term.{var, app}
use Rattle.unification.specs.Node.{Node, node_at, nodes_from, each, spell, term_of}
use Rattle.unification.specs.Code.Sections.{Sections}
use Rattle.unification.proofs.NodeLaws.{term_node}
use Rattle.unification.proofs.SectionLaws.{run, is_node, variable_from, application_from, sections_well_formed}
use Rattle.nodes.specs.Code.Circle.{CirclesBefore}
use Rattle.values.specs.Code.Present.{variable_names, LeastBefore, LeastNoted}
use Rattle.values.specs.Code.Start.{LeastOfTerm, HeadsBefore, PutHead}
use Rattle.values.proofs.LeastLaws.{name_within, least_noted, least_next}
use Rattle.values.proofs.SharingLaws.{least_one, heads_low, heads_next}

module _ (nodes arguments : List ℕ) (s : Sections nodes arguments) where
  abbrev ns : List Node
  ns = nodes_from nodes arguments

  -- a node's term is its node spelt out
  spelt : (j : ℕ) → j < node_count nodes → term_of ns j ≡ spell (term_of ns) (node_at ns j)
  spelt j h = term_node ns (sections_well_formed nodes arguments s) j (is_node nodes arguments j h)

  -- the term of a variable's node
  variable_term : (j : ℕ) → j < node_count nodes → kind_of nodes j ≡ 0 → term_of ns j ≡ var (name_of nodes j)
  unfolding spell
  variable_term j h k = spelt j h ∙ ap (spell (term_of ns)) (variable_from nodes arguments j h k)

  -- that of an application
  application_term : (j : ℕ) → j < node_count nodes → (kind_of nodes j ≡ 0 → ⊥) →
      term_of ns j ≡ app (name_of nodes j) (each (term_of ns) (run nodes arguments j))
  unfolding spell
  application_term j h k = spelt j h ∙ ap (spell (term_of ns)) (application_from nodes arguments j h k)

  -- only a node of a variable has its term
  term_variable : (j x : ℕ) → j < node_count nodes → term_of ns j ≡ var x → (kind_of nodes j ≡ 0) × (name_of nodes j ≡ x)
  term_variable j x h t = go (ℕ_discrete (kind_of nodes j) 0)
    where
      go : Dec (kind_of nodes j ≡ 0) → (kind_of nodes j ≡ 0) × (name_of nodes j ≡ x)
      go (yes k) =
          let q : var (name_of nodes j) ≡ var x = sym (variable_term j h k) ∙ t in
          (k, cc)
      go (no k) =
          let q : app (name_of nodes j) (each (term_of ns) (run nodes arguments j)) ≡ var x = sym (application_term j h k) ∙ t in
          let z : ◌≡◌ {A = ℕ} 0 1 = cc in
          absurd (omega arith)

-- Node i is the next, and one of variable x; node r is noted as its least.
module _ (nodes arguments heads least : List ℕ) (i end x n : ℕ) (b : HeadsBefore nodes arguments heads i) (h : i < node_count nodes)
    (k : kind_of nodes i ≡ 0) (l : LeastBefore nodes least i end) (e : x ≡ name_of nodes i) (m : n ≡ node_count nodes) (r : ℕ) (least' : List ℕ)
    (t : LeastNoted least x i n r least') where
  -- that is the least node with its term
  variable_least : LeastOfTerm nodes arguments i r
  variable_least =
      let w = least_noted nodes least i end x n l h k e (name_within nodes arguments i x b.sections h k e) m r least' t in
      let a = w.0 in
      record {
        low = a;
        same =
            variable_term nodes arguments b.sections r (omega (arith, a, h)) w.1
            ∙ ap var (w.2 ∙ e) ∙ sym (variable_term nodes arguments b.sections i h k);
        least = λ j g q.
            let d = q ∙ variable_term nodes arguments b.sections i h k in
            let v = term_variable nodes arguments b.sections j (name_of nodes i) (omega (arith, g, h)) d in
            w.3 j g v.0 (v.1 ∙ sym e);
      }

  -- it can be put as the head of node i
  pub variable_put : (next : List ℕ) → CirclesBefore heads next i →
      ((i < length heads) × (length heads ≤ max_nodes) × (r ≤ i) × (r < i → word heads r ≡ r)) ×
      (((j : ℕ) → j < i → word heads j ≤ j) × CirclesBefore heads next i)
  variable_put next c =
      let z = b.size in
      let y = b.sections.limit in
      ((omega (arith, z, h), omega (arith, z, y), variable_least.low, itself), (heads_low nodes arguments heads i b, c))
    where
      itself : r < i → word heads r ≡ r
      itself g = least_one nodes arguments r i (word heads r) r variable_least.same (b.head r g) variable_least

  -- once it is put, one node more has its head, those of the nodes before it stay, and one node more is noted
  pub variable_shared : (next heads' next' : List ℕ) (past : ℕ) → PutHead heads next i r heads' next' →
      (end ≤ past) × (x < past) × (past ≤ variable_names) →
      (HeadsBefore nodes arguments heads' (i + 1) × CirclesBefore heads' next' (i + 1)) ×
      (LeastBefore nodes least' (i + 1) past × ((j : ℕ) → j < i → word heads' j ≡ word heads j))
  variable_shared next heads' next' past p w = (
    (rw p.headed (heads_next nodes arguments heads i r h b variable_least), p.circles),
    (
      least_next nodes least i end x n l h k e (name_within nodes arguments i x b.sections h k e) m r least' past t w,
      λ j g. rw p.headed (get_or-set_other heads i j r 0 (λ z. omega (arith, g, z))),
    ),
  )
