-- What the walk begins with: the entries on top of pairs that every choice has are all entries.
-- By the laws of what is below the branch without digits. Assumes nothing.
use Prim.Native.Nat.{ℕ, ◌+◌, ◌<◌}
use mathlib.Core.List.{List, []}
use mathlib.Core.Path.{◌≡◌, sym, ap, ◌∙◌}
use native.Mathlib.Omega.{arith}
use lib.ListN.{replicate}
use Rattle.table.specs.Layout.{word}
use Rattle.unification.specs.Node.{nodes_from}
use Rattle.unification.specs.Outcome.{unified}
use Rattle.unification.specs.Code.Given.{WellFormed}
use Rattle.unification.specs.Computed.Unifying.{outcome}
use Rattle.unification.proofs.SectionLaws.{is_node, sections_well_formed}
use Rattle.classes.proofs.AtOnceLaws.{formed_unified}
use Rattle.branches.specs.Code.Known.{left_count, right_count, left_labels, right_labels, left_in, right_in, KnownOf}
use Rattle.branches.specs.Code.Walk.{below, all_entries, NoneOfKnown, Based}
use Rattle.branches.proofs.BelowLaws.{Nodes, below_in_every, below_never, same_unified}
use Rattle.branches.proofs.KnownLaws.{left_long, right_long, left_word, right_word}

module _ {nodes arguments known : List ℕ} (k : KnownOf nodes arguments known) where
  -- the nodes are well formed
  well_formed_nodes : WellFormed (nodes_from nodes arguments)
  well_formed_nodes = sections_well_formed nodes arguments k.sections

  -- the terms are nodes
  left_nodes : Nodes (nodes_from nodes arguments) (left_in known)
  left_nodes i h =
      let l : i < left_count known = omega (arith, h, left_long k) in
      rw (left_word known i l) (is_node nodes arguments (word known (584 + i)) (k.left_nodes i l))

  right_nodes : Nodes (nodes_from nodes arguments) (right_in known)
  right_nodes j h =
      let l : j < right_count known = omega (arith, h, right_long k) in
      rw (right_word known j l) (is_node nodes arguments (word known (592 + j)) (k.right_nodes j l))

  -- there is no entry where no choice is admissible
  pub never_entries : NoneOfKnown nodes arguments known → all_entries nodes arguments known [] ≡ []
  never_entries n =
      ap
      (λ (m : ℕ). below (nodes_from nodes arguments) (right_in known) (left_labels known) (right_labels known) (left_in known) [] [] (replicate m 1))
      (sym (right_long k))
      ∙ below_never (nodes_from nodes arguments) well_formed_nodes (left_in known) (right_in known) left_nodes right_nodes (left_labels known)
      (right_labels known) n

  module _ {heads next : List ℕ} (b : Based nodes arguments known heads next) where
    -- what the classes stand for has a unifier
    based_unified : outcome (nodes_from nodes arguments) b.pairs ≡ unified
    based_unified =
        let s = b.pairing.standing in
        (same_unified (nodes_from nodes arguments) well_formed_nodes s.pairs b.pairs s.stands.inside s.inside s.unifiers).0
        (formed_unified nodes arguments known heads k.sections b.formed k.counts s.pairs s.stands)

    -- the entries on top of it are all
    pub based_entries : all_entries nodes arguments known b.pairs ≡ all_entries nodes arguments known []
    based_entries =
        rw (← right_long k)
        (below_in_every (nodes_from nodes arguments) well_formed_nodes (left_in known) (right_in known) left_nodes right_nodes (left_labels known)
        (right_labels known) b.pairs b.pairing.standing.inside based_unified b.in_every)
