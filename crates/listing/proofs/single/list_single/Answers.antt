-- The two terms are unified behind two digits, or there is no entry.
use Prim.Native.Nat.{◌-◌}
use mathlib.Core.Path.{◌≡◌}
use native.Mathlib.Omega.{arith}
use borrow.Author.Rules.{rules}
use lib.ListN.{length}
use Rattle.unification.specs.declared.Unification.TheVariants.{Unified}
use Rattle.unification.proofs.SectionLaws.{is_node}
use Rattle.listing.proofs.SingleLaws.{second_room, single_finished, single_failed}
use Rattle.listing.proofs.single.list_single.Goals as goal

pub bounds-out-1 : goal.bounds-out-1
bounds-out-1 c =
    second_room c.args.out.now c.unify_nodes.new.out (length c.args.out.now - 2) (omega (arith, c.requires.a_bound.2))

pub returns-in-Ok-Unified : goal.returns-in-Ok-Unified
returns-in-Ok-Unified c =
    let p = c.requires in
    let u = rw c.in-Ok-Unified.field-0-is at c.in-Ok-Unified.is in
    single_finished _ _ _ _ c.unify_nodes.ensures (is_node _ _ _ p.a_bound.0) (is_node _ _ _ p.a_bound.1) p.arguments_len_bound p.a_bound.2 u

pub returns-in_default : goal.returns-in_default
returns-in_default c =
    let p = c.requires in
    let other : c.in_default.field-0 ≡ Unified → ⊥ = search rules in
    single_failed _ _ _ _ c.unify_nodes.ensures (is_node _ _ _ p.a_bound.0) (is_node _ _ _ p.a_bound.1) p.arguments_len_bound p.a_bound.2 _
    c.in_default.is (λ e. other (cc e))

pub returns-in_default-2 : goal.returns-in_default-2
returns-in_default-2 c =
    let p = c.requires in
    single_failed _ _ _ _ c.unify_nodes.ensures (is_node _ _ _ p.a_bound.0) (is_node _ _ _ p.a_bound.1) p.arguments_len_bound p.a_bound.2 _
    c.in_default.is (λ e. cc e)
