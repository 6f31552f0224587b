-- Each test decides one way of the definition, and the last by the bit. A set with a term that is not in it is still a set of eight terms.
use Prim.Native.Nat.{◌-◌}
use native.Mathlib.Omega.{arith}
use Rattle.branches.proofs.BitLaws.{set_more, open_struck, open_taken, open_bit}
use Rattle.branches.proofs.branch.is_open.Goals as goal

pub returns-then-row-d-eq0 : goal.returns-then-row-d-eq0
returns-then-row-d-eq0 c =
    open_struck _ _ c.args.i c.args.d _ _ c.at-row.ensures.0 c.if-row-d-eq0.true

pub returns-then-paired-d-eq1 : goal.returns-then-paired-d-eq1
returns-then-paired-d-eq1 c =
    open_taken _ _ c.args.i c.args.d c.args.paired _ c.at-row.ensures.0 c.if-paired-d-eq1.true

pub can_complete-requires : goal.can_complete-requires
can_complete-requires c =
    let m = set_more c.args.paired (c.args.d - 1) (omega (arith, c.requires.i_bound)) (omega (arith, c.requires.i_bound)) c.if-paired-d-eq1.false in
    (c.requires.known_len.1, c.requires.i_bound.0, omega (arith, m, c.with_pair.ensures))

pub returns : goal.returns
returns c =
    open_bit _ _ c.args.i c.args.d c.args.paired _ c.at-row.ensures.0
    c.if-row-d-eq0.false c.if-paired-d-eq1.false _ c.with_pair.ensures _ c.can_complete.ensures
