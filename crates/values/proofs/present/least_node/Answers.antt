-- A node stands at the variable's number, or node i is put there.
use mathlib.Core.Path.{refl}
use native.Mathlib.Omega.{arith}
use Rattle.values.specs.Code.Present.{stood, noted_here}
use Rattle.values.proofs.present.least_node.Goals as goal

pub returns-then-z-n : goal.returns-then-z-n
returns-then-z-n c =
    let e = c.entry-z.ensures in
    let l = c.if-z-n.true in
    stood (omega (arith, e, l)) e refl

pub returns : goal.returns
returns c =
    let e = c.entry-z.ensures in
    let l = c.if-z-n.false in
    noted_here (omega (arith, e, l)) refl refl
