-- The first row that has the right term, by the first item of the rows that passes the test.
use Prim.Native.Nat.{◌/◌, ◌%◌, ◌^◌, ◌+◌, ◌-◌}
use mathlib.Core.Path.{◌≡◌}
use native.Mathlib.Omega.{arith}
use borrow.Author.Rules.{rules}
use borrow.Author.Tests.{tests}
use Rattle.std.proofs.lemmas.Iterator.{IsFirst-from_position, YieldsList-from_slice}
use Rattle.forcing.proofs.TakerLaws.{first_taker}
use Rattle.forcing.proofs.forced.taker.Goals as goal

pub returns : goal.returns
returns c =
    let j = c.args.j in
    first_taker c.args.known.now j (600 + c.at-n.result - 600) _ (omega arith) (omega arith)
    (IsFirst-from_position _ _ _ (λ x. x / 2 ^ j % 2 ≡ 1) (λ x. x / 2 ^ j % 2 ≡ 1 → ⊥) c.position.ensures.ran
    (YieldsList-from_slice _ c.iter.ensures.rest) (λ x q k. search (rules, tests)) (λ x q k. search (rules, tests)))
