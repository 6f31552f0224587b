-- The numbers are stored one after the other. By the definition of what is stored.
use Prim.Native.Nat.{ℕ, ◌+◌}
use mathlib.Core.Path.{ap}
use lib.ListN.{set}
use Rattle.branches.specs.Code.Known.{counted}
use Rattle.branches.proofs.known.put_counts.Goals as goal

pub returns : goal.returns
unfolding counted
returns c =
    let a = c.args in
    ap (λ (x : ℕ). set (set (set (set (set (set (set a.known.now 577 a.v) 578 a.n) 579 a.m) 580 a.k) 581 a.l) 582
    (a.n + a.m + a.v)) 583 x) c.every-all.ensures.0
