-- The only right term of the row is the partner in every choice.
use mathlib.Core.Path.{sym, ◌∙◌}
use native.Mathlib.Omega.{arith}
use Rattle.forcing.proofs.ForcedLaws.{forced_left}
use Rattle.forcing.proofs.forced.force_left.Goals as goal

pub returns : goal.returns
returns c =
    let p = c.requires in
    forced_left p.known_of p.based p.known_value.0 _ _ p.known_value.1 (omega arith) (sym c.at.ensures.0 ∙ c.in-Some.ensures)
    c.join_pair.ensures
