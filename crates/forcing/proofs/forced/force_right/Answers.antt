-- The only left term that may take the right term does in every choice.
use Rattle.branches.proofs.BitLaws.{has_false}
use Rattle.forcing.proofs.ForcedLaws.{forced_right, none_right, forced_never}
use Rattle.forcing.proofs.forced.force_right.Goals as goal

pub returns-in_default : goal.returns-in_default
returns-in_default c =
    let p = c.requires in
    forced_never (none_right p.known_of p.based p.known_value.0 _ p.known_value.1 c.in_default.ensures)

pub returns : goal.returns
returns c =
    let p = c.requires in
    let o = p.known_value.2.others _ (has_false _ _ c.if-twice-j-eq1.false) in
    forced_right p.known_of p.based p.known_value.0 _ _ p.known_value.1 o c.in-Some.ensures c.join_pair.ensures
