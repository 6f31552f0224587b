-- The parts of what is known that are lent are those that `bind` asks for, and the words of the classes are those of their pairs.
use native.Mathlib.Omega.{arith}
use Rattle.walking.proofs.BoundLaws.{bound_none, bound_new, opens_part, list_part}
use Rattle.walking.proofs.walk.put_words.Goals as goal

pub returns-then-words-end : goal.returns-then-words-end
returns-then-words-end c =
    bound_none c.requires.known_of.0 c.requires.len _ _ c.at.ensures.0 c.at-2.ensures.0 c.if-words-end.true

pub bind-requires-clause-formed : goal.bind-requires-clause-formed
bind-requires-clause-formed c = (c.requires.known_of.1, opens_part c.requires.known_of.0 _ c.at-opens_end.ensures.0)

pub bind-requires-clause-list_value : goal.bind-requires-clause-list_value
bind-requires-clause-list_value c =
    let k = c.requires.known_of.0 in (
      list_part k _ c.at-list_end.ensures.0,
      omega (arith, k.width, c.requires.len, c.at-list_end.ensures.0, c.at-2.ensures.0, c.at.ensures.0),
    )

pub returns : goal.returns
returns c =
    bound_new c.requires.known_of.0 c.requires.len c.requires.known_of.1 _ _ c.at.ensures.0 c.at-2.ensures.0 _ c.bind.ensures
