-- Different symbols clash, and so do closed applications of different classes.
use mathlib.Core.Path.{sym, ◌∙◌}
use borrow.Author.Tests.{eqb-false}
use Rattle.ahead.proofs.StruckLaws.{never_differ, never_closed}
use Rattle.ahead.proofs.pairs.see.Goals as goal

pub returns-then-differ : goal.returns-then-differ
returns-then-differ c = λ z. never_differ _ _ _ c.requires.known_of.0.sections _ c.requires.known_of.1 c.args.a.0 c.args.b.0
    c.requires.a_bound.0 c.requires.a_bound.1 _ _ c.node_in-g.ensures.0 c.node_in-h.ensures.0 _ c.differ.ensures c.if-differ.true

pub returns-then-both_closed : goal.returns-then-both_closed
returns-then-both_closed c = λ z. never_closed _ _ _ c.requires.known_of.0.sections _ c.requires.known_of.1 c.args.a.0 c.args.b.0
    c.requires.a_bound.0 c.requires.a_bound.1 c.requires.known_of.0.counts _ _ c.node_in-g.ensures.0 c.node_in-h.ensures.0
    (eqb-false _ _ (sym c.eq.ensures ∙ c.if-eq.false)) _ c.both_closed.ensures c.if-both_closed.true
