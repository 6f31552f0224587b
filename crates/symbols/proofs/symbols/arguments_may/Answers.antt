-- Two arguments at one place that differ leave the nodes never equal.
use native.Mathlib.Omega.{arith}
use Rattle.symbols.proofs.SymbolLaws.{never_arguments}
use Rattle.symbols.proofs.symbols.arguments_may.Goals as goal

pub returns-then-differ : goal.returns-then-differ
returns-then-differ c =
    let e = c.arity-count.ensures.0 in
    λ z. never_arguments _ _ c.requires.sections _ _ c.requires.a_bound.0 c.requires.a_bound.1 c.requires.a_value.0 c.requires.a_value.1 _
    (omega (arith, c.loop-j-test.true, e)) _ _ c.argument-x.ensures.0 c.argument-y.ensures.0 _ c.differ.ensures c.if-differ.true
