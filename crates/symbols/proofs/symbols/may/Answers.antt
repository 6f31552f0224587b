-- It refuses nodes of one symbol by their arguments, and applications of different symbols.
use Rattle.symbols.proofs.SymbolLaws.{never_symbols}
use Rattle.symbols.proofs.symbols.may.Goals as goal

pub returns : goal.returns
returns c =
    never_symbols _ _ c.requires.sections _ _ c.requires.a_bound.0 c.requires.a_bound.1 _ _ _ c.one_symbol.ensures
    c.if-one_symbol.false c.is_variable.ensures c.is_variable-2.ensures
