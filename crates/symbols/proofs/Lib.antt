-- Laws that the proofs of the code need, from the bottom up.
pub mod SymbolLaws
pub mod UnpairedLaws
pub mod SetLaws
