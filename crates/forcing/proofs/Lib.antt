-- Laws that the proofs of the code need, from the bottom up.
pub mod ForcedLaws
pub mod SettledLaws
pub mod TakerLaws
pub mod RowLaws
