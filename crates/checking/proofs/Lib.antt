-- The steps that the proofs of several functions share.
pub mod LoopLaws
