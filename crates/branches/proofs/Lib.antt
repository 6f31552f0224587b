-- Laws that the proofs of the code need, from the bottom up.
pub mod OverLaws
pub mod BelowLaws
pub mod BlockLaws
pub mod BitLaws
pub mod SetLaws
pub mod KnownLaws
pub mod SidesLaws
pub mod PairLaws
pub mod CompleteLaws
pub mod BranchLaws
pub mod BasedLaws
