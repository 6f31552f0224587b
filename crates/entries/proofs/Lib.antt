-- Laws that the proofs of the code need, from the bottom up.
pub mod WritingLaws
pub mod BlockLaws
pub mod RightLaws
