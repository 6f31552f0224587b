-- Laws that the proofs of the code need, from the bottom up.
pub mod WidthLaws
pub mod CallingLaws
pub mod SingleLaws
