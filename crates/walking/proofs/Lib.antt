-- Laws that the proofs of the code need, from the bottom up.
pub mod WalkLaws
pub mod BoundLaws
pub mod LeafLaws
