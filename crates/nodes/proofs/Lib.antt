-- Laws that the proofs of the code above need, from the bottom up.
pub mod OpenLaws
pub mod CircleLaws
