-- What a reader has to believe of unification, in document 01's order.
pub mod Node
pub mod Unifier
pub mod Closure
pub mod Words
pub mod Outcome
pub mod Answer
pub mod Decided
-- What nobody has to believe: definitions that compute what a relation says, and what contracts of inner functions and laws speak of.
pub mod Computed
pub mod Code
