-- What a reader has to believe of the table, in document 01's order.
pub mod Limits
pub mod Some
pub mod Layout
pub mod Conditions
pub mod Refusal
pub mod Answer
-- What nobody has to believe: what contracts of inner functions and laws speak of.
pub mod Code
