-- What a reader has to believe of the listing, in document 01's order.
pub mod Problem
pub mod Choice
pub mod Entry
pub mod Assignment
pub mod Instance
pub mod Answer
pub mod Page14
-- What nobody has to believe: definitions that compute what a relation says.
pub mod Computed
pub mod Code
