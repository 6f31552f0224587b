-- Document 000's own words, in its order.
pub mod Mmset
pub mod Algorithms
pub mod Sides
pub mod Unifier
-- What nobody has to believe: what laws speak of.
pub mod Code
