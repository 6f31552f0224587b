-- What a reader has to believe of bytes that are read and written, in document 01's order.
pub mod Input
pub mod Line
-- What nobody has to believe: what contracts of inner functions and laws speak of.
pub mod Code
