-- What contracts of inner functions and laws speak of.
pub mod Plan
pub mod Struck
pub mod Whole
