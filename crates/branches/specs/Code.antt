-- What contracts of inner functions and laws speak of.
pub mod Known
pub mod Ahead
pub mod Branch
pub mod Walk
