-- What contracts of inner functions and laws speak of.
pub mod Forced
