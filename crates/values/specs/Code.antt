-- What contracts of inner functions and laws speak of.
pub mod Kept
pub mod Present
pub mod Start
pub mod Applications
pub mod Naming
pub mod Prepared
pub mod Begins
