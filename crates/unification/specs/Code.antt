-- What contracts of inner functions and laws speak of. No reader has to believe these.
pub mod Given
pub mod Sections
pub mod Heads
pub mod Solved
pub mod Valued
