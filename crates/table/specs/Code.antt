-- What contracts of inner functions and laws speak of. No reader has to believe these.
pub mod Sections
pub mod Reading
pub mod Accepted
