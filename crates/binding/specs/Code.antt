-- What contracts of inner functions and laws speak of. No reader has to believe these.
pub mod Binding
