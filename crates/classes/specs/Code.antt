-- What contracts of inner functions and laws speak of.
pub mod Ordering
pub mod Closure
pub mod Stands
