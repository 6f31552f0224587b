-- What contracts of inner functions and laws speak of.
pub mod Open
pub mod Circle
pub mod Uniting
pub mod Trail
pub mod Order
pub mod Named
pub mod Formed
