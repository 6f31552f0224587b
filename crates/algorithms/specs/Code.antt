-- What laws speak of. Nobody has to believe these.
pub mod Placing
