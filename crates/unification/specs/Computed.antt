-- Definitions that compute. Each is tied by a law to a relation in document 01's words, so no reader has to believe these.
pub mod Variables
pub mod Classes
pub mod Walks
pub mod Solution
pub mod Binding
pub mod Unifying
