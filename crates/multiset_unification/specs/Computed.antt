-- Definitions that compute. Each is tied by a law to a relation in document 01's words, so no reader has to believe these.
pub mod Choices
pub mod Listing
