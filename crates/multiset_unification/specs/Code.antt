-- What laws speak of, and functions by which lists are made.
pub mod Posed
pub mod InEvery
pub mod LeavesEntries
