-- What a reader has to believe of terms.
pub mod Term
pub mod Substitution
pub mod Multiset
