-- Laws of what the answers of a listing say.
pub mod ClosingLaws
