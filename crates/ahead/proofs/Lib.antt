-- Laws that the proofs of the code need, from the bottom up.
pub mod BitLaws
pub mod PlanLaws
pub mod StruckLaws
pub mod FitLaws
pub mod AheadLaws
