-- Laws that the proofs of the code need, from the bottom up.
pub mod RelabelLaws
pub mod TrailLaws
pub mod ClosedClashLaws
pub mod ClosureLaws
pub mod JoinLaws
pub mod OrderedLaws
pub mod OrderLaws
pub mod FollowLaws
pub mod MendLaws
pub mod ExtensionLaws
pub mod AtOnceLaws
