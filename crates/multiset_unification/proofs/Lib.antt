-- Laws of the definitions, from the bottom up: of lists of terms and labels,
pub mod DigitLaws
pub mod ChoiceLaws
pub mod PlaceLaws
pub mod CountLaws
pub mod UnusedLaws
pub mod PutLaws
pub mod BalanceLaws
pub mod FilledLaws
pub mod TakenLaws
pub mod CoverLaws
pub mod LabelLaws
-- of one half, of all halves, and of a problem,
pub mod HalfLaws
pub mod HalvesLaws
pub mod ProblemLaws
pub mod EntryLaws
pub mod CompleteLaws
-- of what a listing answers and leaves,
pub mod AnswerLaws
pub mod LentLaws
pub mod Page14
pub mod PromiseLaws
pub mod InstanceLaws
pub mod Page14Laws
pub mod AssignmentLaws
-- and of document 01's table.
pub mod OneHalfLaws
pub mod TableLaws
pub mod Starred
