-- Laws of the definitions.
pub mod BoolLaws
pub mod SomeLaws
pub mod LayoutLaws
pub mod NodeLaws
pub mod ConditionLaws
pub mod SectionLaws
pub mod RefusalLaws
pub mod AcceptedLaws
pub mod AnswerLaws
