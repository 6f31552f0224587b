-- Laws of the definitions, and of what the code writes.
pub mod LengthLaws
pub mod PrintLaws
pub mod PrintedExamples
