-- Laws of the definitions, and of what the code writes.
pub mod InputLaws
pub mod ByteLaws
pub mod DecimalLaws
pub mod NumeralLaws
pub mod WritingLaws
pub mod LineLaws
