-- Laws of terms, substitutions and multisets.
pub mod TermLaws
pub mod SubstitutionLaws
pub mod SizeLaws
pub mod MultisetLaws
