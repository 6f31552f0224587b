-- Laws of the binding words, from the bottom up.
pub mod NotingLaws
pub mod BindingLaws
pub mod PlainLaws
pub mod PrefixLaws
