-- What a reader has to believe of the program `list`.
pub mod Printed
-- What nobody has to believe: what contracts of inner functions and laws speak of.
pub mod Code
