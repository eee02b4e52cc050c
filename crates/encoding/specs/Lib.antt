pub mod Encode
pub mod TextTree
pub mod LawOfText
pub mod Code
pub mod Examples
