pub mod TextLaws
pub mod FoundLaws
pub mod WordLaws
pub mod NameLaws
pub mod FormatLaws
