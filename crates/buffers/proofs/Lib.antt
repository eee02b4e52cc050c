pub mod WrittenLaws
pub mod FittedLaws
pub mod CopyLaws
pub mod PutLaws
pub mod DigitLaws
pub mod TextLaws
