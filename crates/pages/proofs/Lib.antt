pub mod FieldLaws
pub mod NumberLaws
pub mod LineLaws
pub mod PageLaws
pub mod LayoutLaws
pub mod WordsLaws
