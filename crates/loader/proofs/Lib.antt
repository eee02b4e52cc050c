pub mod RowLaws
pub mod LoadedLaws
pub mod BytesLaws
pub mod ShownLaws
pub mod PrintedLaws
pub mod TypedLaws
pub mod MarkedLaws
