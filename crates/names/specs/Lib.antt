pub mod Name
pub mod Examples
