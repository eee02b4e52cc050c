pub mod Page
pub mod Examples
pub mod Code
