pub mod Outcome
pub mod Promise
pub mod Examples
pub mod Code
