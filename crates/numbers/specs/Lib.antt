pub mod Value
pub mod OnePass
pub mod Examples
pub mod Code
