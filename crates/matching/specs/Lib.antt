pub mod Pattern
pub mod Match
pub mod Fill
pub mod Order
pub mod Literal
pub mod Shadow
pub mod Examples
pub mod Code
