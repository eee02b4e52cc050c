pub mod FormatOf
pub mod Infer
pub mod Store
pub mod Call
pub mod Examples
pub mod Code
