pub mod Token
pub mod Lex
pub mod Code
pub mod Examples
