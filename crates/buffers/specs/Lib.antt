pub mod Written
pub mod Fitted
pub mod Decimal
pub mod Code
