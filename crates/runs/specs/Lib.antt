pub mod Machine
pub mod Claim
pub mod Examples
pub mod TermRuns
pub mod ConditionRuns
pub mod Refuting
pub mod FalseListings
pub mod Premises
