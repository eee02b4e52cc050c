-- What functions inside the library promise each other: what is met on the ways through a law, and what a tally and a buffer then hold. No contract of a call that users make, and no theorem that
-- docs/ARCHITECTURE.md names, says anything by these; tests/believed.py holds that up.
pub mod Events
pub mod Walk
pub mod Tasks
pub mod Judging
pub mod DeadSteps
pub mod Ways
pub mod All
