-- What functions inside the library promise each other: where things stand in a law, the levels of a run, and the index that is filled. No contract of a call that users make, and no theorem that
-- docs/ARCHITECTURE.md names, says anything by these; tests/believed.py holds that up.
pub mod Terms
pub mod Levels
pub mod Index
pub mod Filling
pub mod Accepted
pub mod Whole
