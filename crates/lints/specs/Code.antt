-- What functions inside the library promise each other: parts, record numbers, overrides and verdicts. No contract of a call that users make, and no theorem that
-- docs/ARCHITECTURE.md names, says anything by these; tests/believed.py holds that up.
pub mod Part
pub mod Records
pub mod Overrides
pub mod Verdicts
