-- What functions inside the library promise each other: parts of the term records, bindings, and what the first record of a pattern leaves to do. No contract of a call that users make, and no theorem that
-- docs/ARCHITECTURE.md names, says anything by these; tests/believed.py holds that up.
pub mod Part
pub mod Bound
pub mod Step
