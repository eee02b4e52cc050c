-- What functions inside the library promise each other: what the two searches are asked, remember and answer. No contract of a call that users make, and no theorem that
-- docs/ARCHITECTURE.md names, says anything by these; tests/believed.py holds that up.
pub mod Capacity
pub mod Asked
pub mod Repeats
pub mod Failed
