-- What functions inside the library promise each other: what is gathered, and what is written of it. No contract of a call that users make, and no theorem that
-- docs/ARCHITECTURE.md names, says anything by these; tests/believed.py holds that up.
pub mod Gather
pub mod Bytes
