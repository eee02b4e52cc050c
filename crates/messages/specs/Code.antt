-- What functions inside the library promise each other: a finding by its eight words. No contract of a call that users make, and no theorem that
-- docs/ARCHITECTURE.md names, says anything by these; tests/believed.py holds that up.
pub mod Spoken
