-- What functions inside the library promise each other: lines by the words of findings. No contract of a call that users make, and no theorem that
-- docs/ARCHITECTURE.md names, says anything by these; tests/believed.py holds that up.
pub mod Lines
