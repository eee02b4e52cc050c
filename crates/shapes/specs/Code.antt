-- What functions inside the library promise each other: a format's words, the first shape of a row, and what a join leaves in a buffer. No contract of a call that users make, and no theorem that
-- docs/ARCHITECTURE.md names, says anything by these; tests/believed.py holds that up.
pub mod Words
pub mod Leaves
pub mod Rows
pub mod Shown
