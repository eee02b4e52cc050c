-- What functions inside the library promise each other: the counts and ends that the code hands from section to section, and what it knows of the text. No contract of a call that users make, and no theorem that
-- docs/ARCHITECTURE.md names, says anything by these; tests/believed.py holds that up.
pub mod Counts
pub mod Text
