-- What functions inside the library promise each other: the sections of a law file, written from the tokens of a text. No contract of a call that users make, and no
-- theorem that docs/ARCHITECTURE.md names, says anything by these; tests/believed.py holds that up.
pub mod Held
pub mod Found
pub mod Closers
pub mod Place
