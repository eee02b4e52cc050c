-- What functions inside the library promise each other: the tests that come before a search. No contract of a call that users make, and no theorem that
-- docs/ARCHITECTURE.md names, says anything by these; tests/believed.py holds that up.
pub mod Loose
pub mod Greedy
pub mod Ahead
pub mod Parity
