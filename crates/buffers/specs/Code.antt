-- What functions inside the library promise each other: words put at a position, as far as there is room. No contract of a call that users make, and no theorem that
-- docs/ARCHITECTURE.md names, says anything by these; tests/believed.py holds that up.
pub mod Put
pub mod Text
