-- What functions inside the library promise each other: entries by number, rows, places of names and rounds over the store. No contract of a call that users make, and no theorem that
-- docs/ARCHITECTURE.md names, says anything by these; tests/believed.py holds that up.
pub mod Entries
pub mod Slots
pub mod Rows
pub mod Turns
pub mod Held
