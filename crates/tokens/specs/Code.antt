-- What functions inside the library promise each other: kinds of tokens as numbers, pieces and tokens as the code finds them. No contract of a call that users make, and no
-- theorem that docs/ARCHITECTURE.md names, says anything by these; tests/believed.py holds that up.
pub mod TokenKind
pub mod Found
pub mod Arrays
