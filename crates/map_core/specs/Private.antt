-- Definitions that no public contract rests on: private contracts and proofs use them.
pub mod Held
pub mod Outcome
pub mod Codes
pub mod Turns
