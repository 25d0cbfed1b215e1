-- Definitions that no public contract rests on: private contracts and proofs use them.
pub mod Storage
pub mod Refusals
pub mod DumpReading
pub mod Round
pub mod Gathered
pub mod Steps
pub mod Pending
