-- Definitions that no public contract rests on: private contracts and proofs use them.
pub mod Fronts
pub mod Merging
pub mod Writing
pub mod Names
pub mod Reading
