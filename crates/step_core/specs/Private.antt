-- Definitions that no public contract rests on: private contracts and proofs use them.
pub mod Driver
pub mod Shown
pub mod Codes
pub mod Progress
pub mod Parts
