-- Definitions that no public contract rests on: private contracts and proofs use them.
pub mod Listing
pub mod Answers
pub mod Reads
pub mod Requests
pub mod Steps
