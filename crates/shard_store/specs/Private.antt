-- Definitions that no public contract rests on: private contracts and proofs use them.
pub mod Readings
pub mod Fresh
pub mod Seat
pub mod LastReads
pub mod LastAll
pub mod Desk
