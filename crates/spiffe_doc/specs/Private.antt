-- Definitions that no public contract rests on: private contracts and proofs use them.
pub mod EntrySet
pub mod Encoded
pub mod Symbols
pub mod Given
pub mod Entries
pub mod Places
pub mod Fronts
pub mod Kept
pub mod Numbers
pub mod Matching
pub mod Borrowed
pub mod WholeSet
pub mod Prefix
pub mod Writing
pub mod Equality
pub mod Texts
