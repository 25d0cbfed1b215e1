-- Definitions that no public contract rests on: private contracts and proofs use them.
pub mod Numbers
pub mod Names
pub mod RefusedChange
pub mod Goes
pub mod Limited
pub mod Serving
