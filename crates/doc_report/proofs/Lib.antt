pub mod Reasons
pub mod Entries
pub mod Told
pub mod FaultyMembers
pub mod Pieces
pub mod Printable
