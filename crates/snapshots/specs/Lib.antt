pub mod Names
pub mod Files
pub mod Deeds
pub mod Seen
pub mod Update
pub mod Fetch
pub mod Laws
