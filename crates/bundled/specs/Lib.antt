pub mod Ask
pub mod Refresh
pub mod Snapshot
pub mod Stats
pub mod Race
pub mod Serve
pub mod Screen
pub mod Command
