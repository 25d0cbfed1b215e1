pub mod Address
pub mod Counts
pub mod LogLine
pub mod Saving
pub mod Serve
pub mod Serving
pub mod Log
