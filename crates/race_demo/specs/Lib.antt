pub mod Moment
pub mod Report
pub mod Private
