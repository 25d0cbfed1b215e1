pub mod Choosing
pub mod Checking
