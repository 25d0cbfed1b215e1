pub mod EventReading
pub mod Puts
