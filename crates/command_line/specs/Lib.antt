pub mod Answers
pub mod Asking
pub mod Places
pub mod Serving
pub mod Settings
