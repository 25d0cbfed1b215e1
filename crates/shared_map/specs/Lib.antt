pub mod Name
pub mod Marks
pub mod Places
pub mod Seats
pub mod Top
pub mod Walk
