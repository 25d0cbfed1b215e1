pub mod RequestReading
pub mod ReplyReading
pub mod Encoders
pub mod Decoders
