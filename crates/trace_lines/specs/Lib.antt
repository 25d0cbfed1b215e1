pub mod EventLine
pub mod Events
pub mod TraceText
pub mod Picture
pub mod Laws
pub mod Private
