pub mod Ignored
pub mod KeyMember
pub mod Report
pub mod Quoted
pub mod Fault
pub mod Lines
pub mod Laws
pub mod Private
