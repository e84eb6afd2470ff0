pub mod Bytes
pub mod Request
pub mod Completion
pub mod Packet
pub mod Laws
