pub mod Packets
pub mod Writes
pub mod Steps
