pub mod Packets
pub mod Writing
